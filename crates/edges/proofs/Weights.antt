-- What the weights of a table are, when its header is right, and that without them peers are counted.
use Prim.Native.Nat.{ℕ, ◌+◌, ◌*◌, ◌≤◌}
use native.Mathlib.Omega.{arith}
use mathlib.Core.Bool.{true, false, ◌&&◌, and_assoc}
use mathlib.Core.List.{List, ◌∷◌}
use mathlib.Core.Logic.{◌⊎◌, inl, inr}
use mathlib.Core.Path.{◌≡◌, refl, ap, ◌∙◌}
use lib.Dec.{leb, ltb}
use lib.ListN.{length}
use borrow.Author.Tests.{le-leb, leb-true, lt-ltb, ltb-true}
use Rattle.base.specs.Below.{every}
use Rattle.base.specs.Bytes.{byte_at, between}
use Rattle.base.specs.Weight.{weight, ones, all}
use Rattle.base.proofs.Below.{every_ext}
use Rattle.base.proofs.Bytes.{between_true}
use Rattle.base.proofs.Truth.{either, iff, and_i, and_l, and_r, and_false}
use Rattle.base.proofs.Weight.{weight_same}
use Rattle.header.specs.declared.season.Season.TheVariants.{Third}
use Rattle.header.specs.Season.{zero_then, season_of}
use Rattle.header.specs.Header.{header_size, peers_of, weight_count, weight_in, head_of, is_honest}
use Rattle.header.specs.Header.{least_threshold, weights_ok, threshold_ok, fields_ok, header_ok}
use Rattle.header.specs.Quorum.{weight_of}
use Rattle.header.proofs.Seasons.{third_of, older, no_weights, for_each_peer, later_field, third-field, third-size}
use Rattle.header.proofs.TwoThirds.{least_above, least_exact}
use Rattle.header.proofs.Weighing.{weight_byte, each-one, total_counted}
use Rattle.ballot.specs.Table.{refusal}
use Rattle.ballot.specs.Sound.{Sound}
use Rattle.ballot.proofs.Sound.{sound}
use Rattle.edges.specs.Weights.{sum, in_words, ThenThree, WeighsAsRead, Taken, Counted}

-- the threshold is in range exactly if 2W < 3t ≤ 3W
in_range_lem : (w t : ℕ) → threshold_ok w t ≡ (ltb (2 * w) (3 * t) && leb (3 * t) (3 * w))
unfolding threshold_ok
in_range_lem w t = iff _ _
    (λ e. let b = between_true (least_threshold w) t w e in
    and_i _ _ (lt-ltb (2 * w) (3 * t) (omega (arith, least_above w, b.0))) (le-leb (3 * t) (3 * w) (omega (arith, b.1))))
    (λ e. and_i _ _
    (le-leb (least_threshold w) t (least_exact w t (ltb-true (2 * w) (3 * t) (and_l _ (leb (3 * t) (3 * w)) e))))
    (le-leb t w (omega (arith, leb-true (3 * t) (3 * w) (and_r (ltb (2 * w) (3 * t)) _ e)))))

-- a table that starts with 0 and 3

module _ (s : List ℕ) where
  abbrev table : List ℕ
  table = 0 ∷ 3 ∷ s

  abbrev n : ℕ
  n = byte_at s 0

  module _ (few : n ≤ 16) where
    count : weight_count table ≡ n
    count = for_each_peer table refl (omega (arith, third-field s 0, few)) ∙ third-field s 0

    pairs-at : header_size table ≡ 8 + n
    pairs-at = omega (arith, third-size table refl, count)

    weight_there : (k : ℕ) → 1 ≤ k → k ≤ n → weight_in table k ≡ byte_at s (5 + k)
    weight_there k low high = weight_byte table k low (omega (arith, count, high)) ∙ third-field s (5 + k)

    total : weight (weight_in table) n all ≡ sum s
    total = weight_same (weight_in table) (λ k. byte_at s (5 + k)) n all weight_there

    all_right : weights_ok table ≡ every n (λ i. between 1 (byte_at s (6 + i)) 4)
    unfolding weights_ok
    all_right =
        ap (λ (m : ℕ). every m (λ i. between 1 (weight_in table (i + 1)) 4)) count
        ∙ every_ext n (λ i. between 1 (weight_in table (i + 1)) 4) (λ i. between 1 (byte_at s (6 + i)) 4)
        (λ i l. ap (λ (w : ℕ). between 1 w 4)
        (weight_there (i + 1) (omega arith) (omega (arith, l)) ∙ ap (byte_at s) {x = 5 + (i + 1)} {y = 6 + i} (omega arith)))

    -- the header is whole exactly if the weights are there
    whole : leb (header_size table) (length table) ≡ (leb 6 (length s) && leb (6 + n) (length s))
    whole = iff _ _
        (λ e. let l = leb-true (header_size table) (length table) e in
        and_i _ _ (le-leb 6 (length s) (omega (arith, l, pairs-at))) (le-leb (6 + n) (length s) (omega (arith, l, pairs-at))))
        (λ e. le-leb (header_size table) (length table)
        (omega (arith, pairs-at, leb-true (6 + n) (length s) (and_r (leb 6 (length s)) _ e))))

  judged : header_ok table ≡ in_words s
  unfolding header_ok fields_ok
  judged = go (either (between 1 n 16))
    where
      go : (between 1 n 16 ≡ true) ⊎ (between 1 n 16 ≡ false) → header_ok table ≡ in_words s
      go (inl e) =
          let few = (between_true 1 n 16 e).1 in
          simp (whole few, all_right few, third-field s, total few, in_range_lem, e, and_assoc)
      go (inr e) = simp (third-field s, e, and_false)

pub then_three : ThenThree
then_three = record { judged = judged; pairs-at = pairs-at }

-- a table that is taken

module _ (s : List ℕ) (fit : refusal s ≡ 0) where
  abbrev S : Sound s
  S = sound s fit

  weighs : zero_then s 3 ≡ true → (k : ℕ) → 1 ≤ k → k ≤ peers_of s → WeighsAsRead s k
  weighs third k low high = record {
    byte = S.weight-read k ∙ read;
    least = rw (← read) (S.weight_least k);
    most = rw (← read) (S.weight_most k);
  }
    where
      is_third : Third ≡ season_of s
      is_third = third_of s third

      here : k ≤ weight_count s
      here = omega (arith, high, for_each_peer s (rw (← is_third)) S.peers_most)

      read : weight_in s k ≡ byte_at s (7 + k)
      read =
          weight_byte s k low here
          ∙ later_field s (rw (← is_third)) (5 + k)
          ∙ ap (byte_at s) {x = 2 + (5 + k)} {y = 7 + k} (omega arith)

  pub weights_taken : Taken s
  weights_taken = record {
    above = S.threshold_rule;
    within = S.threshold_most;
    weights = weighs;
    total = weight_same (weight_of (head_of s)) (weight_in s) (peers_of s) all (λ k l m. S.weight-read k);
  }

-- a table without weights

module _ (s : List ℕ) (fit : refusal s ≡ 0) (older-table : zero_then s 3 ≡ false) where
  none : weight_count s ≡ 0
  none = no_weights s (older s older-table)

  weighs_one : (k : ℕ) → weight_of (head_of s) k ≡ 1
  weighs_one k = (sound s fit).weight-read k ∙ each-one s none k

  pub peers_counted : Counted s
  peers_counted = record {
    ones = weighs_one;
    total = total_counted s none;
    honest = weight_same (weight_of (head_of s)) ones (peers_of s) (is_honest (head_of s)) (λ k l m. weighs_one k);
  }
