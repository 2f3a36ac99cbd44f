-- A table of the third season in which every weight is 1 is judged and read as the one of the second with the same
-- fields.
use Prim.Native.Nat.{ℕ, zero, suc, ◌+◌, ◌≤◌, ◌<◌}
use native.Mathlib.Omega.{arith}
use mathlib.Core.Bool.{true, false, not, cond}
use mathlib.Core.List.{List, []}
use mathlib.Core.Logic.{◌⊎◌, inl, inr}
use mathlib.Core.Path.{◌≡◌, refl, sym, ap, ap₂, ◌∙◌}
use lib.Dec.{leb, ltb}
use lib.ListN.{length}
use borrow.Author.Tests.{ltb-true, not-false}
use Rattle.base.specs.Below.{every}
use Rattle.base.specs.Bits.{pack}
use Rattle.base.specs.Bytes.{byte_at, between, same_bytes}
use Rattle.base.specs.Refusals.{first}
use Rattle.base.specs.Weight.{ones, all}
use Rattle.base.proofs.Below.{every_ext, every_of}
use Rattle.base.proofs.Bits.{pack_ext}
use Rattle.base.proofs.Bytes.{between_true}
use Rattle.base.proofs.Refusals.{passed}
use Rattle.base.proofs.Truth.{either, and_l, and_false}
use Rattle.base.proofs.Weight.{weight_same, count-all}
use Rattle.header.specs.declared.season.Season.TheVariants.{Second, Third}
use Rattle.header.specs.declared.weights.Feature.{Feature}
use Rattle.header.specs.declared.weights.Feature.TheVariants.{Even, Heavy}
use Rattle.header.specs.Season.{season_of}
use Rattle.header.specs.Header.{header_size, field_of, peers_of, honest_of, items_of, weight_count, weight_in, total_weight, has, peers_with}
use Rattle.header.specs.Header.{joined, head_of, weight_ok, weights_ok, header_ok}
use Rattle.header.proofs.Ranges.{peers_range}
use Rattle.header.proofs.Seasons.{second-of, third_of, no_weights, for_each_peer, later_field, second-size, third-size}
use Rattle.header.proofs.Weighing.{weight_byte, weight-none, total_counted, nobody_with}
use Rattle.pairs.specs.Pairs.{text_of, pairs_ok}
use Rattle.twins.specs.Twins.{differ, new_at, twinless}
use Rattle.ballot.specs.declared.item.Audits.TheVariants.{Placed}
use Rattle.ballot.specs.Item.{is_item, item_at, all_items}
use Rattle.ballot.specs.Table.{table_pairs_ok, item_below, item_text, items_ok, no_twins, table_refusals, refusal}
use Rattle.clash.specs.Clash.{clash_in}
use Rattle.edges.specs.Weights.{SameButOnes, AsSecond, WeightEdges}
use Rattle.edges.proofs.Every.{header_refused}
use Rattle.edges.proofs.Shifted.{both_longer, pairs_same, text_same}
use Rattle.edges.proofs.Unweighed.{unweighed_same}
use Rattle.edges.proofs.Weights.{then_three, weights_taken, peers_counted}

pack_nothing : (n : ℕ) → pack n (λ k. false) ≡ 0
unfolding pack
pack_nothing zero = refl
pack_nothing (suc n) = omega (arith, pack_nothing n)

-- 1 is neither even nor heavy
one_has : (feature : Feature) → has feature 1 ≡ false
one_has Even = refl
one_has Heavy = refl

-- how a table is judged by its four tests

pairs-refused : (s : List ℕ) → header_ok s ≡ true → table_pairs_ok s ≡ false → refusal s ≡ 2
unfolding refusal first
pairs-refused s ok bad = rw (ok, bad)

judged_by : (s r : List ℕ) → header_ok s ≡ header_ok r → table_pairs_ok s ≡ table_pairs_ok r → items_ok s ≡ items_ok r → no_twins s ≡ no_twins r
    → refusal s ≡ refusal r
unfolding refusal
judged_by s r a b c d = rw (a, b, c, d)

module _ (s r : List ℕ) (R : SameButOnes s r) where
  abbrev n : ℕ
  n = byte_at s 2

  abbrev m : ℕ
  m = byte_at r 7

  is_third : Third ≡ season_of s
  is_third = third_of s R.third

  is_second : Second ≡ season_of r
  is_second = second-of r R.second

  -- the fields

  field_s : (i : ℕ) → field_of s i ≡ byte_at s (2 + i)
  field_s = later_field s (rw (← is_third))

  field_r : (i : ℕ) → field_of r i ≡ byte_at r (2 + i)
  field_r = later_field r (rw (← is_second))

  same : (i : ℕ) → ltb i 6 ≡ true → field_of s i ≡ field_of r i
  same i l = field_s i ∙ R.fields i (ltb-true i 6 l) ∙ sym (field_r i)

  pub items_s : items_of s ≡ m
  items_s = same 5 refl ∙ field_r 5

  pub items_r : items_of r ≡ m
  items_r = field_r 5

  none : weight_count r ≡ 0
  none = no_weights r (rw (← is_second))

  -- the weights

  pub weighs_one : (k : ℕ) → weight_in s k ≡ 1
  weighs_one k = go (either (between 1 k (weight_count s)))
    where
      most : weight_count s ≤ peers_of s
      most = rw (← is_third) (omega arith)

      go : (between 1 k (weight_count s) ≡ true) ⊎ (between 1 k (weight_count s) ≡ false) → weight_in s k ≡ 1
      go (inl e) =
          let here = between_true 1 k (weight_count s) e in
          weight_byte s k here.0 here.1
          ∙ field_s (5 + k)
          ∙ ap (byte_at s) {x = 2 + (5 + k)} {y = 7 + k} (omega arith)
          ∙ R.ones k here.0 (omega (arith, here.1, most, field_s 0))
      go (inr e) = weight-none s k e

  total_s : total_weight s ≡ peers_of s
  total_s = weight_same (weight_in s) ones (peers_of s) all (λ k l h. weighs_one k) ∙ count-all (peers_of s)

  right_s : weights_ok s ≡ true
  unfolding weights_ok
  right_s = every_of (weight_count s) (λ i. weight_ok s (i + 1)) (λ i l. rw (weighs_one (i + 1)))

  right_r : weights_ok r ≡ true
  unfolding weights_ok every
  right_r = rw none

  nobody_s : (feature : Feature) → peers_with feature s ≡ 0
  unfolding peers_with
  nobody_s feature =
      pack_ext (weight_count s) (λ i. has feature (weight_in s (i + 1))) (λ k. false)
      (λ i l. ap (has feature) (weighs_one (i + 1)) ∙ one_has feature)
      ∙ pack_nothing (weight_count s)

  no_sets : (x : ℕ) → joined x (peers_with Even s) (peers_with Heavy s) 0 ≡ joined x (peers_with Even r) (peers_with Heavy r) 0
  no_sets x = omega (arith, nobody_s Even, nobody_s Heavy, nobody_with r Even none, nobody_with r Heavy none)

  head_same : head_of s ≡ head_of r
  head_same = rw (same 0 refl, same 1 refl, same 2 refl, same 3 refl, same 4 refl, same 5 refl, no_sets (honest_of r))

  -- the header

  pub size_r : header_size r ≡ 8
  size_r = second-size r is_second

  size_s : n ≤ 16 → header_size s ≡ n + 8
  size_s few = omega (arith, third-size s is_third, for_each_peer s (rw (← is_third)) (omega (arith, field_s 0, few)), field_s 0)

  whole : n ≤ 16 → leb (header_size s) (length s) ≡ leb (header_size r) (length r)
  whole few = rw (size_s few, size_r, R.rest.longer) (both_longer n 8 (length r))

  pub header_same : header_ok s ≡ header_ok r
  unfolding header_ok
  header_same = go (either (between 1 (peers_of s) 16))
    where
      go : (between 1 (peers_of s) 16 ≡ true) ⊎ (between 1 (peers_of s) 16 ≡ false) → header_ok s ≡ header_ok r
      go (inl e) =
          let few = (between_true 1 (peers_of s) 16 e).1 in
          rw (
            whole (omega (arith, field_s 0, few)),
            right_s,
            right_r,
            total_s,
            total_counted r none,
            same 0 refl,
            same 1 refl,
            same 2 refl,
            same 3 refl,
            same 4 refl,
            same 5 refl,
          )
      go (inr e) =
          let out : between 1 (peers_of r) 16 ≡ false = rw (← same 0 refl) e in
          rw (e, out, and_false (leb (header_size s) (length s)), and_false (leb (header_size r) (length r)))

  -- the pairs and the texts, where the header is right

  module _ (ok : header_ok r ≡ true) where
    pub size : header_size s ≡ n + 8
    size = size_s (omega (arith, (peers_range r ok).1, same 0 refl, field_s 0))

    table-pairs : table_pairs_ok s ≡ table_pairs_ok r
    unfolding table_pairs_ok
    table-pairs = rw (size, items_s, size_r, items_r) (pairs_same R.rest)

    module _ (right : table_pairs_ok r ≡ true) where
      text_alike : (k : ℕ) → k < m → text_of s (n + 8) k ≡ text_of r 8 k
      unfolding table_pairs_ok pairs_ok
      text_alike = text_same R.rest (and_l _ _ (rw (size_r, items_r) at right))

      all-items : items_ok s ≡ items_ok r
      unfolding items_ok all_items item_at
      all-items =
          rw (size, items_s, size_r, items_r, ← is_third, ← is_second)
          (every_ext m _ _ (λ k l. ap (is_item Placed) (text_alike k l)))

      all_new : no_twins s ≡ no_twins r
      unfolding no_twins twinless new_at differ
      all_new =
          rw (size, items_s, size_r, items_r)
          (every_ext m _ _ (λ k l. every_ext k _ _ (λ i h.
          ap₂ (λ (a b : List ℕ). not (same_bytes a b)) (text_alike i (omega (arith, l, h))) (text_alike k l))))

      texts_alike : (k : ℕ) → item_text s k ≡ item_text r k
      unfolding item_below
      texts_alike k = rw (size, items_s, size_r, items_r) (go (either (ltb k m)))
        where
          go : (ltb k m ≡ true) ⊎ (ltb k m ≡ false) → cond (ltb k m) (text_of s (n + 8) k) [] ≡ cond (ltb k m) (text_of r 8 k) []
          go (inl e) = rw e (text_alike k (ltb-true k m e))
          go (inr e) = rw e

  -- so they are judged alike: by the header, then by the pairs, and then by the items, whose texts are the same

  judged_alike : refusal s ≡ refusal r
  judged_alike = by_header (either (header_ok r))
    where
      by_pairs : header_ok r ≡ true → (table_pairs_ok r ≡ true) ⊎ (table_pairs_ok r ≡ false) → refusal s ≡ refusal r
      by_pairs ok (inl e) = judged_by s r header_same (table-pairs ok) (all-items ok e) (all_new ok e)
      by_pairs ok (inr e) = pairs-refused s (header_same ∙ ok) (table-pairs ok ∙ e) ∙ sym (pairs-refused r ok e)

      by_header : (header_ok r ≡ true) ⊎ (header_ok r ≡ false) → refusal s ≡ refusal r
      by_header (inl ok) = by_pairs ok (either (table_pairs_ok r))
      by_header (inr e) = header_refused s (header_same ∙ e) ∙ sym (header_refused r e)

  -- a table that is taken: its header and its pairs are right
  taken_texts : refusal r ≡ 0 → (k : ℕ) → item_text s k ≡ item_text r k
  unfolding refusal
  taken_texts taken =
      let tests = passed (table_refusals r) taken in
      texts_alike (not-false (header_ok r) tests.0) (not-false (table_pairs_ok r) tests.1.0)

  clash_same : refusal r ≡ 0 → (i j : ℕ) → clash_in s i j ≡ clash_in r i j
  unfolding clash_in
  clash_same taken i j = rw (← is_third, ← is_second, taken_texts taken i, taken_texts taken j)

  pub all_ones : AsSecond s r
  all_ones = record { judged = judged_alike; head = head_same; text = taken_texts; clashing = clash_same }

pub weight_edges : WeightEdges
weight_edges = record {
  then_three = then_three;
  taken = weights_taken;
  older = peers_counted;
  all_ones = all_ones;
  unweighed_same = unweighed_same;
}
