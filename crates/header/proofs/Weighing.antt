-- Laws of the weights: what each is by the bytes, by the struct, and together.
use Prim.Native.Nat.{ℕ, zero, suc, ◌+◌, ◌-◌, ◌*◌, ◌^◌, ◌≤◌, ◌<◌, min}
use native.Mathlib.Nat.{pow-le-pow_right, zero-lt-suc}
use native.Mathlib.Numerals.{add-one}
use native.Mathlib.Omega.{arith}
use mathlib.Core.Bool.{Bool, true, false, not, cond}
use mathlib.Core.List.{List}
use mathlib.Core.Logic.{◌⊎◌, inl, inr}
use mathlib.Core.Path.{◌≡◌, refl, sym, ap, subst, ◌∙◌}
use borrow.Author.Tests.{le-leb, not-true, not-false}
use Rattle.base.specs.Bytes.{between}
use Rattle.base.specs.Bits.{digit, member, pack}
use Rattle.base.specs.Weight.{weight, ones, all}
use Rattle.base.proofs.Truth.{either, split, is_false, and_i}
use Rattle.base.proofs.Below.{every-at}
use Rattle.base.proofs.Bits.{pack-lt}
use Rattle.base.proofs.Bytes.{between_true}
use Rattle.base.proofs.Members.{member-among, member-pack}
use Rattle.base.proofs.Weight.{weight_same, count-all}
use Rattle.header.specs.declared.weights.Feature.{Feature}
use Rattle.header.specs.declared.weights.Feature.TheVariants.{Even, Heavy}
use Rattle.header.specs.Season.{season_of, has_weights}
use Rattle.header.specs.Header.{field_of, peers_of, honest_of, weight_count, weight_in, total_weight, has, peers_with}
use Rattle.header.specs.Header.{head_of, even_in, heavy_in, weight_ok, weights_ok, header_ok}
use Rattle.header.specs.Quorum.{weight_of}
use Rattle.header.proofs.Fields.{second-set, third-set}
use Rattle.header.proofs.Ranges.{honest_fits, weights_right}

module _ (s : List ℕ) where
  -- a peer with a weight of its own, and one without

  pub weight_byte : (k : ℕ) → 1 ≤ k → k ≤ weight_count s → weight_in s k ≡ field_of s (5 + k)
  unfolding weight_in
  weight_byte k low high = rw (le-leb 1 k low, le-leb k (weight_count s) high)

  pub weight-none : (k : ℕ) → between 1 k (weight_count s) ≡ false → weight_in s k ≡ 1
  unfolding weight_in
  weight-none k out = rw out

  -- for the function that reads it, by the number of weights

  module _ (k : ℕ) {count : ℕ} {ok : Bool} (count-is : count ≡ weight_count s) (tested : ok ≡ between 1 k count) where
    pub weight-out : not ok ≡ true → 1 ≡ weight_in s k
    weight-out out = sym (weight-none k (rw count-is at (sym tested ∙ not-true ok out)))

    module _ (in_range_lem : not ok ≡ false) where
      within : (1 ≤ k) × (k ≤ weight_count s)
      within = between_true 1 k (weight_count s) (rw count-is at (sym tested ∙ not-false ok in_range_lem))

      pub weight_here : {w : ℕ} → w ≡ field_of s (5 + k) → w ≡ weight_in s k
      weight_here w-is = w-is ∙ sym (weight_byte k within.0 within.1)

      pub place_fits : count ≤ 16 → 5 + k < 2 ^ 8
      place_fits most = omega (arith, most, count-is, within.1)

  -- in a table without weights each peer weighs 1, and all together as much as there are

  pub each-one : weight_count s ≡ 0 → (k : ℕ) → weight_in s k ≡ 1
  each-one none k = weight-none k (is_false (between 1 k (weight_count s)) (λ e.
      let in_range_lem = between_true 1 k (weight_count s) e in
      omega (arith, in_range_lem.0, in_range_lem.1, none)))

  pub total_counted : weight_count s ≡ 0 → total_weight s ≡ peers_of s
  total_counted none = weight_same (weight_in s) ones (peers_of s) all (λ k l m. each-one none k) ∙ count-all (peers_of s)

  -- how a loop adds them: none yet, one more, and all

  pub total_none : 0 ≡ weight (weight_in s) 0 all
  unfolding weight
  total_none = refl

  pub total_more : (k : ℕ) {v w : ℕ} → v ≡ weight (weight_in s) k all → w ≡ weight_in s (k + 1)
      → v + w ≡ weight (weight_in s) (k + 1) all
  unfolding weight
  total_more k v-is w-is = rw (add-one k) (rw (← add-one k) (omega (arith, v-is, w-is)))

  pub total_end : (k : ℕ) {v n : ℕ} → n ≡ peers_of s → k ≡ n → v ≡ weight (weight_in s) k all → v ≡ total_weight s
  total_end k n-is e v-is = v-is ∙ ap (λ (j : ℕ). weight (weight_in s) j all) (e ∙ n-is)

-- a weight of 1 to 4 is what its two features say
by_features : (w : ℕ) → 1 ≤ w → w ≤ 4 → 1 + digit (has Even w) + 2 * digit (has Heavy w) ≡ w
by_features zero low high = absurd (omega arith)
by_features (suc zero) low high = refl
by_features (suc (suc zero)) low high = refl
by_features (suc (suc (suc zero))) low high = refl
by_features (suc (suc (suc (suc zero)))) low high = refl
by_features (suc (suc (suc (suc (suc w))))) low high = absurd (omega arith)

-- who has a feature

module _ (s : List ℕ) (feature : Feature) where
  pub with_feature : (k : ℕ) → 1 ≤ k → k ≤ weight_count s → member (peers_with feature s) k ≡ has feature (weight_in s k)
  unfolding peers_with
  with_feature k low high = member-pack (weight_count s) (λ j. has feature (weight_in s j)) k low high

  pub without-weight : (k : ℕ) → between 1 k (weight_count s) ≡ false → member (peers_with feature s) k ≡ false
  unfolding peers_with
  without-weight k out = is_false (member (peers_with feature s) k) (λ e.
      let in_range_lem = member-among (weight_count s) (peers_with feature s) (pack-lt (weight_count s) _) k e in
      split (and_i _ _ (le-leb 1 k in_range_lem.0) (le-leb k (weight_count s) in_range_lem.1)) out)

  -- they take sixteen bits
  pub with_fits : peers_with feature s < 65536
  unfolding peers_with
  with_fits =
      let most : weight_count s ≤ 16 = count_most (has_weights (season_of s)) in
      omega (
        arith,
        pack-lt (weight_count s) (λ i. has feature (weight_in s (i + 1))),
        pow-le-pow_right {n = 2} (zero-lt-suc 1) {i = weight_count s} {j = 16} most,
      )
    where
      count_most : (some : Bool) → cond some (min (peers_of s) 16) 0 ≤ 16
      count_most true = omega arith
      count_most false = omega arith

  -- in a table without weights nobody has
  pub nobody_with : weight_count s ≡ 0 → peers_with feature s ≡ 0
  unfolding peers_with pack
  nobody_with none = rw none

-- weights that are in range

module _ (s : List ℕ) (ok : weights_ok s ≡ true) where
  pub weight_range : (k : ℕ) → (1 ≤ weight_in s k) × (weight_in s k ≤ 4)
  unfolding weights_ok
  weight_range k = go (either (between 1 k (weight_count s)))
    where
      go : (between 1 k (weight_count s) ≡ true) ⊎ (between 1 k (weight_count s) ≡ false) → (1 ≤ weight_in s k) × (weight_in s k ≤ 4)
      go (inl e) =
          let in_range_lem = between_true 1 k (weight_count s) e in
          let passed = every-at (λ i. weight_ok s (i + 1)) (weight_count s) ok (k - 1) (omega (arith, in_range_lem.0, in_range_lem.1)) in
          let named = subst (λ (j : ℕ). weight_ok s j ≡ true) {x = k - 1 + 1} {y = k} (omega (arith, in_range_lem.0)) passed in
          between_true 1 (weight_in s k) 4 named
      go (inr e) = let one = weight-none s k e in (omega (arith, one), omega (arith, one))

  -- the first k peers weigh at most 4 each, and so with up to 16 peers there is room in a byte for one more

  pub total_most : (k : ℕ) → weight (weight_in s) k all ≤ 4 * k
  unfolding weight
  total_most zero = omega arith
  total_most (suc k) = omega (arith, total_most k, (weight_range (suc k)).1)

  pub total_fits : (k : ℕ) {v w : ℕ} → k < 16 → v ≡ weight (weight_in s) k all → w ≡ weight_in s (k + 1) → v + w < 2 ^ 8
  total_fits k l v-is w-is = omega (arith, v-is, w-is, total_most k, (weight_range (k + 1)).1)

-- a header that is right: the struct has the weights as the bytes do

module _ (s : List ℕ) (ok : header_ok s ≡ true) where
  read_even : even_in (head_of s) ≡ peers_with Even s
  read_even = second-set (honest_of s) (peers_with Even s) (peers_with Heavy s) (honest_fits s ok) (with_fits s Even)

  read_heavy : heavy_in (head_of s) ≡ peers_with Heavy s
  read_heavy =
      third-set (honest_of s) (peers_with Even s) (peers_with Heavy s) (honest_fits s ok) (with_fits s Even) (with_fits s Heavy)

  pub weight-read : (k : ℕ) → weight_of (head_of s) k ≡ weight_in s k
  unfolding weight_of
  weight-read k = rw (read_even, read_heavy) (go (either (between 1 k (weight_count s))))
    where
      go : (between 1 k (weight_count s) ≡ true) ⊎ (between 1 k (weight_count s) ≡ false)
          → 1 + digit (member (peers_with Even s) k) + 2 * digit (member (peers_with Heavy s) k) ≡ weight_in s k
      go (inl e) =
          let in_range_lem = between_true 1 k (weight_count s) e in
          let w = weight_range s (weights_right s ok) k in
          rw (with_feature s Even k in_range_lem.0 in_range_lem.1, with_feature s Heavy k in_range_lem.0 in_range_lem.1)
          (by_features (weight_in s k) w.0 w.1)
      go (inr e) = rw (without-weight s Even k e, without-weight s Heavy k e) (sym (weight-none s k e))
