-- Sets in the box's bytes, read: a bit, and a whole set as a number.
use Prim.Native.Nat.{ℕ, ◌+◌, ◌-◌, ◌*◌, ◌<◌, ◌≤◌}
use native.Mathlib.Omega.{arith}
use mathlib.Core.Bool.{Bool, true, false}
use mathlib.Core.List.{List}
use mathlib.Core.Path.{◌≡◌, sym, ap, ◌∙◌}
use lib.Pow.{pow_pos}
use Rattle.base.specs.Bits.{bit, pack}
use Rattle.base.proofs.Bits.{bit-none, pack_ext, pack-bit}
use Rattle.base.proofs.Truth.{split, is_false}
use Rattle.bits.specs.Row.{bit_at}
use Rattle.bits.specs.Number.{num}
use Rattle.bits.proofs.Number.{num-pack}
use Rattle.header.specs.declared.Signers.{Signers}
use Rattle.state.specs.Layout.{peers, periods, items, peer_bytes, item_bytes}
use Rattle.state.specs.Facts.{is_cell, is_spot}
use Rattle.state.specs.Places.{cell}
use Rattle.state.proofs.Ranges.{cell_within, within_cell, spot_within, within_spot}
use Rattle.field_state.specs.Layout.{known_at}
use Rattle.field_state.specs.Holding.{cell_bit, spot_bit, items_in, signers_in, Canon}

module _ (s : List ℕ) where
  -- where there is room for them
  pub has-cell : (o p x : ℕ) → is_cell p x ≡ true → bit_at s (8 * o + cell p x) ≡ cell_bit s o p x
  unfolding cell_bit
  has-cell o p x e = rw e

  pub no_cell : (o p x : ℕ) → is_cell p x ≡ false → cell_bit s o p x ≡ false
  unfolding cell_bit
  no_cell o p x e = rw e

  pub has-spot : (p x k : ℕ) → is_spot k p x ≡ true → bit_at s (8 * known_at + (cell p x * peers + (k - 1))) ≡ spot_bit s p x k
  unfolding spot_bit
  has-spot p x k e = rw e

  pub no_spot : (p x k : ℕ) → is_spot k p x ≡ false → spot_bit s p x k ≡ false
  unfolding spot_bit
  no_spot p x k e = rw e

  -- a bit as the code reads it, after the test for room
  module _ (o p x : ℕ) {b : Bool} (e : b ≡ is_cell p x) where
    pub cell_yes : (a : ℕ) {r : Bool} → b ≡ true → r ≡ bit_at s a → a ≡ 8 * o + cell p x → r ≡ cell_bit s o p x
    cell_yes a t q at = q ∙ ap (bit_at s) at ∙ has-cell o p x (sym e ∙ t)

    pub cell_no : b ≡ false → false ≡ cell_bit s o p x
    cell_no t = sym (no_cell o p x (sym e ∙ t))

  pack-none : (n : ℕ) (f : ℕ → Bool) → ((k : ℕ) → f k ≡ false) → 0 ≡ pack n f
  pack-none n f e = sym (pack_ext n f (bit 0) (λ k l. e k ∙ sym (bit-none k)) ∙ pack-bit n 0 (pow_pos n))

  -- the items of a period
  pub items_in_lem : (o p v : ℕ) → Canon s → p < periods → v ≡ num item_bytes s (o + item_bytes * p) → v ≡ items_in s o p
  unfolding items_in
  items_in_lem o p v c l e =
      e
      ∙ num-pack item_bytes s (o + item_bytes * p) c.bytes
      ∙ pack_ext items (λ k. bit_at s (8 * (o + item_bytes * p) + k)) (cell_bit s o p)
      (λ k m. ap (bit_at s) (omega arith) ∙ has-cell o p k (within_cell p k (l, m)))

  pub items-out : (o p : ℕ) → periods ≤ p → 0 ≡ items_in s o p
  unfolding items_in
  items-out o p l = pack-none items (cell_bit s o p)
      (λ x. no_cell o p x (is_false (is_cell p x) (λ e. let w = (cell_within p x e).0 in omega arith)))

  -- the signers of an item
  module _ (p x : ℕ) {b : Bool} (e : b ≡ is_cell p x) where
    pub signers_in_lem : Canon s → b ≡ true → (a w : ℕ) → a ≡ cell p x → w ≡ num peer_bytes s (known_at + peer_bytes * a)
        → ◌≡◌ {A = Signers} (record { 0 = w }) (signers_in s p x)
    unfolding signers_in
    signers_in_lem c y a w at q =
        let h = cell_within p x (sym e ∙ y) in
        λ i. record {
          0 = (q
              ∙ num-pack peer_bytes s (known_at + peer_bytes * a) c.bytes
              ∙ pack_ext peers (λ k. bit_at s (8 * (known_at + peer_bytes * a) + k)) (λ k. spot_bit s p x (k + 1))
              (λ k m. ap (bit_at s) (omega arith) ∙ has-spot p x (k + 1) (within_spot (k + 1) p x ((omega arith, omega arith), h)))) i;
        }

    pub signers-out : b ≡ false → ◌≡◌ {A = Signers} (record { 0 = 0 }) (signers_in s p x)
    unfolding signers_in
    signers-out n = λ i. record {
      0 = pack-none peers (λ k. spot_bit s p x (k + 1))
          (λ k. no_spot p x (k + 1) (is_false (is_spot (k + 1) p x)
          (λ r. split (within_cell p x (spot_within (k + 1) p x r).1) (sym e ∙ n)))) i;
    }
