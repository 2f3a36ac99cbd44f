-- Two boxes whose bytes agree in a part of the layout say the same there.
use Prim.Native.Nat.{ℕ, ◌+◌, ◌-◌, ◌*◌, ◌/◌, ◌<◌, ◌≤◌}
use native.Mathlib.Omega.{arith}
use mathlib.Core.Bool.{true, false}
use mathlib.Core.List.{List}
use mathlib.Core.Path.{◌≡◌, sym, ap, fun_ext, ◌∙◌}
use mathlib.Core.Logic.{◌⊎◌, inl, inr}
use lib.ListN.{length}
use Rattle.base.specs.Bytes.{byte_at}
use Rattle.base.specs.Tab.{tab}
use Rattle.base.proofs.Tab.{tab_ext}
use Rattle.base.proofs.Truth.{either}
use Rattle.bits.specs.Row.{Bytes}
use Rattle.bits.proofs.Row.{bit_at_same}
use Rattle.bits.proofs.Number.{num_ext}
use Rattle.state.specs.Layout.{peers, count_bytes, item_bytes}
use Rattle.state.specs.Facts.{is_cell, is_spot}
use Rattle.state.specs.Places.{cell}
use Rattle.state.proofs.Ranges.{cell_within, spot_within}
use Rattle.field_state.specs.Layout.{known_at, current_at, down_at, count_at, hash_size, hash_start}
use Rattle.field_state.specs.Holding.{cell_bit, spot_bit, heard_count, hash_at, heard_in, Canon}
use Rattle.field_state.proofs.Cells.{no_cell, no_spot, has-cell, has-spot}

module _ (t s : List ℕ) where
  pub cells_same : (o : ℕ) → ((i : ℕ) → o ≤ i → i < o + 64 → byte_at t i ≡ byte_at s i) → cell_bit t o ≡ cell_bit s o
  cells_same o same = fun_ext (λ p. fun_ext (λ x. go p x (either (is_cell p x))))
    where
      go : (p x : ℕ) → (is_cell p x ≡ true) ⊎ (is_cell p x ≡ false) → cell_bit t o p x ≡ cell_bit s o p x
      go p x (inl e) =
          let w = cell_within p x e in
          sym (has-cell t o p x e)
          ∙ bit_at_same t s (8 * o + cell p x) (same ((8 * o + cell p x) / 8) (omega (arith, w.0, w.1)) (omega (arith, w.0, w.1)))
          ∙ has-cell s o p x e
      go p x (inr e) = no_cell t o p x e ∙ sym (no_cell s o p x e)

  pub spots_same : ((i : ℕ) → known_at ≤ i → i < current_at → byte_at t i ≡ byte_at s i) → spot_bit t ≡ spot_bit s
  spots_same same = fun_ext (λ p. fun_ext (λ x. fun_ext (λ k. go p x k (either (is_spot k p x)))))
    where
      go : (p x k : ℕ) → (is_spot k p x ≡ true) ⊎ (is_spot k p x ≡ false) → spot_bit t p x k ≡ spot_bit s p x k
      go p x k (inl e) =
          let w = spot_within k p x e in
          let a = 8 * known_at + (cell p x * peers + (k - 1)) in
          sym (has-spot t p x k e)
          ∙ bit_at_same t s a
          (same (a / 8) (omega (arith, w.0.0, w.0.1, w.1.0, w.1.1)) (omega (arith, w.0.0, w.0.1, w.1.0, w.1.1)))
          ∙ has-spot s p x k e
      go p x k (inr e) = no_spot t p x k e ∙ sym (no_spot s p x k e)

  pub hash_same : (e : ℕ) → ((i : ℕ) → hash_start e ≤ i → i < hash_start e + hash_size → byte_at t i ≡ byte_at s i) → hash_at t e ≡ hash_at s e
  unfolding hash_at
  hash_same e same = rw (
    same (hash_start e) (omega arith) (omega arith),
    same (hash_start e + 1) (omega arith) (omega arith),
    num_ext item_bytes t s (hash_start e + 2) (λ i p q. same i (omega arith) (omega arith)),
  )

  -- from the count on
  module _ (same : (i : ℕ) → count_at ≤ i → byte_at t i ≡ byte_at s i) where
    count_same : heard_count t ≡ heard_count s
    count_same = num_ext count_bytes t s count_at (λ i p q. same i p)

    pub heard_same : heard_in t ≡ heard_in s
    unfolding heard_in
    heard_same =
        ap (λ (n : ℕ). tab n (hash_at t)) count_same
        ∙ tab_ext (heard_count s) (hash_at t) (hash_at s) (λ e l. hash_same e (λ i p q. same i (omega arith)))

    pub canon_same : Canon s → length t ≡ length s → Bytes t → byte_at t down_at ≤ 1 → Canon t
    canon_same c l b f = record {
      long = l ∙ c.long;
      bytes = b;
      flag = f;
      counted = rw count_same c.counted;
      rest = λ i h. same i (omega arith) ∙ c.rest i (rw count_same at h);
    }
