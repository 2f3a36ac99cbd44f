-- Sets that the test of row 14 takes have only what is of the table, and it takes those that have only that.
use Prim.Native.Nat.{ℕ, ◌+◌, ◌-◌, ◌*◌, ◌^◌, ◌<◌, ◌≤◌}
use native.Mathlib.Omega.{arith}
use mathlib.Core.Bool.{Bool, true, false, cond, not, ◌&&◌}
use mathlib.Core.List.{List}
use mathlib.Core.Path.{◌≡◌, refl, sym, ap, ◌∙◌}
use mathlib.Core.Logic.{◌⊎◌, inl, inr}
use lib.Dec.{ltb}
use borrow.Author.Tests.{ltb-true, ltb-false, lt-ltb, not-true}
use Rattle.base.specs.Below.{every}
use Rattle.base.specs.Bits.{bit}
use Rattle.base.proofs.Below.{any_found, every-at, every_of}
use Rattle.base.proofs.Bits.{bit_high}
use Rattle.base.proofs.Truth.{either, split, and_l, and_r}
use Rattle.bits.specs.Row.{bit_at, Bytes}
use Rattle.bits.specs.Number.{num}
use Rattle.bits.proofs.Number.{num-bit, num-lt}
use Rattle.header.specs.declared.Head.{Head}
use Rattle.state.specs.Layout.{periods, items, peer_bytes, item_bytes}
use Rattle.state.specs.Facts.{is_cell, is_spot}
use Rattle.state.specs.Places.{cell}
use Rattle.state.proofs.Ranges.{cell_within, within_cell, spot_within, within_spot}
use Rattle.view.specs.Ready.{Room}
use Rattle.field_state.specs.Layout.{known_at}
use Rattle.field_state.specs.Holding.{cell_bit, spot_bit}
use Rattle.field_state.specs.Width.{width_at}
use Rattle.field_valid.specs.BoxOk.{row_width, spot_width, cell_ok, spot_ok, spots_in}
use Rattle.field_state.proofs.Cells.{has-cell, has-spot}
use Rattle.field_state.proofs.Widths.{bits_above}

-- below a width that is something only where a test holds
within : (t : Bool) (a x : ℕ) → x < cond t a 0 → (t ≡ true) × (x < a)
within true a x l = (refl, l)
within false a x l = absurd (omega arith)

-- sets
module _ (h : Head) (s : List ℕ) (bytes : Bytes s) where
  in_width : (n o w k : ℕ) → k < 8 * n → ltb (num n s o) (2 ^ w) ≡ true → bit_at s (8 * o + k) ≡ true → k < w
  in_width n o w k l ok t = go (either (ltb k w))
    where
      go : (ltb k w ≡ true) ⊎ (ltb k w ≡ false) → k < w
      go (inl e) = ltb-true k w e
      go (inr e) = split (num-bit n s o k bytes l ∙ t) (bit_high w (num n s o) k (ltb-true (num n s o) (2 ^ w) ok) (ltb-false k w e))

  -- and the other way: bits that are all below w make a number below 2 ^ w
  of_width : (n o w : ℕ) → w ≤ 8 * n → num n s o < 2 ^ (8 * n) → ((k : ℕ) → k < 8 * n → bit_at s (8 * o + k) ≡ true → k < w)
      → ltb (num n s o) (2 ^ w) ≡ true
  of_width n o w l small all = go (either (ltb (num n s o) (2 ^ w)))
    where
      go : (ltb (num n s o) (2 ^ w) ≡ true) ⊎ (ltb (num n s o) (2 ^ w) ≡ false) → ltb (num n s o) (2 ^ w) ≡ true
      go (inl e) = e
      go (inr e) =
          let f = any_found (8 * n) (λ k. bit (num n s o) k && not (ltb k w)) (bits_above (8 * n) (num n s o) w small l ∙ rw e) in
          let k = f.0 in
          let low = all k f.1 (sym (num-bit n s o k bytes f.1) ∙ and_l (bit (num n s o) k) _ f.2) in
          absurd (omega (arith, low, ltb-false k w (not-true _ (and_r (bit (num n s o) k) _ f.2))))

  pub cell_of_ok : (o p x : ℕ) → every periods (cell_ok h s o) ≡ true → cell_bit s o p x ≡ true → (p < h.periods) × (x < h.items)
  unfolding cell_ok cell_bit row_width
  cell_of_ok o p x ok t =
      let w = cell_within p x (and_l (is_cell p x) _ t) in
      let at : bit_at s (8 * (o + item_bytes * p) + x) ≡ true = ap (bit_at s) (omega arith) ∙ and_r (is_cell p x) _ t in
      let r = within (ltb p h.periods) h.items x
      (in_width item_bytes (o + item_bytes * p) (cond (ltb p h.periods) h.items 0) x w.1
      (every-at (cell_ok h s o) periods ok p w.0) at) in
      (ltb-true p h.periods r.0, r.1)

  pub ok_of_cells : (room : Room h) (o : ℕ) → ((p x : ℕ) → cell_bit s o p x ≡ true → (p < h.periods) × (x < h.items))
      → every periods (cell_ok h s o) ≡ true
  unfolding cell_ok row_width
  ok_of_cells room o all = every_of periods (cell_ok h s o)
      (λ p l. of_width item_bytes (o + item_bytes * p) (cond (ltb p h.periods) h.items 0)
      (fits (ltb p h.periods)) (num-lt item_bytes s (o + item_bytes * p) bytes)
      (λ k m t. let c = all p k
      (sym (has-cell s o p k (within_cell p k (l, m))) ∙ ap (bit_at s) (omega arith) ∙ t) in rw (lt-ltb p h.periods c.0) c.1))
    where
      fits : (t : Bool) → cond t h.items 0 ≤ 64
      fits true = room.items
      fits false = omega arith

  pub spot_of_ok : (p x k : ℕ) → every periods (spots_in h s) ≡ true → spot_bit s p x k ≡ true
      → ((p < h.periods) × (x < h.items)) × ((1 ≤ k) × (k ≤ h.n))
  unfolding spots_in spot_ok spot_bit spot_width width_at
  spot_of_ok p x k ok t =
      let w = spot_within k p x (and_l (is_spot k p x) _ t) in
      let at : bit_at s (8 * (known_at + peer_bytes * cell p x) + (k - 1)) ≡ true = ap (bit_at s) (omega arith) ∙ and_r (is_spot k p x) _ t in
      let one = every-at (spot_ok h s p) items (every-at (spots_in h s) periods ok p w.1.0) x w.1.1 in
      let r = within (ltb p h.periods) (cond (ltb x h.items) h.n 0) (k - 1)
      (in_width peer_bytes (known_at + peer_bytes * cell p x) (cond (ltb p h.periods) (cond (ltb x h.items) h.n 0) 0) (k - 1)
      (omega (arith, w.0.1)) one at) in
      let q = within (ltb x h.items) h.n (k - 1) r.1 in
      ((ltb-true p h.periods r.0, ltb-true x h.items q.0), (w.0.0, omega (arith, q.1, w.0.0)))

  pub ok_of_spots : Room h → ((p x k : ℕ) → spot_bit s p x k ≡ true → ((p < h.periods) × (x < h.items)) × ((1 ≤ k) × (k ≤ h.n)))
      → every periods (spots_in h s) ≡ true
  unfolding spots_in spot_ok spot_width width_at
  ok_of_spots room all = every_of periods (spots_in h s) (λ p l. every_of items (spot_ok h s p) (λ x m.
      of_width peer_bytes (known_at + peer_bytes * cell p x) (cond (ltb p h.periods) (cond (ltb x h.items) h.n 0) 0)
      (fits (ltb p h.periods) (ltb x h.items)) (num-lt peer_bytes s (known_at + peer_bytes * cell p x) bytes)
      (λ k i t.
      let c = all p x (k + 1)
      (sym (has-spot s p x (k + 1) (within_spot (k + 1) p x ((omega arith, omega (arith, i)), (l, m)))) ∙ ap (bit_at s) (omega arith)
      ∙ t) in
      rw (lt-ltb p h.periods c.0.0, lt-ltb x h.items c.0.1) (omega (arith, c.1.1)))))
    where
      fits : (t u : Bool) → cond t (cond u h.n 0) 0 ≤ 16
      fits true true = room.peers
      fits true false = omega arith
      fits false u = omega arith
