-- The sets of signers, taken many at a time: those of the table are gathered by `|` and asked at the end, all others are bytes 0.
use Prim.Native.Nat.{ℕ, zero, suc, ◌+◌, ◌-◌, ◌*◌, ◌^◌, ◌<◌, ◌≤◌}
use native.Mathlib.Nat.{mul_comm, add-zero, suc-add, add-suc}
use native.Mathlib.Omega.{arith}
use mathlib.Core.Bool.{Bool, true, false, not, ◌&&◌, and-true}
use mathlib.Core.List.{List}
use mathlib.Core.Path.{◌≡◌, refl, sym, ap, ap₂, ◌∙◌}
use lib.Bits.{bit_or, or_lt, and_le_l, and_le_r, or_add_and}
use lib.Dec.{eqb, ltb}
use lib.Pow.{pow_pos}
use borrow.Author.Tests.{eqb-true, eq-eqb, ltb-true, lt-ltb, le-ltb, not-true, not-false}
use Rattle.base.specs.Below.{every}
use Rattle.base.specs.Bytes.{byte_at}
use Rattle.base.proofs.Below.{every-at, every_of, every_ext, every_step_lem, every-all, every_parts, every_rows}
use Rattle.base.proofs.Truth.{iff, and_i, and_l, and_r, and_false}
use Rattle.bits.specs.Row.{zeros}
use Rattle.bits.specs.Number.{num}
use Rattle.header.specs.declared.Head.{Head}
use Rattle.state.specs.Layout.{periods, items, peer_bytes}
use Rattle.state.specs.Places.{cell}
use Rattle.view.specs.Ready.{Room}
use Rattle.field_state.specs.Layout.{known_at, current_at}
use Rattle.field_state.specs.Width.{width_at}
use Rattle.field_valid.specs.BoxOk.{spot_width, spot_ok, spots_in}
use Rattle.field_valid.specs.SignerSets.{row_bytes, signers_ok}

-- numbers joined by `|` are below 2 ^ n exactly if each is
or_below : (n a b : ℕ) → ltb (bit_or a b) (2 ^ n) ≡ (ltb a (2 ^ n) && ltb b (2 ^ n))
or_below n a b = iff _ _
    (λ e.
    let l = ltb-true (bit_or a b) (2 ^ n) e in
    and_i _ _ (lt-ltb a (2 ^ n) (omega (arith, l, or_add_and a b, and_le_r a b)))
    (lt-ltb b (2 ^ n) (omega (arith, l, or_add_and a b, and_le_l a b))))
    (λ e.
    lt-ltb (bit_or a b) (2 ^ n)
    (or_lt n a b (ltb-true a (2 ^ n) (and_l (ltb a (2 ^ n)) _ e)) (ltb-true b (2 ^ n) (and_r (ltb a (2 ^ n)) _ e))))

-- the loop: none gathered yet, one more, all
module _ (n : ℕ) (s : List ℕ) (o : ℕ) where
  pub signers-none : ltb 0 (2 ^ n) ≡ every 0 (signers_ok n s o)
  unfolding every
  signers-none = lt-ltb 0 (2 ^ n) (pow_pos n)

  pub signers_more : (x sum v : ℕ) → ltb sum (2 ^ n) ≡ every x (signers_ok n s o) → v ≡ num peer_bytes s (o + peer_bytes * x)
      → ltb (bit_or sum v) (2 ^ n) ≡ every (x + 1) (signers_ok n s o)
  unfolding signers_ok
  signers_more x sum v e i =
      or_below n sum v ∙ every_step_lem (signers_ok n s o) x (ltb sum (2 ^ n)) (ltb v (2 ^ n)) e (ap (λ (y : ℕ). ltb y (2 ^ n)) i)

  pub signers-all : (x m k sum : ℕ) {r : Bool} → m ≡ k → x ≤ m → m ≤ x → ltb sum (2 ^ n) ≡ every x (signers_ok n s o) → r ≡ ltb sum (2 ^ n)
      → r ≡ every k (signers_ok n s o)
  signers-all x m k sum i a b e q = every-all (signers_ok n s o) x k _ (omega arith) (q ∙ e)

-- bytes that are all 0 make the number 0, and no others do

num-none : (w : ℕ) (s : List ℕ) (o : ℕ) → ((i : ℕ) → i < w → byte_at s (o + i) ≡ 0) → num w s o ≡ 0
unfolding num
num-none zero s o e = refl
num-none (suc w) s o e =
    omega (
      arith,
      ap (byte_at s) (sym (add-zero o)) ∙ e 0 (omega arith),
      num-none w s (suc o) (λ i l. ap (byte_at s) (suc-add o i ∙ sym (add-suc o i)) ∙ e (suc i) (omega arith)),
    )

none-num : (w : ℕ) (s : List ℕ) (o i : ℕ) → num w s o ≡ 0 → i < w → byte_at s (o + i) ≡ 0
unfolding num
none-num zero s o i e l = absurd (omega arith)
none-num (suc w) s o zero e l = ap (byte_at s) (add-zero o) ∙ omega (arith, e)
none-num (suc w) s o (suc i) e l =
    ap (byte_at s) (add-suc o i ∙ sym (suc-add o i)) ∙ none-num w s (suc o) i (omega (arith, e)) (omega arith)

-- a number that may have no bit is bytes 0
zeros-num : (w : ℕ) (s : List ℕ) (o : ℕ) → ltb (num w s o) (2 ^ 0) ≡ zeros w s o
unfolding zeros
zeros-num w s o = iff _ _
    (λ e. every_of w (λ i. eqb (byte_at s (o + i)) 0)
    (λ i l. eq-eqb _ 0 (none-num w s o i (omega (arith, ltb-true (num w s o) (2 ^ 0) e)) l)))
    (λ e. lt-ltb (num w s o) (2 ^ 0)
    (omega (arith, num-none w s o (λ i l. eqb-true _ 0 (every-at (λ i. eqb (byte_at s (o + i)) 0) w e i l)))))

-- and n rows of w such bytes are n * w of them
zeros_rows : (n w : ℕ) (s : List ℕ) (o : ℕ) → every n (λ i. zeros w s (o + w * i)) ≡ zeros (n * w) s o
unfolding zeros
zeros_rows n w s o = sym
    (every_rows n w (λ i. eqb (byte_at s (o + i)) 0) ∙ every_ext n _ _ (λ i l. every_ext w _ _ (λ k q. ap (λ (j : ℕ). eqb (byte_at s j) 0)
    {x = o + (i * w + k)} {y = o + w * i + k} (omega (arith, mul_comm i w)))))

module _ (h : Head) (s : List ℕ) where
  -- a set of the table, one of another item, and those of another period

  spot-signers : (p x : ℕ) → p < h.periods → x < h.items → spot_ok h s p x ≡ signers_ok h.n s (known_at + row_bytes * p) x
  unfolding spot_ok spot_width width_at signers_ok
  spot-signers p x l m =
      rw (lt-ltb p h.periods l, lt-ltb x h.items m)
      (ap (λ (k : ℕ). ltb (num peer_bytes s k) (2 ^ h.n)) {x = known_at + peer_bytes * cell p x} {y = known_at + row_bytes * p + peer_bytes * x}
      (omega arith))

  spot-none : (p x o : ℕ) → spot_width h p x ≡ 0 → known_at + peer_bytes * cell p x ≡ o → spot_ok h s p x ≡ zeros peer_bytes s o
  unfolding spot_ok
  spot-none p x o e q = ap₂ (λ (k w : ℕ). ltb (num peer_bytes s k) (2 ^ w)) q e ∙ zeros-num peer_bytes s o

  no_item : (p x : ℕ) → p < h.periods → h.items ≤ x → spot_width h p x ≡ 0
  unfolding spot_width width_at
  no_item p x l m = rw (lt-ltb p h.periods l, le-ltb x h.items m)

  no_period_lem : (p x : ℕ) → h.periods ≤ p → spot_width h p x ≡ 0
  unfolding spot_width
  no_period_lem p x l = rw (le-ltb p h.periods l)

  spots_none : (p o : ℕ) → h.periods ≤ p → known_at + row_bytes * p ≡ o → spots_in h s p ≡ zeros row_bytes s o
  unfolding spots_in
  spots_none p o l e =
      every_ext items (spot_ok h s p) (λ x. zeros peer_bytes s (o + peer_bytes * x))
      (λ x m. spot-none p x (o + peer_bytes * x) (no_period_lem p x l) (omega (arith, e)))
      ∙ zeros_rows items peer_bytes s o

  -- a period of the table: bytes 0 behind its items
  module _ (room : Room h) (p q m : ℕ) (p-is : q ≡ p) (m-is : m ≡ h.items) (l : p < h.periods) where
    spots_parts : spots_in h s p ≡ (every h.items (signers_ok h.n s (known_at + row_bytes * q))
        && zeros (row_bytes - peer_bytes * m) s (known_at + row_bytes * q + peer_bytes * m))
    unfolding spots_in
    spots_parts =
        ap (λ (k : ℕ). every k (spot_ok h s p)) {x = items} {y = h.items + (items - h.items)} (omega (arith, room.items))
        ∙ every_parts h.items (items - h.items) (spot_ok h s p)
        ∙ ap₂ ◌&&◌
        (every_ext h.items (spot_ok h s p) (signers_ok h.n s (known_at + row_bytes * p)) (λ x k. spot-signers p x l k)
        ∙ ap (λ (k : ℕ). every h.items (signers_ok h.n s (known_at + row_bytes * k))) (sym p-is))
        (every_ext (items - h.items) (λ k. spot_ok h s p (h.items + k))
        (λ k. zeros peer_bytes s (known_at + row_bytes * q + peer_bytes * m + peer_bytes * k))
        (λ k j. spot-none p (h.items + k) _ (no_item p (h.items + k) l (omega arith)) (omega (arith, p-is, m-is)))
        ∙ zeros_rows (items - h.items) peer_bytes s (known_at + row_bytes * q + peer_bytes * m)
        ∙ ap (λ (k : ℕ). zeros k s (known_at + row_bytes * q + peer_bytes * m)) (omega (arith, m-is)))

    module _ {a : Bool} (at : a ≡ zeros (row_bytes - peer_bytes * m) s (known_at + row_bytes * q + peer_bytes * m)) where
      pub item_beyond : not a ≡ true → false ≡ spots_in h s p
      item_beyond t = sym (spots_parts ∙ rw (← at, not-true a t)
          (and_false (every h.items (signers_ok h.n s (known_at + row_bytes * q)))))

      pub signers_left : {r : Bool} → not a ≡ false → r ≡ every h.items (signers_ok h.n s (known_at + row_bytes * q)) → r ≡ spots_in h s p
      signers_left t e = e ∙ sym (spots_parts ∙ rw (← at, not-false a t) (and-true _))

  -- all periods: bytes 0 behind those of the table
  module _ (room : Room h) (q : ℕ) (q-is : q ≡ h.periods) where
    periods_parts : every periods (spots_in h s) ≡ (every h.periods (spots_in h s)
        && zeros (current_at - (known_at + row_bytes * q)) s (known_at + row_bytes * q))
    periods_parts =
        ap (λ (k : ℕ). every k (spots_in h s)) {x = periods} {y = h.periods + (periods - h.periods)} (omega (arith, room.periods))
        ∙ every_parts h.periods (periods - h.periods) (spots_in h s)
        ∙ ap (λ (b : Bool). every h.periods (spots_in h s) && b)
        (every_ext (periods - h.periods) (λ k. spots_in h s (h.periods + k))
        (λ k. zeros row_bytes s (known_at + row_bytes * q + row_bytes * k))
        (λ k j. spots_none (h.periods + k) _ (omega arith) (omega (arith, q-is)))
        ∙ zeros_rows (periods - h.periods) row_bytes s (known_at + row_bytes * q)
        ∙ ap (λ (k : ℕ). zeros k s (known_at + row_bytes * q)) (omega (arith, q-is)))

    module _ {a : Bool} (at : a ≡ zeros (current_at - (known_at + row_bytes * q)) s (known_at + row_bytes * q)) where
      pub period_beyond : not a ≡ true → false ≡ every periods (spots_in h s)
      period_beyond t = sym (periods_parts ∙ rw (← at, not-true a t) (and_false (every h.periods (spots_in h s))))

      pub periods_left : {r : Bool} → not a ≡ false → r ≡ every h.periods (spots_in h s) → r ≡ every periods (spots_in h s)
      periods_left t e = e ∙ sym (periods_parts ∙ rw (← at, not-false a t) (and-true _))
