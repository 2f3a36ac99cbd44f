-- What a bit set and a byte stored do to what the bytes say.
use Prim.Native.Nat.{ℕ, ◌+◌, ◌-◌, ◌*◌, ◌<◌, ◌≤◌}
use native.Mathlib.Omega.{arith}
use mathlib.Core.Bool.{Bool, true, false, ◌&&◌, ◌||◌}
use mathlib.Core.List.{List}
use mathlib.Core.Path.{◌≡◌, sym, ap, ap₂, fun_ext, subst, ◌∙◌}
use mathlib.Core.Logic.{◌⊎◌, inl, inr}
use Rattle.base.specs.Bits.{digit}
use lib.Dec.{eqb}
use lib.ListN.{set, length-set}
use lib.Seq.{get_or-set_same, get_or-set_other}
use borrow.Author.Tests.{eqb-true, eq-eqb}
use Rattle.base.specs.Bytes.{byte_at}
use Rattle.base.specs.Sets.{add2, add3}
use Rattle.base.proofs.Truth.{either, iff, is_false, split, and_i, and_l, and_r}
use Rattle.bits.specs.Row.{put_bit}
use Rattle.bits.proofs.Row.{length_put, byte_put, bit_at_put, bytes_put, bytes-set}
use Rattle.state.specs.Layout.{peers}
use Rattle.state.specs.Facts.{is_cell, is_spot, Cell, Spot}
use Rattle.state.specs.Places.{cell}
use Rattle.state.proofs.Ranges.{cell_within, within_cell, spot_within, within_spot}
use Rattle.field_rules.specs.Box.{box_held, box_gave, box_db, box_current, box_to_back, box_down}
use Rattle.field_state.specs.Layout.{held_at, gave_at, known_at, current_at, to_back_at, down_at}
use Rattle.field_state.specs.Holding.{cell_bit, spot_bit, heard_in, box_of, Canon, Holds}
use Rattle.field_state.specs.Parts.{with_held, with_given, with_known, with_current, with_to_back, with_down}
use Rattle.counters.specs.declared.Counters.{Counters}
use Rattle.counters.specs.Counters.{rise_current, rise_to_back}
use Rattle.field_state.proofs.Cells.{no_cell, no_spot, has-cell, has-spot}
use Rattle.field_state.proofs.Frame.{cells_same, spots_same, heard_same, canon_same}

-- places tell periods, items and signers apart
cell_apart : (o p x q y : ℕ) → Cell p x → Cell q y → eqb (8 * o + cell p x) (8 * o + cell q y) ≡ (eqb q p && eqb y x)
cell_apart o p x q y a b = iff _ _
    (λ e. let z = eqb-true (8 * o + cell p x) (8 * o + cell q y) e in
    and_i _ _ (eq-eqb q p (omega (arith, z, a.0, a.1, b.0, b.1))) (eq-eqb y x (omega (arith, z, a.0, a.1, b.0, b.1))))
    (λ e. let u = eqb-true q p (and_l (eqb q p) (eqb y x) e) in let v = eqb-true y x (and_r (eqb q p) (eqb y x) e) in
    eq-eqb (8 * o + cell p x) (8 * o + cell q y) (omega (arith, u, v)))

abbrev spot : ℕ → ℕ → ℕ → ℕ
spot p x k = 8 * known_at + (cell p x * peers + (k - 1))

one_cell : (m n k l : ℕ) → 1 ≤ k → k ≤ peers → 1 ≤ l → l ≤ peers
    → 8 * known_at + (m * peers + (k - 1)) ≡ 8 * known_at + (n * peers + (l - 1)) → m ≡ n
one_cell m n k l a b c d e = omega arith

spot_apart : (p x k q y l : ℕ) → Spot k p x → Spot l q y → eqb (spot p x k) (spot q y l) ≡ (eqb q p && (eqb y x && eqb l k))
spot_apart p x k q y l a b = iff _ _
    (λ e.
    let z = eqb-true (spot p x k) (spot q y l) e in
    let same : cell p x ≡ cell q y = one_cell (cell p x) (cell q y) k l a.0.0 a.0.1 b.0.0 b.0.1 z in
    let w : l ≡ k = omega (arith, z, same, a.0.0, b.0.0) in
    and_i _ _ (eq-eqb q p (omega (arith, same, a.1.0, a.1.1, b.1.0, b.1.1)))
    (and_i _ _ (eq-eqb y x (omega (arith, same, a.1.0, a.1.1, b.1.0, b.1.1))) (eq-eqb l k w)))
    (λ e.
    let u = eqb-true q p (and_l (eqb q p) (eqb y x && eqb l k) e) in
    let r = and_r (eqb q p) (eqb y x && eqb l k) e in
    let v = eqb-true y x (and_l (eqb y x) (eqb l k) r) in
    let w = eqb-true l k (and_r (eqb y x) (eqb l k) r) in
    eq-eqb (spot p x k) (spot q y l) (omega (arith, u, v, w)))

-- a bit set
module _ (s : List ℕ) (c : Canon s) where
  cell_put : (o p x : ℕ) → o + 64 ≤ known_at → Cell p x → cell_bit (put_bit s (8 * o + cell p x)) o ≡ add2 p x (cell_bit s o)
  unfolding add2
  cell_put o p x room h = fun_ext (λ q. fun_ext (λ y. go q y (either (is_cell q y))))
    where
      t : List ℕ
      t = put_bit s (8 * o + cell p x)

      go : (q y : ℕ) → (is_cell q y ≡ true) ⊎ (is_cell q y ≡ false)
          → cell_bit (put_bit s (8 * o + cell p x)) o q y ≡ ((eqb q p && eqb y x) || cell_bit s o q y)
      go q y (inl e) =
          sym (has-cell (put_bit s (8 * o + cell p x)) o q y e)
          ∙ bit_at_put s (8 * o + cell p x) (8 * o + cell q y) (omega (arith, room, h.0, h.1, c.long))
          ∙ ap₂ ◌||◌ (cell_apart o p x q y h (cell_within q y e)) (has-cell s o q y e)
      go q y (inr e) =
          no_cell (put_bit s (8 * o + cell p x)) o q y e
          ∙ sym (ap₂ ◌||◌ (is_false (eqb q p && eqb y x) (λ z. split (within_cell q y (same q y z)) e)) (no_cell s o q y e))
        where
          same : (q y : ℕ) → eqb q p && eqb y x ≡ true → Cell q y
          same q y z = (
            omega (arith, eqb-true q p (and_l (eqb q p) (eqb y x) z), h.0),
            omega (arith, eqb-true y x (and_r (eqb q p) (eqb y x) z), h.1),
          )

  spot_put : (p x k : ℕ) → Spot k p x → spot_bit (put_bit s (spot p x k)) ≡ add3 p x k (spot_bit s)
  unfolding add3
  spot_put p x k h = fun_ext (λ q. fun_ext (λ y. fun_ext (λ l. go q y l (either (is_spot l q y)))))
    where
      go : (q y l : ℕ) → (is_spot l q y ≡ true) ⊎ (is_spot l q y ≡ false)
          → spot_bit (put_bit s (spot p x k)) q y l ≡ ((eqb q p && (eqb y x && eqb l k)) || spot_bit s q y l)
      go q y l (inl e) =
          sym (has-spot (put_bit s (spot p x k)) q y l e)
          ∙ bit_at_put s (spot p x k) (spot q y l) (omega (arith, h.0.0, h.0.1, h.1.0, h.1.1, c.long))
          ∙ ap₂ ◌||◌ (spot_apart p x k q y l h (spot_within l q y e)) (has-spot s q y l e)
      go q y l (inr e) =
          no_spot (put_bit s (spot p x k)) q y l e
          ∙ sym (ap₂ ◌||◌ (is_false (eqb q p && (eqb y x && eqb l k)) (λ z. split (within_spot l q y (same q y l z)) e))
          (no_spot s q y l e))
        where
          same : (q y l : ℕ) → eqb q p && (eqb y x && eqb l k) ≡ true → Spot l q y
          same q y l z =
              let r = and_r (eqb q p) (eqb y x && eqb l k) z in
              let w = eqb-true l k (and_r (eqb y x) (eqb l k) r) in (
                (omega (arith, w, h.0.0), omega (arith, w, h.0.1)),
                (
                  omega (arith, eqb-true q p (and_l (eqb q p) (eqb y x && eqb l k) z), h.1.0),
                  omega (arith, eqb-true y x (and_l (eqb y x) (eqb l k) r), h.1.1),
                ),
              )

  -- whatever bit below the numbers is set, the rest stays
  module _ (a : ℕ) (low : a < 8 * current_at) where
    still : (i : ℕ) → current_at ≤ i → byte_at (put_bit s a) i ≡ byte_at s i
    still i l = byte_put s a i (λ e. omega (arith, low, e, l))

    put_canon : Canon (put_bit s a)
    put_canon = canon_same (put_bit s a) s (λ i l. still i (omega (arith, l))) c (length_put s a) (bytes_put s a c.bytes)
        (rw (still down_at (omega arith)) c.flag)

    elsewhere : (o : ℕ) → (a < 8 * o → ⊥) → (a < 8 * (o + 64) → a < 8 * o) → cell_bit (put_bit s a) o ≡ cell_bit s o
    elsewhere o p q = cells_same (put_bit s a) s o (λ i l m. byte_put s a i (λ e. absurd (p (q (omega (arith, e, l, m))))))

  put_held : (p x : ℕ) → Cell p x → Holds (put_bit s (8 * held_at + cell p x)) (box_held (box_of s) (add2 p x (box_of s).held))
  put_held p x h =
      let a = 8 * held_at + cell p x in
      let low : a < 8 * current_at = omega (arith, h.0, h.1) in
      let t = put_bit s a in
      record {
        canon = put_canon a low;
        says = λ i. record {
          down = eqb (still a low down_at (omega arith) i) 1;
          held = cell_put held_at p x (omega arith) h i;
          db = spots_same t s (λ i l m. byte_put s a i (λ e. omega (arith, h.0, h.1, e, l))) i;
          gave = cells_same t s gave_at (λ i l m. byte_put s a i (λ e. omega (arith, h.0, h.1, e, l))) i;
          current = still a low current_at (omega arith) i;
          to_back = still a low to_back_at (omega arith) i;
          heard = heard_same t s (λ i l. still a low i (omega (arith, l))) i;
        };
      }

  put_gave : (p x : ℕ) → Cell p x → Holds (put_bit s (8 * gave_at + cell p x)) (box_gave (box_of s) (add2 p x (box_of s).gave))
  put_gave p x h =
      let a = 8 * gave_at + cell p x in
      let low : a < 8 * current_at = omega (arith, h.0, h.1) in
      let t = put_bit s a in
      record {
        canon = put_canon a low;
        says = λ i. record {
          down = eqb (still a low down_at (omega arith) i) 1;
          held = cells_same t s held_at (λ i l m. byte_put s a i (λ e. omega (arith, e, m))) i;
          db = spots_same t s (λ i l m. byte_put s a i (λ e. omega (arith, h.0, h.1, e, l))) i;
          gave = cell_put gave_at p x (omega arith) h i;
          current = still a low current_at (omega arith) i;
          to_back = still a low to_back_at (omega arith) i;
          heard = heard_same t s (λ i l. still a low i (omega (arith, l))) i;
        };
      }

  put_known : (p x k : ℕ) → Spot k p x → Holds (put_bit s (spot p x k)) (box_db (box_of s) (add3 p x k (box_of s).db))
  put_known p x k h =
      let a = spot p x k in
      let low : a < 8 * current_at = omega (arith, h.0.0, h.0.1, h.1.0, h.1.1) in
      let t = put_bit s a in
      record {
        canon = put_canon a low;
        says = λ i. record {
          down = eqb (still a low down_at (omega arith) i) 1;
          held = cells_same t s held_at (λ i l m. byte_put s a i (λ e. omega (arith, e, m))) i;
          db = spot_put p x k h i;
          gave = cells_same t s gave_at (λ i l m. byte_put s a i (λ e. omega (arith, e, m))) i;
          current = still a low current_at (omega arith) i;
          to_back = still a low to_back_at (omega arith) i;
          heard = heard_same t s (λ i l. still a low i (omega (arith, l))) i;
        };
      }

  -- a number stored
  module _ (at v : ℕ) (l : current_at ≤ at) (m : at ≤ down_at) (small : v < 256) where
    low_same : (i : ℕ) → (i ≡ at → ⊥) → byte_at (set s at v) i ≡ byte_at s i
    low_same i n = get_or-set_other s at i v 0 n

    at_same : byte_at (set s at v) at ≡ v
    at_same = get_or-set_same s at v 0 (omega (arith, m, c.long))

    set_canon : byte_at (set s at v) down_at ≤ 1 → Canon (set s at v)
    set_canon f = canon_same (set s at v) s (λ i d. low_same i (λ e. omega (arith, m, d, e))) c (length-set s at v)
        (bytes-set s at v c.bytes small) f

    set_cells : (o : ℕ) → o + 64 ≤ known_at → cell_bit (set s at v) o ≡ cell_bit s o
    set_cells o d = cells_same (set s at v) s o (λ i p q. low_same i (λ e. omega (arith, d, q, e, l)))

    set_spots : spot_bit (set s at v) ≡ spot_bit s
    set_spots = spots_same (set s at v) s (λ i p q. low_same i (λ e. omega (arith, q, e, l)))

    set_heard : heard_in (set s at v) ≡ heard_in s
    set_heard = heard_same (set s at v) s (λ i d. low_same i (λ e. omega (arith, m, d, e)))

  set_current : (t : List ℕ) (v : ℕ) → v < 256 → t ≡ set s current_at v → Holds t (box_current (box_of s) v)
  set_current t v l q = subst (λ (u : List ℕ). Holds u (box_current (box_of s) v)) (sym q) (
      let f = low_same current_at v (omega arith) (omega arith) l in
      record {
        canon = set_canon current_at v (omega arith) (omega arith) l (rw (f down_at (omega arith)) c.flag);
        says = λ i. record {
          down = eqb (f down_at (omega arith) i) 1;
          held = set_cells current_at v (omega arith) (omega arith) l held_at (omega arith) i;
          db = set_spots current_at v (omega arith) (omega arith) l i;
          gave = set_cells current_at v (omega arith) (omega arith) l gave_at (omega arith) i;
          current = at_same current_at v (omega arith) (omega arith) l i;
          to_back = f to_back_at (omega arith) i;
          heard = set_heard current_at v (omega arith) (omega arith) l i;
        };
      })

  set_to_back : (t : List ℕ) (v : ℕ) → v < 256 → t ≡ set s to_back_at v → Holds t (box_to_back (box_of s) v)
  set_to_back t v l q = subst (λ (u : List ℕ). Holds u (box_to_back (box_of s) v)) (sym q) (
      let f = low_same to_back_at v (omega arith) (omega arith) l in
      record {
        canon = set_canon to_back_at v (omega arith) (omega arith) l (rw (f down_at (omega arith)) c.flag);
        says = λ i. record {
          down = eqb (f down_at (omega arith) i) 1;
          held = set_cells to_back_at v (omega arith) (omega arith) l held_at (omega arith) i;
          db = set_spots to_back_at v (omega arith) (omega arith) l i;
          gave = set_cells to_back_at v (omega arith) (omega arith) l gave_at (omega arith) i;
          current = f current_at (omega arith) i;
          to_back = at_same to_back_at v (omega arith) (omega arith) l i;
          heard = set_heard to_back_at v (omega arith) (omega arith) l i;
        };
      })

  set_down : (t : List ℕ) (v : ℕ) → v ≤ 1 → t ≡ set s down_at v → Holds t (box_down (box_of s) (eqb v 1))
  set_down t v l q = subst (λ (u : List ℕ). Holds u (box_down (box_of s) (eqb v 1))) (sym q) (
      let small : v < 256 = omega (arith, l) in
      let f = low_same down_at v (omega arith) (omega arith) small in
      let here = at_same down_at v (omega arith) (omega arith) small in
      record {
        canon = set_canon down_at v (omega arith) (omega arith) small (rw here l);
        says = λ i. record {
          down = eqb (here i) 1;
          held = set_cells down_at v (omega arith) (omega arith) small held_at (omega arith) i;
          db = set_spots down_at v (omega arith) (omega arith) small i;
          gave = set_cells down_at v (omega arith) (omega arith) small gave_at (omega arith) i;
          current = f current_at (omega arith) i;
          to_back = f to_back_at (omega arith) i;
          heard = set_heard down_at v (omega arith) (omega arith) small i;
        };
      })

  -- as the code has it
  pub held_done : (t : List ℕ) (n p x : ℕ) → Cell p x → n ≡ cell p x → t ≡ put_bit s (8 * held_at + n) → Holds t (with_held p x (box_of s))
  unfolding with_held
  held_done t n p x h at q = subst (λ (r : List ℕ). Holds r (box_held (box_of s) (add2 p x (box_of s).held)))
      (sym (q ∙ ap (λ (m : ℕ). put_bit s (8 * held_at + m)) at)) (put_held p x h)

  pub gave_done : (t : List ℕ) (n p x : ℕ) → Cell p x → n ≡ cell p x → t ≡ put_bit s (8 * gave_at + n) → Holds t (with_given p x (box_of s))
  unfolding with_given
  gave_done t n p x h at q = subst (λ (r : List ℕ). Holds r (box_gave (box_of s) (add2 p x (box_of s).gave)))
      (sym (q ∙ ap (λ (m : ℕ). put_bit s (8 * gave_at + m)) at)) (put_gave p x h)

  pub known_done : (t : List ℕ) (n w p x k : ℕ) → Spot k p x → n ≡ cell p x → w ≡ k - 1 → t ≡ put_bit s (8 * known_at + (n * peers + w))
      → Holds t (with_known p x k (box_of s))
  unfolding with_known
  known_done t n w p x k h at wide q = subst (λ (r : List ℕ). Holds r (box_db (box_of s) (add3 p x k (box_of s).db)))
      (sym (q ∙ ap₂ (λ (m v : ℕ). put_bit s (8 * known_at + (m * peers + v))) at wide)) (put_known p x k h)

  pub current_done : (t : List ℕ) (v : ℕ) → v < 256 → t ≡ set s current_at v → Holds t (with_current v (box_of s))
  unfolding with_current
  current_done t v l q = set_current t v l q

  pub to_back_done : (t : List ℕ) (v : ℕ) → v < 256 → t ≡ set s to_back_at v → Holds t (with_to_back v (box_of s))
  unfolding with_to_back
  to_back_done t v l q = set_to_back t v l q

  pub down_done : (t : List ℕ) (v : ℕ) (down : Bool) → v ≡ digit down → t ≡ set s down_at v → Holds t (with_down down (box_of s))
  unfolding with_down
  down_done t v true e q = set_down t 1 (omega arith) (q ∙ ap (set s down_at) e)
  down_done t v false e q = set_down t 0 (omega arith) (q ∙ ap (set s down_at) e)

-- a counter raised
pub raised_current : (s t : List ℕ) (k m : Counters) → k.current ≡ (box_of s).current → m ≡ rise_current k
    → Holds t (with_current m.current (box_of s)) → Holds t (with_current ((box_of s).current + 1) (box_of s))
raised_current s t k m e q h = subst (λ (v : ℕ). Holds t (with_current v (box_of s)))
    (ap (λ (c : Counters). c.current) q ∙ ap (λ (v : ℕ). v + 1) e) h

pub raised_to_back : (s t : List ℕ) (k m : Counters) → k.to_back ≡ (box_of s).to_back → m ≡ rise_to_back k
    → Holds t (with_to_back m.to_back (box_of s)) → Holds t (with_to_back ((box_of s).to_back + 1) (box_of s))
raised_to_back s t k m e q h = subst (λ (v : ℕ). Holds t (with_to_back v (box_of s)))
    (ap (λ (c : Counters). c.to_back) q ∙ ap (λ (v : ℕ). v + 1) e) h
