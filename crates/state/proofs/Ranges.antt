-- Laws of facts: the bit of a fact gives the fact back, so facts in range are told apart by their bits.
use Prim.Native.Nat.{ℕ}
use mathlib.Core.Bool.{true, cond}
use mathlib.Core.List.{List, [], ◌∷◌}
use mathlib.Core.Path.{◌≡◌, refl, sym, ap, ap₂, ◌∙◌}
use lib.Dec.{eqb, ltb}
use lib.ListN.{get_or}
use borrow.Author.Tests.{eqb-true, ltb-true, lt-ltb, le-leb}
use Rattle.base.proofs.Truth.{false_true, and_i, and_l, and_r, eqb_self}
use Rattle.base.proofs.Bytes.{between_true}
use Rattle.state.specs.declared.Fact.{Fact}
use Rattle.state.specs.declared.Fact.TheVariants.{Posted, Signed, Shared, Receipted, Held, Known, Heard}
use Rattle.state.specs.Layout.{peers, periods, items, entries}
use Rattle.state.specs.Facts.{fields, same_fields, same_fact, is_peer, is_cell, is_row, is_spot, in_range, Peer, Cell, Row, Spot, Within}

-- the test for equal facts

same_self : (l : List ℕ) → same_fields l l ≡ true
same_self [] = refl
same_self (x ∷ []) = eqb_self x
same_self (x ∷ a ∷ xs) = and_i _ _ (eqb_self x) (same_self (a ∷ xs))

same_fields_lem : (l m : List ℕ) → same_fields l m ≡ true → l ≡ m
same_fields_lem [] [] e = refl
same_fields_lem [] (y ∷ ys) e = false_true e
same_fields_lem (x ∷ xs) [] e = false_true e
same_fields_lem (x ∷ []) (y ∷ []) e = ap (λ (z : ℕ). z ∷ []) (eqb-true x y e)
same_fields_lem (x ∷ []) (y ∷ b ∷ ys) e = false_true e
same_fields_lem (x ∷ a ∷ xs) (y ∷ []) e = false_true e
same_fields_lem (x ∷ a ∷ xs) (y ∷ b ∷ ys) e =
    let first = and_l (eqb x y) (same_fields (a ∷ xs) (b ∷ ys)) e in
    let rest = and_r (eqb x y) (same_fields (a ∷ xs) (b ∷ ys)) e in
    ap₂ ◌∷◌ (eqb-true x y first) (same_fields_lem (a ∷ xs) (b ∷ ys) rest)

-- the fact of given fields
of_fields : List ℕ → Fact
of_fields l =
    let at = get_or l in
    cond (eqb (at 0 0) 0) (Posted (at 1 0))
    (cond (eqb (at 0 0) 1) (Signed (at 1 0) (at 2 0) (at 3 0))
    (cond (eqb (at 0 0) 2) (Shared (at 1 0) (at 2 0) (at 3 0))
    (cond (eqb (at 0 0) 3) (Receipted (at 1 0) (at 2 0))
    (cond (eqb (at 0 0) 4) (Held (at 1 0) (at 2 0) (at 3 0))
    (cond (eqb (at 0 0) 5) (Known (at 1 0) (at 2 0) (at 3 0) (at 4 0))
    (Heard (at 1 0) (at 2 0)))))))

of-fields : (f : Fact) → of_fields (fields f) ≡ f
unfolding of_fields
of-fields (Posted i) = refl
of-fields (Signed k p i) = refl
of-fields (Shared k p i) = refl
of-fields (Receipted p i) = refl
of-fields (Held j p i) = refl
of-fields (Known j p i k) = refl
of-fields (Heard j e) = refl

pub fact_self : (f : Fact) → same_fact f f ≡ true
fact_self f = same_self (fields f)

pub fact_same : (f g : Fact) → same_fact f g ≡ true → f ≡ g
fact_same f g e = sym (of-fields f) ∙ ap of_fields (same_fields_lem (fields f) (fields g) e) ∙ of-fields g

-- in range, as a test and as facts on the numbers

pub peer_within : (k : ℕ) → is_peer k ≡ true → Peer k
peer_within k e = between_true 1 k peers e

pub cell_within : (p i : ℕ) → is_cell p i ≡ true → Cell p i
cell_within p i e = (ltb-true p periods (and_l (ltb p periods) (ltb i items) e), ltb-true i items (and_r (ltb p periods) (ltb i items) e))

pub row_within : (j p : ℕ) → is_row j p ≡ true → Row j p
row_within j p e = (peer_within j (and_l (is_peer j) (ltb p periods) e), ltb-true p periods (and_r (is_peer j) (ltb p periods) e))

pub spot_within : (k p i : ℕ) → is_spot k p i ≡ true → Spot k p i
spot_within k p i e = (peer_within k (and_l (is_peer k) (is_cell p i) e), cell_within p i (and_r (is_peer k) (is_cell p i) e))

pub range_within : (f : Fact) → in_range f ≡ true → Within f
range_within (Posted i) e = ltb-true i items e
range_within (Signed k p i) e = spot_within k p i e
range_within (Shared k p i) e = spot_within k p i e
range_within (Receipted p i) e = cell_within p i e
range_within (Held j p i) e = spot_within j p i e
range_within (Known j p i k) e = (peer_within j (and_l (is_peer j) (is_spot k p i) e), spot_within k p i (and_r (is_peer j) (is_spot k p i) e))
range_within (Heard j n) e = (peer_within j (and_l (is_peer j) (ltb n entries) e), ltb-true n entries (and_r (is_peer j) (ltb n entries) e))

pub within_peer : (k : ℕ) → Peer k → is_peer k ≡ true
within_peer k h = and_i _ _ (le-leb 1 k h.0) (le-leb k peers h.1)

pub within_cell : (p i : ℕ) → Cell p i → is_cell p i ≡ true
within_cell p i h = and_i _ _ (lt-ltb p periods h.0) (lt-ltb i items h.1)

pub within_row : (j p : ℕ) → Row j p → is_row j p ≡ true
within_row j p h = and_i _ _ (within_peer j h.0) (lt-ltb p periods h.1)

pub within_spot : (k p i : ℕ) → Spot k p i → is_spot k p i ≡ true
within_spot k p i h = and_i _ _ (within_peer k h.0) (within_cell p i h.1)

pub within_range : (f : Fact) → Within f → in_range f ≡ true
within_range (Posted i) h = lt-ltb i items h
within_range (Signed k p i) h = within_spot k p i h
within_range (Shared k p i) h = within_spot k p i h
within_range (Receipted p i) h = within_cell p i h
within_range (Held j p i) h = within_spot j p i h
within_range (Known j p i k) h = and_i _ _ (within_peer j h.0) (within_spot k p i h.1)
within_range (Heard j e) h = and_i _ _ (within_peer j h.0) (lt-ltb e entries h.1)
