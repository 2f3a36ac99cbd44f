-- No two entries of the bag are the same exactly if each is other than those before it.
use Prim.Native.Nat.{ℕ, zero, suc, ◌<◌}
use native.Mathlib.Omega.{arith}
use mathlib.Core.Bool.{Bool, true, false, ◌&&◌, ◌||◌, not, or_comm}
use mathlib.Core.List.{List, [], ◌∷◌, ◌++◌}
use mathlib.Core.Path.{◌≡◌, refl, sym, ap, ap₂, ◌∙◌}
use lib.Dec.{eqb}
use borrow.Author.Tests.{eqb-true}
use Rattle.base.specs.Below.{any, every}
use Rattle.base.proofs.Truth.{iff, and_i, and_l, and_r, eqb_self}
use Rattle.base.proofs.Below.{any_ext, every-at, every_ext}
use Rattle.rules.specs.declared.Entry.{Entry}
use Rattle.rules.specs.Bag.{same_entry, is_in}
use Rattle.rules.specs.Valid.{different}
use Rattle.rules.proofs.Bag.{in_append, eq_of_same, same_self}
use Rattle.rules.specs.Bag.{kind_of, signer_of, period_of, board_of}
use Rattle.state.specs.Entries.{entry_of}
use Rattle.base.specs.Tab.{tab}
use Rattle.state.specs.Contents.{count, entry_at, contents}
use Rattle.base.proofs.Tab.{tab_more}
use Rattle.state.proofs.Entries.{entry_of_lem, period_of_lem, board-of}
use Rattle.header.specs.declared.Head.{Head}
use Rattle.bag_valid.specs.BagOk.{entry_at_ok}
use Rattle.bag_valid.specs.Numbers.{kind_at, signer_at, period_at, board_at, same_at, new_at}

-- the bag's entries are different exactly if each is new

different-append : (l : List Entry) (a : Entry) → different (l ++ (a ∷ [])) ≡ (different l && not (is_in a l))
unfolding different is_in
different-append [] a = refl
different-append (b ∷ l) a =
    rw (in_append b a l, different-append l a, same_turned b a) (regroup (same_entry a b) (is_in b l) (different l) (is_in a l))
  where
    same_turned : (x y : Entry) → same_entry x y ≡ same_entry y x
    same_turned x y =
        iff _ _ (λ t. ap (λ (z : Entry). same_entry z x) (sym (eq_of_same x y t)) ∙ same_self x)
        (λ t. ap (λ (z : Entry). same_entry z y) (sym (eq_of_same y x t)) ∙ same_self y)

    regroup : (x y z w : Bool) → (not (x || y) && (z && not w)) ≡ ((not y && z) && not (x || w))
    regroup true true z w = refl
    regroup true false true w = refl
    regroup true false false w = refl
    regroup false true z w = refl
    regroup false false z w = refl

in_tab : (n : ℕ) (f : ℕ → Entry) (a : Entry) → is_in a (tab n f) ≡ any n (λ d. same_entry a (f d))
unfolding any is_in tab
in_tab zero f a = empty
  where
    empty : is_in a (tab 0 f) ≡ false
    empty = refl
in_tab (suc n) f a =
    ap (is_in a) (tab_more n f) ∙ in_append a (f n) (tab n f) ∙ or_comm (same_entry a (f n)) (is_in a (tab n f))
    ∙ ap (λ (b : Bool). b || same_entry a (f n)) (in_tab n f a)

different-tab : (n : ℕ) (f : ℕ → Entry) → different (tab n f) ≡ every n (λ e. not (any e (λ d. same_entry (f e) (f d))))
unfolding every different tab
different-tab zero f = refl
different-tab (suc n) f =
    ap different (tab_more n f) ∙ different-append (tab n f) (f n) ∙ ap₂ (λ (a b : Bool). a && not b) (different-tab n f) (in_tab n f (f n))

-- entries whose bytes are settled are the same exactly if their four numbers are
module _ (h : Head) (s : List ℕ) where
  same_numbers : (x y : Entry)
      → same_entry x y ≡ (eqb (board_of x) (board_of y) &&
      (eqb (signer_of x) (signer_of y) && (eqb (period_of x) (period_of y) && eqb (kind_of x) (kind_of y))))
  same_numbers x y = iff _ _
      (λ t. let e = eq_of_same x y t in ap
      (λ (z : Entry). eqb (board_of x) (board_of z) &&
      (eqb (signer_of x) (signer_of z) && (eqb (period_of x) (period_of z) && eqb (kind_of x) (kind_of z)))) (sym e)
      ∙ and_i _ _ (eqb_self (board_of x)) (and_i _ _ (eqb_self (signer_of x)) (and_i _ _ (eqb_self (period_of x)) (eqb_self (kind_of x)))))
      (λ t. let r1 = and_r (eqb (board_of x) (board_of y)) _ t in
      let r2 = and_r (eqb (signer_of x) (signer_of y)) _ r1 in
      let b = eqb-true (board_of x) (board_of y) (and_l (eqb (board_of x) (board_of y)) _ t) in
      let g = eqb-true (signer_of x) (signer_of y) (and_l (eqb (signer_of x) (signer_of y)) _ r1) in
      let p = eqb-true (period_of x) (period_of y) (and_l (eqb (period_of x) (period_of y)) _ r2) in
      let k = eqb-true (kind_of x) (kind_of y) (and_r (eqb (period_of x) (period_of y)) _ r2) in
      ap (same_entry x) (sym (entry_of_lem y) ∙ (λ i. entry_of (sym k i) (sym g i) (sym p i) (sym b i)) ∙ entry_of_lem x) ∙ same_self x)

  module _ (ok : every (count s) (entry_at_ok h s) ≡ true) where
    -- the numbers of an entry are its bytes'
    kind_of_lem : (e : ℕ) → e < count s → kind_of (entry_at s e) ≡ kind_at s e
    unfolding entry_at_ok
    kind_of_lem e l =
        sym
        (eqb-true (kind_at s e) (kind_of (entry_at s e))
        (and_l (eqb (kind_at s e) (kind_of (entry_at s e))) _ (every-at (entry_at_ok h s) (count s) ok e l)))

    signer_of_lem : (e : ℕ) → e < count s → signer_of (entry_at s e) ≡ signer_at s e
    unfolding entry_at_ok
    signer_of_lem e l =
        sym (eqb-true (signer_at s e) (signer_of (entry_at s e))
        (and_l (eqb (signer_at s e) (signer_of (entry_at s e))) _
        (and_r (eqb (kind_at s e) (kind_of (entry_at s e))) _ (every-at (entry_at_ok h s) (count s) ok e l))))

    period_at_lem : (e : ℕ) → period_of (entry_at s e) ≡ period_at s e
    unfolding entry_at
    period_at_lem e = period_of_lem (kind_at s e) (signer_at s e) (period_at s e) (board_at s e)

    board-at : (e : ℕ) → board_of (entry_at s e) ≡ board_at s e
    unfolding entry_at
    board-at e = board-of (kind_at s e) (signer_at s e) (period_at s e) (board_at s e)

    same_at_lem : (e d : ℕ) → e < count s → d < count s → same_entry (entry_at s e) (entry_at s d) ≡ same_at s e d
    unfolding same_at
    same_at_lem e d l m =
        same_numbers (entry_at s e) (entry_at s d)
        ∙ rw (board-at e, board-at d, signer_of_lem e l, signer_of_lem d m, period_at_lem e, period_at_lem d, kind_of_lem e l, kind_of_lem d m)

    pub all-different : every (count s) (new_at s) ≡ different (contents s).bag
    unfolding new_at contents
    all-different = sym (different-tab (count s) (entry_at s) ∙ every_ext (count s) _ (new_at s) (λ e l.
        ap not (any_ext e (λ d. same_entry (entry_at s e) (entry_at s d)) (same_at s e) (λ d m. same_at_lem e d l (omega arith)))))
