-- The bag is gone through from its front: what the entries that are left give the period is what the whole bag gives it.
use Prim.Native.Nat.{ℕ, ◌+◌, ◌<◌, ◌≤◌}
use native.Mathlib.Numerals.{add-one}
use native.Mathlib.Omega.{arith}
use mathlib.Core.Bool.{Bool, true, false, cond, ◌||◌}
use mathlib.Core.List.{List, ◌∷◌}
use mathlib.Core.Path.{◌≡◌, refl, sym, ap, ◌∙◌}
use lib.Dec.{eqb}
use lib.ListN.{length, drop, drop_of_length-le}
use lib.Seq.{drop-cons}
use Rattle.std.specs.Prelude.{Option, Some, None}
use Rattle.rules.specs.declared.Entry.{Entry}
use Rattle.rules.specs.declared.Entry.TheVariants.{Hash, Backing, Board}
use Rattle.rules.specs.Bag.{no_entry, entry_at, boards_in}
use Rattle.rules.specs.Ideal.{has_board}
use Rattle.printing.specs.Board.{first_board, items_if, published, published_in}

never : {A : Type 0} {B : ℕ} → None ≡ Some B → A
never e = cc

module _ (p : ℕ) where
  -- an entry before others: a board of the period is its board, and any other entry gives nothing

  pub is_first : (x : Entry) (bag : List Entry) {B : ℕ} → published_in x p ≡ Some B → published (boards_in (x ∷ bag)) p ≡ Some B
  unfolding published_in published boards_in has_board first_board
  is_first (Hash k q C) bag e = never e
  is_first (Backing k q C) bag e = never e
  is_first (Board q C) bag {B} e = go (eqb q p) e
    where
      go : (b : Bool) → items_if b C ≡ Some B → items_if (b || has_board (boards_in bag) p) (cond b C (first_board (boards_in bag) p)) ≡ Some B
      go true is = is
      go false is = never is

  pub is_passed : (x : Entry) (bag : List Entry) → published_in x p ≡ None → published (boards_in (x ∷ bag)) p ≡ published (boards_in bag) p
  unfolding published_in published boards_in has_board first_board
  is_passed (Hash k q C) bag e = refl
  is_passed (Backing k q C) bag e = refl
  is_passed (Board q C) bag e = go (eqb q p) e
    where
      go : (b : Bool) → items_if b C ≡ None
          → items_if (b || has_board (boards_in bag) p) (cond b C (first_board (boards_in bag) p))
          ≡ items_if (has_board (boards_in bag) p) (first_board (boards_in bag) p)
      go true is = never (sym is)
      go false is = refl

  -- the loop: an entry is the period's board, or is passed; all are passed
  module _ (bag : List Entry) (e : ℕ) where
    module _ {n : ℕ} {x : Entry} {f : Option ℕ} (inv : published (boards_in (drop e bag)) p ≡ published (boards_in bag) p)
        (l : e < n) (counted : n ≡ length bag) (entry : x ≡ entry_at bag e) (gives : f ≡ published_in x p) where
      left : drop e bag ≡ entry_at bag e ∷ drop (e + 1) bag
      left = rw (add-one e) (drop-cons bag e no_entry (omega (arith, l, counted)))

      given : published_in (entry_at bag e) p ≡ f
      given = sym (gives ∙ ap (λ y. published_in y p) entry)

      pub found_at : {B : ℕ} → f ≡ Some B → Some B ≡ published (boards_in bag) p
      found_at is = sym (sym inv ∙ ap (λ b. published (boards_in b) p) left ∙ is_first (entry_at bag e) (drop (e + 1) bag) (given ∙ is))

      pub one_passed : f ≡ None → published (boards_in (drop (e + 1) bag)) p ≡ published (boards_in bag) p
      one_passed is =
          sym (is_passed (entry_at bag e) (drop (e + 1) bag) (given ∙ is))
          ∙ sym (ap (λ b. published (boards_in b) p) left) ∙ inv

    pub all_passed : {n : ℕ} → published (boards_in (drop e bag)) p ≡ published (boards_in bag) p → n ≤ e → n ≡ length bag
        → None ≡ published (boards_in bag) p
    unfolding published boards_in has_board
    all_passed inv l counted =
        let none_left : length bag ≤ e = omega (arith, l, counted) in
        sym (ap (λ b. published (boards_in b) p) (drop_of_length-le bag none_left)) ∙ inv

-- what was found: the first board of the period, or that it has none

module _ (boards : List (ℕ × ℕ)) (p : ℕ) {f : Option ℕ} (looked : f ≡ published boards p) where
  pub board_there : {B : ℕ} → f ≡ Some B → (has_board boards p ≡ true) × (B ≡ first_board boards p)
  unfolding published
  board_there {B} is = go (has_board boards p) (sym looked ∙ is)
    where
      go : (b : Bool) → items_if b (first_board boards p) ≡ Some B → (b ≡ true) × (B ≡ first_board boards p)
      go true e = let board : first_board boards p ≡ B = cc in (refl, sym board)
      go false e = never e

  pub board_absent : f ≡ None → has_board boards p ≡ false
  unfolding published
  board_absent is = go (has_board boards p) (sym looked ∙ is)
    where
      go : (b : Bool) → items_if b (first_board boards p) ≡ None → b ≡ false
      go true e = never (sym e)
      go false e = refl
