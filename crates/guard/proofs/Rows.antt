-- Rows of items that meet, as the rules look for a clash.
use Prim.Native.Nat.{ℕ, ◌^◌, ◌<◌, ◌≤◌}
use native.Mathlib.Omega.{arith}
use mathlib.Core.Bool.{true, false, ◌&&◌}
use mathlib.Core.List.{List}
use mathlib.Core.Path.{◌≡◌, sym, ◌∙◌}
use mathlib.Core.Bool.{Bool, not}
use mathlib.Core.Path.{ap}
use mathlib.Core.Logic.{◌⊎◌, inl, inr}
use lib.Dec.{eqb}
use lib.Bits.{bit_and, and_lt}
use borrow.Author.Tests.{eqb-true, eq-eqb}
use Rattle.base.proofs.Truth.{either, is_false, not_i}
use Rattle.base.proofs.Bits.{bit-none, bit_ext, bit-and}
use Rattle.base.specs.Below.{any}
use Rattle.base.specs.Bits.{bit, pack}
use Rattle.base.proofs.Truth.{split, iff, and_i, and_l, and_r}
use Rattle.base.proofs.Below.{any_at, any_found, any_ext}
use Rattle.base.proofs.Bits.{bit-pack}
use Rattle.rules.specs.Table.{clashing}
use Rattle.state.specs.declared.Fact.TheVariants.{Held}
use Rattle.state.specs.Layout.{items}
use Rattle.state.specs.Contents.{contents}
use Rattle.state.specs.Sets.{held_of}
use Rattle.header.specs.declared.Head.{Head}
use Rattle.view.specs.View.{no_clash, in_row, table_of, state_of}
use Rattle.view.specs.Ready.{Ready}
use Rattle.guard.specs.Common.{in_common, holds_of}

-- two sets below 2 ^ 64 have no item in common exactly if their conjunction is 0
pub and_common : (a b : ℕ) → a < 2 ^ 64 → b < 2 ^ 64 → not (eqb (bit_and a b) 0) ≡ in_common a b
unfolding in_common
and_common a b p q = iff _ _ to from
  where
    to : not (eqb (bit_and a b) 0) ≡ true → any 64 (λ y. bit a y && bit b y) ≡ true
    to n = go (either (any 64 (λ y. bit a y && bit b y)))
      where
        go : (any 64 (λ y. bit a y && bit b y) ≡ true) ⊎ (any 64 (λ y. bit a y && bit b y) ≡ false)
            → any 64 (λ y. bit a y && bit b y) ≡ true
        go (inl e) = e
        go (inr e) =
            split n
            (not_false_of (eq-eqb (bit_and a b) 0
            (bit_ext 64 (bit_and a b) 0 (and_lt 64 a b p q) (omega arith)
            (λ k l. bit-and a b k ∙ is_false _ (λ t. split (any_at (λ y. bit a y && bit b y) k 64 l t) e) ∙ sym (bit-none k)))))
          where
            not_false_of : eqb (bit_and a b) 0 ≡ true → not (eqb (bit_and a b) 0) ≡ false
            not_false_of t = rw t

    from : any 64 (λ y. bit a y && bit b y) ≡ true → not (eqb (bit_and a b) 0) ≡ true
    from e = not_i _ (λ z.
        let f = any_found 64 (λ y. bit a y && bit b y) e in
        split f.2 (sym (bit-and a b f.0) ∙ ap (λ (n : ℕ). bit n f.0) (eqb-true (bit_and a b) 0 z) ∙ bit-none f.0))

-- items held in periods, within the table: those of a period have one in common with the row exactly if an item of the
-- table is in both
module _ (h : Head) (fits : h.items ≤ 64) (holds : ℕ → ℕ → Bool) (within : (q y : ℕ) → holds q y ≡ true → y < h.items) (row : ℕ) where
  row_common : (q : ℕ) → in_common (pack items (holds q)) row ≡ any h.items (λ y. holds q y && bit row y)
  unfolding in_common
  row_common q = iff _ _ to from
    where
      to : any 64 (λ y. bit (pack items (holds q)) y && bit row y) ≡ true → any h.items (λ y. holds q y && bit row y) ≡ true
      to e =
          let f = any_found 64 (λ y. bit (pack items (holds q)) y && bit row y) e in
          let y = f.0 in
          let held : holds q y ≡ true = sym (bit-pack items (holds q) y f.1) ∙ and_l (bit (pack items (holds q)) y) _ f.2 in
          any_at (λ y. holds q y && bit row y) y h.items (within q y held)
          (and_i _ _ held (and_r (bit (pack items (holds q)) y) _ f.2))

      from : any h.items (λ y. holds q y && bit row y) ≡ true → any 64 (λ y. bit (pack items (holds q)) y && bit row y) ≡ true
      from e =
          let f = any_found h.items (λ y. holds q y && bit row y) e in
          let y = f.0 in
          let l : y < 64 = omega (arith, f.1, fits) in
          any_at (λ y. bit (pack items (holds q)) y && bit row y) y 64 l
          (and_i _ _ (bit-pack items (holds q) y l ∙ and_l (holds q y) _ f.2) (and_r (holds q y) _ f.2))

  pub rows_clash : (x : ℕ) {r : Bool} → r ≡ any h.periods (λ q. in_common (pack items (holds q)) row)
      → r ≡ clashing (table_of h (in_row row)) holds x
  unfolding clashing
  rows_clash x e =
      e
      ∙ any_ext h.periods (λ q. in_common (pack items (holds q)) row) (λ q. any h.items (λ y. holds q y && bit row y))
      (λ q l. row_common q)

pub clash_common : (h : Head) (s : List ℕ) → Ready h s → (row j x : ℕ) {r : Bool} → r ≡ any h.periods (holds_of (contents s) row j)
    → r ≡ clashing (table_of h (in_row row)) ((state_of (contents s)).held j) x
unfolding holds_of held_of
clash_common h s R row j x e =
    rows_clash h R.room.items (λ q y. (contents s).has (Held j q y)) (λ q y t. ((R.good no_clash).valid.sets.holds j q y t).1.1) row x e
