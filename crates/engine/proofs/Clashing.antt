-- What clashes is asked of a hand alone, and there its item's row is enough: so steps that see no table do what the rules say of it.
use Prim.Native.Nat.{ℕ}
use native.Mathlib.Omega.{arith}
use mathlib.Core.Bool.{Bool, false, ◌&&◌}
use mathlib.Core.List.{List, [], ◌∷◌}
use mathlib.Core.Path.{◌≡◌, refl, sym, ap, subst, ◌∙◌}
use Rattle.base.specs.Bits.{bit}
use Rattle.base.specs.Refusals.{numbered, first}
use Rattle.base.proofs.Below.{any_ext}
use Rattle.base.proofs.Bits.{bit-pack}
use Rattle.header.specs.Header.{items_of}
use Rattle.clash.specs.Clash.{clash_in, mask_width, clash_mask}
use Rattle.rules.specs.declared.Step.{Step}
use Rattle.rules.specs.declared.Step.TheVariants.{Hand}
use Rattle.rules.specs.Table.{clashing}
use Rattle.rules.specs.State.{State}
use Rattle.rules.specs.declared.Fields.{Fields}
use Rattle.rules.specs.Fields.{fields}
use Rattle.rules.specs.ByRow.{one_of, by_row}
use Rattle.rules.proofs.ByRow.{by_row_lem}
use Rattle.rules.proofs.Each.{each}
use Rattle.rules.specs.Backed.{unbacked}
use Rattle.rules.specs.Rules.{rule, answer, board_from}
use Rattle.state.specs.Contents.{contents}
use Rattle.header.specs.declared.Head.{Head}
use Rattle.view.specs.View.{no_clash, in_row, table_of, state_of, answer_by}
use Rattle.view.specs.Effect.{effect_on}
use Rattle.view.specs.Ready.{Ready}
use Rattle.view.specs.Stepped.{Stepped, SteppedBy}

-- the step is a hand, by its op
abbrev pub is_hand : Step → Bool
is_hand st = one_of (fields st).op (2 ∷ [])

module _ (h : Head) (c d : ℕ → ℕ → Bool) (s : List ℕ) where
  abbrev held : State
  held = state_of (contents s)

  -- no other step is judged by what clashes: of document 01's rows only that of a hand asks it
  same_rows : (f : Fields) → one_of f.op (2 ∷ []) ≡ false
      → first (numbered (by_row (table_of h c) held f)) ≡ first (numbered (by_row (table_of h d) held f))
  unfolding by_row board_from unbacked
  same_rows f n = rw n

  not_asked : (st : Step) → is_hand st ≡ false → answer_by h c s st ≡ answer_by h d s st
  not_asked st n = by_row_lem (table_of h c) held st ∙ same_rows (fields st) n ∙ sym (by_row_lem (table_of h d) held st)

  -- a hand is judged by what clashes with its item
  hand_asked : (j x : ℕ)
      → clashing (table_of h c) ((state_of (contents s)).held j) x ≡ clashing (table_of h d) ((state_of (contents s)).held j) x
      → answer_by h c s (Hand j x) ≡ answer_by h d s (Hand j x)
  unfolding answer rule
  hand_asked j x e = rw e

  -- what a step does is the same whatever clashes
  same_effect : (st : Step) → effect_on (table_of h c) (contents s) st ≡ effect_on (table_of h d) (contents s) st
  unfolding effect_on board_from
  same_effect = each (λ st. effect_on (table_of h c) (contents s) st ≡ effect_on (table_of h d) (contents s) st) (search refl)

  stepped_too : (t : List ℕ) (st : Step) (r : ℕ) → answer_by h c s st ≡ answer_by h d s st → SteppedBy h c s t st r → SteppedBy h d s t st r
  stepped_too t st r e S = record { answers = S.answers ∙ e; leaves = rw (← same_effect st) S.leaves }

-- the step that the match found, with what clashes in the table
pub of_step : (h : Head) (clash : ℕ → ℕ → Bool) (s t : List ℕ) (r : ℕ) (a b : Step) → b ≡ a → is_hand a ≡ false
    → Stepped h s t a r → SteppedBy h clash s t b r
of_step h clash s t r a b e n S = subst (λ st. SteppedBy h clash s t st r) (sym e)
    (stepped_too h no_clash clash s t a r (not_asked h no_clash clash s a n) S)

-- and the hand, whose item's row was read
module _ (h : Head) (table s : List ℕ) (R : Ready h s) (same : h.items ≡ items_of table) (j x row : ℕ)
    (read : row ≡ clash_mask table x) where
  row_asked : clashing (table_of h (in_row row)) ((state_of (contents s)).held j) x
      ≡ clashing (table_of h (clash_in table)) ((state_of (contents s)).held j) x
  unfolding clashing clash_mask
  row_asked =
      any_ext h.periods _ _ (λ p _.
      any_ext h.items _ _ (λ y l.
      ap (λ (b : Bool). (state_of (contents s)).held j p y && b)
      (ap (λ (m : ℕ). bit m y) read ∙ bit-pack (mask_width table) (clash_in table x) y (omega (arith, R.room.items)))))

  pub of_hand : (t : List ℕ) (r : ℕ) (b : Step) → b ≡ Hand j x
      → SteppedBy h (in_row row) s t (Hand j x) r → SteppedBy h (clash_in table) s t b r
  of_hand t r b e S = subst (λ st. SteppedBy h (clash_in table) s t st r) (sym e)
      (stepped_too h (in_row row) (clash_in table) s t (Hand j x) r (hand_asked h (in_row row) (clash_in table) s j x row_asked) S)
