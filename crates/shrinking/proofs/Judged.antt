-- Whether an input is refused, and which text is the output.
use Prim.Native.Nat.{ℕ}
use native.Mathlib.Omega.{arith}
use mathlib.Core.Bool.{true, false}
use mathlib.Core.List.{List}
use mathlib.Core.Logic.{◌⊎◌, inl, inr}
use mathlib.Core.Path.{◌≡◌}
use lib.Dec.{eqb}
use borrow.Author.Tests.{eqb-true, eq-eqb, ne_eqb}
use Rattle.base.proofs.Truth.{either}
use Rattle.text.specs.Wrote.{each}
use Rattle.report.specs.Lines.{refused_line}
use Rattle.rehearsal.specs.Input.{input_refusal, step_count}
use Rattle.trials.specs.Answers.{steps_left}
use Rattle.shrinking.specs.Shrunk.{clean, shrink_refusal, kept_line, shrunk}

-- what an input that is not refused has passed

pub input_passed : (input : List ℕ) → shrink_refusal input ≡ 0 → input_refusal input ≡ 0
unfolding shrink_refusal
input_passed input e = go (either (eqb (input_refusal input) 0))
  where
    go : (eqb (input_refusal input) 0 ≡ true) ⊎ (eqb (input_refusal input) 0 ≡ false) → input_refusal input ≡ 0
    go (inl z) = eqb-true _ 0 z
    go (inr n) = rw n at e

pub not-clean : (input : List ℕ) → shrink_refusal input ≡ 0 → clean input ≡ false
unfolding shrink_refusal
not-clean input e = go (either (clean input))
  where
    good : eqb (input_refusal input) 0 ≡ true
    good = eq-eqb (input_refusal input) 0 (input_passed input e)

    go : (clean input ≡ true) ⊎ (clean input ≡ false) → clean input ≡ false
    go (inl c) = absurd (omega (arith, rw (good, c) at e))
    go (inr c) = c

-- which text is the output: where the input is refused, where it is clean, and where it is neither

module _ (input : List ℕ) where
  pub input_first : (input_refusal input ≡ 0 → ⊥) → refused_line (input_refusal input) ≡ shrunk input
  unfolding shrunk shrink_refusal
  input_first bad = rw (ne_eqb (input_refusal input) 0 bad, ne_eqb (input_refusal input) 0 bad)

  module _ (good : input_refusal input ≡ 0) where
    zero : eqb (input_refusal input) 0 ≡ true
    zero = eq-eqb (input_refusal input) 0 good

    pub then_clean : clean input ≡ true → refused_line 18 ≡ shrunk input
    unfolding shrunk shrink_refusal
    then_clean e = rw (zero, e)

    pub then_left : clean input ≡ false → each (kept_line (steps_left input)) (step_count input) ≡ shrunk input
    unfolding shrunk shrink_refusal
    then_left e = rw (zero, e)
