-- The answer of an input that is cut down: by the input's own refusal, without steps, and with steps by the first trial, in
-- which every step is kept.
use Prim.Native.Nat.{ℕ, ◌+◌}
use native.Mathlib.Omega.{arith}
use mathlib.Core.Bool.{true, false}
use mathlib.Core.List.{List}
use mathlib.Core.Path.{◌≡◌, sym, ap, ◌∙◌}
use lib.Dec.{eqb}
use borrow.Author.Tests.{eq-eqb, ne_eqb}
use Rattle.base.proofs.Truth.{or_l, or_r}
use Rattle.rehearsal.specs.Input.{input_refusal, step_count}
use Rattle.dropping.specs.Kept.{every_step}
use Rattle.trials.specs.Answers.{answer_in, steps_left}
use Rattle.trials.specs.Flags.{kept}
use Rattle.shrinking.specs.Shrunk.{clean, shrink_refusal}
use Rattle.shrinking.specs.Uncut.{Uncut}
use Rattle.shrinking.specs.Cut.{Cut}

pub input_refuses : {input flags : List ℕ} {r : ℕ} → r ≡ input_refusal input → (r ≡ 0 → ⊥) → Cut input flags r
unfolding shrink_refusal
input_refuses {input} judged bad = record {
  answer = judged ∙ rw (ne_eqb (input_refusal input) 0 (λ e. bad (judged ∙ e)));
  left = λ e. absurd (bad e);
}

module _ {input flags : List ℕ} (good : input_refusal input ≡ 0) where
  is_clean : clean input ≡ true → Cut input flags 18
  unfolding shrink_refusal
  is_clean c = record { answer = rw (good, c); left = λ e. absurd (omega (arith, e)) }

  is_cut : clean input ≡ false → kept flags ≡ steps_left input → Cut input flags 0
  unfolding shrink_refusal
  is_cut c left = record { answer = rw (good, c); left = λ e. left }

  pub no_steps : {n : ℕ} → n ≡ step_count input → n ≡ 0 → Cut input flags 18
  unfolding clean
  no_steps count none = is_clean (or_l _ _ (eq-eqb (step_count input) 0 (sym count ∙ none)))

module _ {input : List ℕ} {last : ℕ} {flags s : List ℕ} (U : Uncut input last flags s) {a : ℕ}
    (trial : a ≡ answer_in input (kept flags)) where
  pub wanted_is : a ≡ answer_in input every_step
  wanted_is = trial ∙ ap (answer_in input) U.all

  pub says_clean_lem : {now : List ℕ} → a ≡ 0 → Cut input now 18
  unfolding clean
  says_clean_lem zero =
      let taken : eqb (answer_in input every_step) 0 ≡ true = eq-eqb _ 0 (sym wanted_is ∙ zero) in
      is_clean U.good (or_r (eqb (step_count input) 0) _ taken)

  pub says_left : {now : List ℕ} → (a ≡ 0 → ⊥) → step_count input ≡ last + 1 → kept now ≡ steps_left input → Cut input now 0
  unfolding clean
  says_left bad count left =
      let some : eqb (step_count input) 0 ≡ false = ne_eqb (step_count input) 0 (λ e. omega (arith, count, e)) in
      let refuses : eqb (answer_in input every_step) 0 ≡ false = ne_eqb _ 0 (λ e. bad (wanted_is ∙ e)) in
      is_cut U.good (rw (some, refuses)) left
