-- Shrinking (document 02, P7): the steps that are left of an input's rehearsal, printed as step numbers of the
-- original, one a line.
use Rattle.std.specs.Prelude.{ℕ, ◌+◌, Bool, ◌||◌, cond, List, [], ◌++◌, eqb}
use Rattle.text.specs.Wrote.{each}
use Rattle.text.specs.Decimal.{decimal}
use Rattle.report.specs.Words.{newline}
use Rattle.report.specs.Lines.{refused_line}
use Rattle.rehearsal.specs.Input.{input_refusal, step_count}
use Rattle.dropping.specs.Kept.{Kept, every_step}
use Rattle.trials.specs.Answers.{answer_in, steps_left}

-- document 02's word: there are no steps, or the last answers 0
unfoldable pub clean : List ℕ → Bool
clean input = eqb (step_count input) 0 || eqb (answer_in input every_step) 0

-- the refusals: 15 and 1 to 4, as a rehearsal's, then 18 where it is clean
unfoldable pub shrink_refusal : List ℕ → ℕ
shrink_refusal input = cond (eqb (input_refusal input) 0) (cond (clean input) 18 0) (input_refusal input)

-- the line of step k; steps are numbered from 1
unfoldable pub number_line : ℕ → List ℕ
number_line k = decimal (k + 1) ++ newline

-- and none where it is not kept
unfoldable pub kept_line : Kept → ℕ → List ℕ
kept_line keep k = cond (keep k) (number_line k) []

-- the whole output: the numbers that are left, or the line of the refusal
unfoldable pub shrunk : List ℕ → List ℕ
shrunk input =
    cond (eqb (shrink_refusal input) 0)
    (each (kept_line (steps_left input)) (step_count input))
    (refused_line (shrink_refusal input))

-- no input has more steps, a short tail counted: 65,536 bytes of which a table takes six at least
abbrev pub steps_most : ℕ
steps_most = 5041

-- no output is longer: at most four digits and the end of the line for each
abbrev pub shrunk_most : ℕ
shrunk_most = 25205
