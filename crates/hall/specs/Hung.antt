-- The program `sheet`: its input is the period, one byte, and then a rehearsal's bytes; its output is the sheet of that
-- period's board in the state that the rehearsal's steps led to.
use Rattle.std.specs.Prelude.{ℕ, not, cond, List, [], ◌∷◌, ◌++◌, eqb, leb, ltb, length, drop}
use Rattle.base.specs.Bytes.{byte_at}
use Rattle.base.specs.Refusals.{Refusals, name, unknown, numbered, first}
use Rattle.base.specs.Refusals as word
use Rattle.header.specs.Header.{periods_of}
use Rattle.rules.specs.Ideal.{has_board}
use Rattle.report.specs.Lines.{refused_line}
use Rattle.printing.specs.Board.{boards_on}
use Rattle.printing.specs.Written.{sheet_for}
use Rattle.rehearsal.specs.Input.{input_most, table_in, input_refusals}
use Rattle.rehearsal.specs.Rehearsal.{last_state}

-- the period that is asked for
abbrev pub period_asked : List ℕ → ℕ
period_asked input = byte_at input 0

-- the rehearsal after it
abbrev pub rehearsal_in : List ℕ → List ℕ
rehearsal_in input = drop 1 input

-- the refusals in the order in which they are judged: 15, where the period's byte counts too, and the rehearsal's own,
-- 1 to 4; then 6 for a period of P or above, and 10 where the period has no board

abbrev pub asked_refusals : List ℕ → Refusals
asked_refusals input = (word.input, ltb input_most (length input)) ∷ input_refusals (rehearsal_in input)

-- of table and state, whichever they are
abbrev pub period_refusals : List ℕ → List ℕ → ℕ → Refusals
period_refusals table s p = (name, leb (periods_of table) p) ∷ (unknown, not (has_board (boards_on s) p)) ∷ []

abbrev pub hang_refusals : List ℕ → Refusals
hang_refusals input =
    asked_refusals input
    ++ period_refusals (table_in (rehearsal_in input)) (last_state (rehearsal_in input)) (period_asked input)

-- the first that applies, and 0 where none does

unfoldable pub asked_answer : List ℕ → ℕ
asked_answer input = first (numbered (asked_refusals input))

unfoldable pub period_answer : List ℕ → List ℕ → ℕ → ℕ
period_answer table s p = first (numbered (period_refusals table s p))

unfoldable pub hang_answer : List ℕ → ℕ
hang_answer input = first (numbered (hang_refusals input))

-- the sheet, or the line of the refusal
unfoldable pub shown : List ℕ → List ℕ → ℕ → List ℕ
shown table s p = cond (eqb (period_answer table s p) 0) (sheet_for table s p) (refused_line (period_answer table s p))

-- the whole output
unfoldable pub hung : List ℕ → List ℕ
hung input =
    cond (eqb (hang_answer input) 0)
    (sheet_for (table_in (rehearsal_in input)) (last_state (rehearsal_in input)) (period_asked input))
    (refused_line (hang_answer input))
