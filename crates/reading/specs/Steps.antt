-- The answers that a text shows: the lines `K A` among its lines, the number of a step and its answer.
use Rattle.std.specs.Prelude.{ℕ, List, ◌++◌}
use Rattle.text.specs.Decimal.{decimal, field}
use Rattle.reading.specs.Read.{lines_of}
use Rattle.reading.specs.Receipts.{Stands}

-- the line of step k with the answer a, without its byte 10
abbrev pub step_text : ℕ → ℕ → List ℕ
step_text k a = decimal k ++ field a

-- a text has that line
abbrev pub ShowsAnswer : List ℕ → ℕ → ℕ → Type 0
ShowsAnswer text k a = Stands (step_text k a) (lines_of text)
