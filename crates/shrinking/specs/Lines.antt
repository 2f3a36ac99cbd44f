-- The output line by line, as it is printed. A refusal is one line; else there is one for each step, which is empty
-- where the step is dropped.
use Rattle.std.specs.Prelude.{ℕ, ◌≤◌, ◌<◌, cond, List, ◌≡◌, eqb, length}
use Rattle.text.specs.Wrote.{each}
use Rattle.text.specs.Chunks.{chunk, InChunks}
use Rattle.report.specs.Lines.{refused_line}
use Rattle.rehearsal.specs.Input.{step_count}
use Rattle.dropping.specs.Kept.{Kept}
use Rattle.trials.specs.Answers.{steps_left}
use Rattle.shrinking.specs.Shrunk.{shrink_refusal, kept_line, shrunk}

-- line k, by the refusal, or 0, and the steps that are kept
unfoldable pub line_of : ℕ → Kept → ℕ → List ℕ
line_of refusal keep k = cond (eqb refusal 0) (kept_line keep k) (refused_line refusal)

-- line k of an input's output
abbrev pub line_in : List ℕ → ℕ → List ℕ
line_in input = line_of (shrink_refusal input) (steps_left input)

-- and how many there are
unfoldable pub lines_in : List ℕ → ℕ
lines_in input = cond (eqb (shrink_refusal input) 0) (step_count input) 1

-- a buffer of this many bytes holds each single line
abbrev pub HoldsALine : List ℕ → ℕ → Type 0
HoldsALine input room = (k : ℕ) → k < lines_in input → length (line_in input k) ≤ room

-- no line is longer: `refused 18` and the end of the line
abbrev pub line_most : ℕ
line_most = 11

-- what holds of the output in chunks: each fits the buffer, they go on to the last line, and joined they are the output
pub record ShrunkInChunks (input : List ℕ) (room : ℕ) : Type 0 where
  pub chunked : InChunks (line_in input) room (lines_in input)
  pub joined : each (chunk (line_in input) room (lines_in input)) (lines_in input) ≡ shrunk input
