-- The rehearsal of document 01: each step runs on the state that the one before it left, and the report tells the
-- answers and what is held at the end.
use Rattle.std.specs.Prelude.{ℕ, zero, suc, ◌+◌, cond, List, ◌++◌, eqb, length}
use Rattle.base.specs.Refusals.{state, number_of}
use Rattle.header.specs.Header.{head_of, peers_of, threshold_of, honest_count}
use Rattle.state.specs.Layout.{size}
use Rattle.state.specs.Contents.{contents}
use Rattle.text.specs.Wrote.{each}
use Rattle.report.specs.Lines.{refused_line, head_line, step_line}
use Rattle.report.specs.State.{state_lines}
use Rattle.engine.specs.Engine.{step_answer, step_bytes, fresh_state}
use Rattle.rehearsal.specs.Input.{table_in, input_refusal, step_count, call_at}

-- the state's bytes before step k, counted from 0
unfoldable pub state_at : List ℕ → ℕ → List ℕ
state_at input zero = fresh_state
state_at input (suc k) = step_bytes (table_in input) (state_at input k) (call_at input k)

-- step k's line; steps are numbered from 1
unfoldable pub step_at : List ℕ → ℕ → List ℕ
step_at input k = step_line (k + 1) (step_answer (table_in input) (state_at input k) (call_at input k))

-- the state's bytes after the last step
unfoldable pub last_state : List ℕ → List ℕ
last_state input = state_at input (step_count input)

-- the report of an input that is not refused
unfoldable pub report_of : List ℕ → List ℕ
report_of input =
    let table = table_in input in
    head_line (peers_of table) (threshold_of table) (honest_count (head_of table))
    ++ each (step_at input) (step_count input)
    ++ state_lines (head_of table) (contents (last_state input))

-- the first refusal of a rehearsal in a lent state buffer: of the input, then state for the buffer's length
unfoldable pub lent_refusal : List ℕ → List ℕ → ℕ
lent_refusal input s =
    cond (eqb (input_refusal input) 0) (cond (eqb (length s) size) 0 (number_of state)) (input_refusal input)

-- the whole output: the report, or the line of the refusal
unfoldable pub reported : List ℕ → List ℕ → List ℕ
reported input s = cond (eqb (lent_refusal input s) 0) (report_of input) (refused_line (lent_refusal input s))

-- what is left in the buffer: a refused rehearsal alters nothing
unfoldable pub state_left : List ℕ → List ℕ → List ℕ
state_left input s = cond (eqb (lent_refusal input s) 0) (last_state input) s

-- no report is longer
abbrev pub report_most : ℕ
report_most = 222000
