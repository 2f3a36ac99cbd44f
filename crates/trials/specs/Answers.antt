-- The last answers of an input's rehearsal, by which of its steps are kept, and the steps that are left.
use Rattle.std.specs.Prelude.{ℕ, ◌-◌, List}
use Rattle.rehearsal.specs.Input.{table_in, step_count, call_at}
use Rattle.guarantee.specs.Demand3.{by_bytes}
use Rattle.dropping.specs.Kept.{Kept}
use Rattle.dropping.specs.Passes.{left}
use Rattle.dropping.specs.Runs.{last_answer}

-- the number of the last step, counted from 0; an input without steps is refused before it is asked
abbrev pub last_step : List ℕ → ℕ
last_step input = step_count input - 1

-- the last answer, where of the steps before the last those that are kept have run: by `step_answer` and `step_bytes`,
-- from the fresh state
unfoldable pub answer_in : List ℕ → Kept → ℕ
answer_in input = last_answer (by_bytes (table_in input)) (call_at input) (last_step input)

-- which steps are left: passes from the last but one to the first, until one drops none
unfoldable pub steps_left : List ℕ → Kept
steps_left input = left (answer_in input) (last_step input)
