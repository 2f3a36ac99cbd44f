-- The steps of a rehearsal as a list of calls.
use Rattle.std.specs.Prelude.{ℕ, List, ◌≡◌}
use Rattle.rules.specs.Table.{Table}
use Rattle.rules.specs.Demand3.{Safe}
use Rattle.base.specs.Tab.{tab}
use Rattle.state.specs.Contents.{contents}
use Rattle.view.specs.View.{state_of}
use Rattle.engine.specs.Engine.{rules_table}
use Rattle.rehearsal.specs.Input.{table_in, step_count, call_at}
use Rattle.rehearsal.specs.Rehearsal.{last_state}
use Rattle.guarantee.specs.Demand3.{after_calls}

abbrev pub calls_in : List ℕ → List (List ℕ)
calls_in input = tab (step_count input) (call_at input)

-- what a report shows is what is held after its steps, and that is safe, where T is the table of the rules
pub record ShownSafeBy (T : Table) (input : List ℕ) : Type 0 where
  pub shown : state_of (contents (last_state input)) ≡ (after_calls (table_in input) (calls_in input)).engine
  pub safe : Safe T (after_calls (table_in input)) (calls_in input)

abbrev pub ShownSafe : List ℕ → Type 0
ShownSafe input = ShownSafeBy (rules_table (table_in input)) input
