-- Demand 3 of the bytes: its premise, and its claim about the very definitions that `step` promises.
use Rattle.std.specs.Prelude.{ℕ, ◌≤◌, List, ◌≡◌}
use Rattle.header.specs.Header.{head_of, threshold_of}
use Rattle.header.specs.Quorum.{honest_weight}
use Rattle.ballot.specs.Table.{refusal}
use Rattle.rules.specs.Table.{Table}
use Rattle.rules.specs.Run.{World, Engine, after}
use Rattle.rules.specs.Demand3.{Safe}
use Rattle.state.specs.Contents.{contents}
use Rattle.view.specs.View.{state_of}
use Rattle.engine.specs.Engine.{rules_table, step_answer, step_bytes, fresh_state}

-- the table is taken, and its honest peers weigh at least t
pub record HonestEnough (table : List ℕ) : Type 0 where
  pub taken : refusal table ≡ 0
  pub honest : threshold_of table ≤ honest_weight (head_of table)

-- the engine on bytes, of one table: its store is the state buffer
abbrev pub by_bytes : List ℕ → Engine (List ℕ)
by_bytes table = record {
  starts = fresh_state;
  holds = λ s. state_of (contents s);
  answers = step_answer table;
  leaves = step_bytes table;
}

-- after a list of step calls, on one table and one state buffer, from the fresh state: what the buffer holds, and what
-- the ideal board was fed
abbrev pub after_calls : List ℕ → List (List ℕ) → World
after_calls table = after (by_bytes table)

-- whatever the calls, of any bytes, the board is safe after them, where T is the table of the rules
abbrev pub AlwaysSafeBy : Table → List ℕ → Type 0
AlwaysSafeBy T table = (calls : List (List ℕ)) → Safe T (after_calls table) calls

abbrev pub AlwaysSafe : List ℕ → Type 0
AlwaysSafe table = AlwaysSafeBy (rules_table table) table
