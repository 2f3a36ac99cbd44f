-- What holds of the steps that are left, on the bytes: of every input that is not refused.
use Rattle.std.specs.Prelude.{ℕ, ◌+◌, List, [], ◌∷◌, ◌++◌, ◌≡◌}
use Rattle.rules.specs.Run.{answers_from, by_rules}
use Rattle.engine.specs.Engine.{rules_table, step_answer, fresh_state}
use Rattle.text.specs.Wrote.{each}
use Rattle.rehearsal.specs.Input.{table_in, step_count, call_at}
use Rattle.rehearsal.specs.Rehearsal.{state_at}
use Rattle.guarantee.specs.Demand3.{by_bytes}
use Rattle.dropping.specs.Kept.{every_step, kept_calls}
use Rattle.dropping.specs.Passes.{left}
use Rattle.dropping.specs.Runs.{last_answer, last_of}
use Rattle.dropping.specs.Claims.{Settled, Minimal, AllTaken}
use Rattle.trials.specs.Answers.{last_step, answer_in, steps_left}
use Rattle.shrinking.specs.Shrunk.{kept_line, shrunk}

-- the steps that are left, as a list of calls of their own
abbrev pub calls_left : List ℕ → List (List ℕ)
calls_left input = kept_calls (call_at input) (steps_left input) (step_count input)

pub record StillRefuses (input : List ℕ) : Type 0 where
  -- there is a last step, its answer in the report is the last answer of every step, and that is not 0
  pub some : step_count input ≡ last_step input + 1
  pub reported : answer_in input every_step
      ≡ step_answer (table_in input) (state_at input (last_step input)) (call_at input (last_step input))
  pub refuses : answer_in input every_step ≡ 0 → ⊥
  -- a pass drops none of what is left, and what is left is where passes end, however many are allowed
  pub settled : Settled (answer_in input) (last_step input) (steps_left input)
  -- the last step is kept, the last answer is the same number, and leaving out any single other step changes it
  pub minimal : Minimal (answer_in input) (last_step input) (steps_left input)
  -- the steps that are left, run as calls of their own from the fresh state, end with the last step, and lead to that
  -- answer; each before the last is answered 0
  pub ends : calls_left input
      ≡ kept_calls (call_at input) (steps_left input) (last_step input) ++ (call_at input (last_step input) ∷ [])
  pub replayed : last_of (answers_from (by_bytes (table_in input)) fresh_state (calls_left input)) ≡ answer_in input every_step
  pub all_taken : AllTaken (by_bytes (table_in input)) (call_at input) (last_step input) (steps_left input)
  -- what is printed are the numbers of these steps, one a line
  pub printed : shrunk input ≡ each (kept_line (steps_left input)) (step_count input)
  -- the rules alone decide which steps are left
  pub by_rules_lem : steps_left input
      ≡ left (last_answer (by_rules (rules_table (table_in input))) (call_at input) (last_step input)) (last_step input)
