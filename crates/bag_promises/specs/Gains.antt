-- The gain of a step file, of the bytes and of a report's lines.
use Rattle.std.specs.Prelude.{ℕ, ◌+◌, ◌≤◌, true, List, ◌≡◌, length, drop}
use Rattle.rules.specs.Bag.{capacity}
use Rattle.rules.specs.Run.{store_from, answers_from}
use Rattle.gains.specs.Gain.{gain}
use Rattle.gains.specs.File.{file_calls}
use Rattle.growth.specs.Growth.{never_full, lengthened}
use Rattle.state.specs.Contents.{bag_on}
use Rattle.engine.specs.Engine.{fresh_state, step_answer}
use Rattle.reading.specs.Steps.{ShowsAnswer}
use Rattle.rehearsal.specs.Input.{table_end}
use Rattle.rehearsal.specs.Rehearsal.{report_of}
use Rattle.guarantee.specs.Demand3.{by_bytes}
use Rattle.engine.specs.States.{StateOf}

-- for every table that is taken, and every state that row 14 passes
pub record GainsOnBytes (table : List ℕ) : Type 0 where
  -- the bag never gains more than the gain of the calls, clears among them or not
  pub gains : (s : List ℕ) → StateOf table s → (calls : List (List ℕ))
      → length (bag_on (store_from (by_bytes table) s calls)) ≤ length (bag_on s) + gain calls
  -- and no more of the calls than that lengthen it
  pub lengthens : (s : List ℕ) → StateOf table s → (calls : List (List ℕ))
      → lengthened (by_bytes table) s calls ≤ gain calls
  -- where it has room for the gain, no call is answered full
  pub room : (s : List ℕ) → StateOf table s → (calls : List (List ℕ)) → length (bag_on s) + gain calls ≤ capacity
      → never_full (answers_from (by_bytes table) s calls) ≡ true
  -- so from the fresh state none is, where the gain is at most 256
  pub fresh-room : (calls : List (List ℕ)) → gain calls ≤ capacity
      → never_full (answers_from (by_bytes table) fresh_state calls) ≡ true
  -- full is answered only with 256 in the bag
  pub full : (s : List ℕ) → StateOf table s → (step : List ℕ) → step_answer table s step ≡ 13
      → length (bag_on s) ≡ capacity

-- the step file of a rehearsal: what follows its table
abbrev pub steps_in : List ℕ → List ℕ
steps_in input = drop (table_end input) input

-- where its gain is at most 256, no line of the report says that a step was answered 13
abbrev pub NeverShownFull : List ℕ → Type 0
NeverShownFull input = gain (file_calls (steps_in input)) ≤ capacity → (k : ℕ) → ShowsAnswer (report_of input) k 13 → ⊥
