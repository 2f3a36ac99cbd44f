-- What is promised of the bag is not empty: case R of document 01 with clears, on its fifteen-byte table.
use Rattle.std.specs.Prelude.{ℕ, true, List, [], ◌∷◌, ◌≡◌}
use Rattle.ballot.specs.Table.{refusal}
use Rattle.rules.specs.Run.{answers_from}
use Rattle.gains.specs.Gain.{gain}
use Rattle.gains.specs.File.{file_calls}
use Rattle.growth.specs.Growth.{never_full}
use Rattle.cleared_runs.specs.Cleared.{uncleared, translated_from}
use Rattle.engine.specs.Engine.{fresh_state}
use Rattle.edges.specs.Tables.{case_r}
use Rattle.edges.specs.Cases.{bytes}
use Rattle.rehearsal.specs.Input.{input_refusal}
use Rattle.guarantee.specs.Demand3.{by_bytes}
use Rattle.guarantee.specs.TotalsWorked.{input_r}
use Rattle.engine.specs.States.{StateOf}
use Rattle.bag_promises.specs.Gains.{steps_in}

-- in the entry numbers of the run without clears: 0 the hash, 1 the backing
abbrev pub cleared_r : List (List ℕ)
cleared_r =
    bytes 1 0 0 0 0 0  -- post 0
    ∷ bytes 2 1 0 0 0 0  -- hand 1 0
    ∷ bytes 3 1 0 0 0 0  -- sign 1 0
    ∷ bytes 7 1 0 0 0 0  -- close 1
    ∷ bytes 9 1 0 0 0 0  -- hash 1 0
    ∷ bytes 19 0 0 0 0 0  -- clear 0: peer 1 has yet to back
    ∷ bytes 10 1 0 0 0 0  -- hear 1 entry 0
    ∷ bytes 11 1 0 0 0 0  -- back 1
    ∷ bytes 19 0 0 0 0 0  -- clear 0
    ∷ bytes 10 1 0 0 0 0  -- hear 1 entry 0: gone
    ∷ bytes 12 0 0 0 1 0  -- publish entry 1, which is entry 0 now
    ∷ []

pub record BagWorked : Type 0 where
  -- the premises are met
  pub taken : refusal case_r ≡ 0
  pub state : StateOf case_r fresh_state
  pub never_full_lem : never_full (answers_from (by_bytes case_r) fresh_state (uncleared cleared_r)) ≡ true
  -- the answers of the two runs
  pub without-clears : answers_from (by_bytes case_r) fresh_state (uncleared cleared_r)
      ≡ (0 ∷ 0 ∷ 0 ∷ 0 ∷ 0 ∷ 0 ∷ 0 ∷ 0 ∷ 0 ∷ [])
  pub with_clears_lem : answers_from (by_bytes case_r) fresh_state
      (translated_from (by_bytes case_r) fresh_state fresh_state cleared_r)
      ≡ (0 ∷ 0 ∷ 0 ∷ 0 ∷ 0 ∷ 9 ∷ 0 ∷ 0 ∷ 0 ∷ 10 ∷ 0 ∷ [])
  -- the whole input of case R is taken, and its steps have a hash, a back and a publish
  pub input_taken : input_refusal input_r ≡ 0
  pub input_gain : gain (file_calls (steps_in input_r)) ≡ 3
