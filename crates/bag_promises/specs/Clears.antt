-- Runs with clears beside those without, of the bytes: for every table that is taken, whoever is honest, and every
-- state that row 14 passes. `by_bytes_lem table` is the engine that `step` promises.
use Rattle.std.specs.Prelude.{ℕ, true, false, List, ◌≡◌}
use Rattle.rules.specs.Run.{store_from, answers_from}
use Rattle.growth.specs.Growth.{never_full}
use Rattle.cleared_runs.specs.Cleared.{uncleared, cleared_from, periods_cleared, without_clears, with_clears, AsBefore}
use Rattle.cleared_runs.specs.Own.{uncleared_back, AsOwn}
use Rattle.cleared_runs.specs.Gone.{gone_after, Exactly}
use Rattle.state.specs.Contents.{bag_on}
use Rattle.engine.specs.Engine.{rules_table}
use Rattle.engine.specs.States.{StateOf}
use Rattle.guarantee.specs.Demand3.{by_bytes}

pub record ClearsOnBytes (table : List ℕ) : Type 0 where
  -- until the run without clears would have answered full, in its entry numbers
  pub as_before : (s : List ℕ) → StateOf table s → (calls : List (List ℕ))
      → never_full (answers_from (by_bytes table) s (uncleared calls)) ≡ true
      → AsBefore (rules_table table) (by_bytes table) (periods_cleared (by_bytes table) s calls)
      (without_clears (by_bytes table) s calls)
      (with_clears (by_bytes table) s calls)
  -- which entries are there
  pub exactly : (s : List ℕ) → StateOf table s → (calls : List (List ℕ))
      → never_full (answers_from (by_bytes table) s (uncleared calls)) ≡ true
      → Exactly (gone_after (rules_table table) (by_bytes table) s calls) (bag_on (without_clears (by_bytes table) s calls))
      (bag_on (with_clears (by_bytes table) s calls))
  -- in the entry numbers of the run with clears
  pub as_own : (s : List ℕ) → StateOf table s → (calls : List (List ℕ))
      → never_full (answers_from (by_bytes table) s (uncleared_back (by_bytes table) s calls)) ≡ true
      → AsOwn (rules_table table) (by_bytes table) (cleared_from (by_bytes table) (λ p. false) s calls)
      (store_from (by_bytes table) s (uncleared_back (by_bytes table) s calls)) (store_from (by_bytes table) s calls)
