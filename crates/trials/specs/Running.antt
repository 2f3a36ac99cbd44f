-- What trials are run with, and what holds while one runs.
use Rattle.std.specs.Prelude.{ℕ, ◌+◌, List, ◌≡◌}
use Rattle.header.specs.declared.Head.{Head}
use Rattle.rules.specs.Run.{store_after}
use Rattle.rehearsal.specs.Input.{table_in, step_count, call_at}
use Rattle.rehearsal.specs.Running.{Made}
use Rattle.guarantee.specs.Demand3.{by_bytes}
use Rattle.dropping.specs.Kept.{Kept, kept_calls}

-- what all trials of an input have in common: what is made of it for a rehearsal, and the number of the last step
pub record Fixed (input table : List ℕ) (h : Head) (rows : List ℕ) (last : ℕ) : Type 0 where
  pub made : Made input table h rows
  pub counted : step_count input ≡ last + 1

-- s is the state before step k, where the kept steps before it have run from the fresh state
pub record Stands (input : List ℕ) (keep : Kept) (k : ℕ) (s : List ℕ) : Type 0 where
  pub state : s ≡ store_after (by_bytes (table_in input)) (kept_calls (call_at input) keep k)
