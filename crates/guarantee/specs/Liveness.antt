-- When a board comes, of the bytes: P3 about the very definitions that `step` promises.
use Rattle.std.specs.Prelude.{ℕ, List, ◌≡◌}
use Rattle.header.specs.Header.{head_of, total_weight}
use Rattle.header.specs.Quorum.{honest_weight}
use Rattle.ballot.specs.Table.{refusal}
use Rattle.rules.specs.Table.{Table}
use Rattle.engine.specs.Engine.{rules_table}
use Rattle.liveness.specs.Places.{Behaviour, behaviour}
use Rattle.liveness.specs.Through.{AlwaysThrough}
use Rattle.liveness.specs.Schedule.{CanClose, MadeOfBytes}
use Rattle.guarantee.specs.Demand3.{by_bytes}

-- the table is taken, and all of its peers are honest: the honest ones weigh as much as all
pub record NoneDishonest (table : List ℕ) : Type 0 where
  pub taken : refusal table ≡ 0
  pub honest : honest_weight (head_of table) ≡ total_weight table

-- what those outside see of the engine on bytes, from the fresh state: what the buffer holds after a list of calls, and
-- the answer of `step` to the next
abbrev pub on_bytes : List ℕ → Behaviour
on_bytes table = behaviour (by_bytes table)

-- every close comes through, and one can be had, in calls of thirteen bytes, wherever there is room for it in the bag,
-- where T is the table of the rules
pub record BoardsComeBy (T : Table) (table : List ℕ) : Type 0 where
  pub through : AlwaysThrough T (on_bytes table)
  pub can_close : CanClose T (on_bytes table)
  pub in_bytes : MadeOfBytes T (on_bytes table)

abbrev pub BoardsCome : List ℕ → Type 0
BoardsCome table = BoardsComeBy (rules_table table) table
