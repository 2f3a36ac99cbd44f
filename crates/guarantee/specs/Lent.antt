-- When a board comes, of states that were lent: P3 about the very definitions that `step` promises, from the bytes of
-- every state that row 14 passes.
use Rattle.std.specs.Prelude.{ℕ, List}
use Rattle.rules.specs.Table.{Table}
use Rattle.engine.specs.Engine.{rules_table}
use Rattle.engine.specs.States.{StateOf}
use Rattle.liveness.specs.Places.{Behaviour, behaviour_from}
use Rattle.liveness.specs.Lent.{ThroughLent}
use Rattle.liveness.specs.Schedule.{LentCanClose}
use Rattle.guarantee.specs.Demand3.{by_bytes}

-- what those outside see of the engine on bytes, from the state s: what the buffer holds after a list of calls, and the
-- answer of `step` to the next
abbrev pub from_state : List ℕ → List ℕ → Behaviour
from_state table s = behaviour_from (by_bytes table) s

-- where T is the table of the rules
abbrev pub BoardsComeLentBy : Table → List ℕ → Type 0
BoardsComeLentBy T table = (s : List ℕ) → StateOf table s → ThroughLent T (from_state table s)

abbrev pub BoardsComeLent : List ℕ → Type 0
BoardsComeLent table = BoardsComeLentBy (rules_table table) table

-- and wherever there is room in the bag for a hash and a backing of each peer, there is such a close, without takes
abbrev pub CanCloseLent : List ℕ → Type 0
CanCloseLent table = (s : List ℕ) → StateOf table s → LentCanClose (rules_table table) (from_state table s)
