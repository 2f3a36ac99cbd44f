-- By `entered_there` and `entered_new`.
use Rattle.bag.proofs.Entered.{entered_there, entered_new, has_room}
use Rattle.bag.proofs.enter.Goals as goal

pub append-requires : goal.append-requires
append-requires c = (c.requires.0, has_room _ _ c.requires.1 c.is_in.ensures c.if-not-is_in.true)

pub returns-then-not-is_in : goal.returns-then-not-is_in
returns-then-not-is_in c = entered_new _ _ _ c.is_in.ensures c.if-not-is_in.true c.append.ensures

pub returns-else-not-is_in : goal.returns-else-not-is_in
returns-else-not-is_in c = entered_there _ _ c.requires.0 c.is_in.ensures c.if-not-is_in.false
