-- A peer's number is its byte; there is none of anyone else.
use Rattle.state.specs.Contents.{contents}
use Rattle.state.proofs.numbers.number_of.Goals as goal

pub returns-then-is_peer : goal.returns-then-is_peer
unfolding contents
returns-then-is_peer c = rw (← c.peer.ensures, ← c.is_peer.ensures, c.if-is_peer.true, c.slot_of.ensures)

pub returns-else-is_peer : goal.returns-else-is_peer
unfolding contents
returns-else-is_peer c = rw (← c.peer.ensures, ← c.is_peer.ensures, c.if-is_peer.false)
