-- The back is another peer's, or counted up to 8.
use Rattle.gains.proofs.Counted.{no_turn, one_turn}
use Rattle.gains.proofs.count_turn.Goals as goal

pub returns-then-byte_at-eq11 : goal.returns-then-byte_at-eq11
returns-then-byte_at-eq11 c = search one_turn

pub returns-else-byte_at-eq11 : goal.returns-else-byte_at-eq11
returns-else-byte_at-eq11 c = search no_turn
