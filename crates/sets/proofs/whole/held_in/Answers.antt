-- In range the set is the number at its place; out of range it is empty.
use Rattle.sets.proofs.Words.{held_in, held_out}
use Rattle.sets.proofs.whole.held_in.Goals as goal

pub returns-then-is_row : goal.returns-then-is_row
returns-then-is_row c = search held_in

pub returns : goal.returns
returns c = search held_out
