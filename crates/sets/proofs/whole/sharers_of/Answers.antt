-- In range the set is the word at its place; out of range it is empty.
use Rattle.sets.proofs.Words.{sharers_in, sharers_out}
use Rattle.sets.proofs.whole.sharers_of.Goals as goal

pub returns-then-is_cell : goal.returns-then-is_cell
returns-then-is_cell c = search sharers_in

pub returns : goal.returns
returns c = search sharers_out
