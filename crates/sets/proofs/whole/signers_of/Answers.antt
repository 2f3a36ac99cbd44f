-- In range the set is the word at its place; out of range it is empty.
use Rattle.sets.proofs.Words.{signers_in_lem, signers-out}
use Rattle.sets.proofs.whole.signers_of.Goals as goal

pub returns-then-is_spot : goal.returns-then-is_spot
returns-then-is_spot c = search signers_in_lem

pub returns : goal.returns
returns c = search signers-out
