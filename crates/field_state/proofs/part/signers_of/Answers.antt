use Rattle.field_state.proofs.Cells.{signers_in_lem, signers-out}
use Rattle.field_state.proofs.part.signers_of.Goals as goal

pub returns-then-is_cell : goal.returns-then-is_cell
returns-then-is_cell c = search signers_in_lem

pub returns-else-is_cell : goal.returns-else-is_cell
returns-else-is_cell c = search signers-out
