use native.Mathlib.Omega.{arith}
use mathlib.Core.Path.{◌∙◌}
use Rattle.field_state.proofs.Cells.{cell_yes, cell_no}
use Rattle.field_state.proofs.part.has_cell.Goals as goal

pub returns-then-is_cell : goal.returns-then-is_cell
returns-then-is_cell c = cell_yes _ _ _ _ c.is_cell.ensures _ c.if-is_cell.true c.has.ensures (omega arith)

pub returns-else-is_cell : goal.returns-else-is_cell
returns-else-is_cell c = c.if-is_cell.false ∙ cell_no _ _ _ _ c.is_cell.ensures c.if-is_cell.false
