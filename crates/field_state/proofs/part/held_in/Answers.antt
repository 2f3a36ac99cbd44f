use native.Mathlib.Omega.{arith}
use Rattle.field_state.proofs.Cells.{items_in_lem, items-out}
use Rattle.field_state.proofs.part.held_in.Goals as goal

pub returns-then-i-lt-PERIODS : goal.returns-then-i-lt-PERIODS
returns-then-i-lt-PERIODS c = search (items_in_lem, arith)

pub returns-else-i-lt-PERIODS : goal.returns-else-i-lt-PERIODS
returns-else-i-lt-PERIODS c = search (items-out, arith)
