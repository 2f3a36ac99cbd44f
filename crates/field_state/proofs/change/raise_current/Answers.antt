use native.Mathlib.Omega.{arith}
use Rattle.field_state.proofs.Changed.{raised_current, current_done}
use Rattle.field_state.proofs.change.raise_current.Goals as goal

pub returns : goal.returns
returns c = search (raised_current, current_done, arith)
