use native.Mathlib.Omega.{arith}
use Rattle.field_state.proofs.Changed.{raised_to_back, to_back_done}
use Rattle.field_state.proofs.change.raise_to_back.Goals as goal

pub returns : goal.returns
returns c = search (raised_to_back, to_back_done, arith)
