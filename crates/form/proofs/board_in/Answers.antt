-- Eight bytes, high byte first, are a number of eight bytes.
use native.Mathlib.Omega.{arith}
use Rattle.base.specs.Bytes.{number_at}
use Rattle.form.proofs.board_in.Goals as goal

pub returns : goal.returns
unfolding number_at
returns c = omega (arith, c.from_be_bytes.ensures)
