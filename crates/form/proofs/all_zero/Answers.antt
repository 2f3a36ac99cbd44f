-- A sum of numbers is 0 where each of them is.
use Prim.Native.Nat.{◌+◌}
use Rattle.rules.specs.Form.{all_zero}
use Rattle.form.proofs.Ops.{two}
use Rattle.form.proofs.all_zero.Goals as goal

pub returns : goal.returns
unfolding all_zero
returns c = let x = c.args in rw (← two (x.a + x.b + x.c) x.board, ← two (x.a + x.b) x.c, ← two x.a x.b) c.eq.ensures
