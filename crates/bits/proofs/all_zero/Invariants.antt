use mathlib.Core.Path.{◌≡◌}
use lib.Dec.{eqb}
use Rattle.base.specs.Below.{every}
use Rattle.bits.proofs.Zeros.{zero_byte}
use Rattle.bits.proofs.all_zero.Given as goal

abbrev pub invariant-loop-i : goal.invariant-loop-i
invariant-loop-i l = eqb l.sum 0 ≡ every l.i (zero_byte l.s l.o)
