use mathlib.Core.Path.{◌≡◌}
use lib.Dec.{eqb}
use Rattle.base.specs.Below.{every}
use Rattle.bits.specs.Row.{bit_at}
use Rattle.valid.proofs.Only.{byte_in}
use Rattle.valid.proofs.rows.only.Given as goal

abbrev pub invariant-loop-i : goal.invariant-loop-i
invariant-loop-i l = eqb l.beside 0 ≡ every l.i (byte_in l.s l.o (bit_at l.mask))
