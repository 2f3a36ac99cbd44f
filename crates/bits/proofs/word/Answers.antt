-- Two bytes, low byte first, are a number of two bytes.
use native.Mathlib.Omega.{arith}
use mathlib.Core.Path.{refl}
use Rattle.bits.proofs.Number.{num-two}
use Rattle.bits.proofs.word.Goals as goal

pub returns : goal.returns
returns c = let a = c.args in omega (arith, c.from_le_bytes.ensures, num-two a.s.now a.o _ _ refl refl)
