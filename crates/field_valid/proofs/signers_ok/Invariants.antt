use Prim.Native.Nat.{◌^◌}
use mathlib.Core.Path.{◌≡◌}
use lib.Dec.{ltb}
use Rattle.base.specs.Below.{every}
use Rattle.field_valid.specs.SignerSets.{signers_ok}
use Rattle.field_valid.proofs.signers_ok.Given as goal

abbrev pub invariant-loop-x : goal.invariant-loop-x
invariant-loop-x l = ltb l.sum (2 ^ l.h.n) ≡ every l.x (signers_ok l.h.n l.s l.o)
