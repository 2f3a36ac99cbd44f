use Prim.Native.Nat.{◌<◌}
use mathlib.Core.Path.{◌≡◌}
use Rattle.gains.specs.Chains.{mix_to}
use Rattle.gains.proofs.different.mix_of.Given as goal

abbrev pub invariant-loop-i : goal.invariant-loop-i
invariant-loop-i l = (l.h ≡ mix_to l.c l.i) × (l.h < 4093)
