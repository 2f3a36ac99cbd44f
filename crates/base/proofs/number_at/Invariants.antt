use Prim.Native.Nat.{◌<◌, ◌^◌}
use mathlib.Core.Path.{◌≡◌}
use Rattle.base.specs.Bytes.{number_at}
use Rattle.base.proofs.number_at.Given as goal

abbrev pub invariant-loop-i : goal.invariant-loop-i
invariant-loop-i l = (l.value ≡ number_at l.s l.start l.i) × (l.value < 256 ^ l.i)
