use Prim.Native.Nat.{◌≤◌}
use mathlib.Core.Path.{◌≡◌}
use Rattle.gains.specs.Gain.{count_of, adds}
use Rattle.gains.specs.File.{calls_to}
use Rattle.gains.proofs.count_added.Given as goal

abbrev pub invariant-loop-k : goal.invariant-loop-k
invariant-loop-k l = (l.r ≡ count_of adds (calls_to l.s l.k)) × (l.r ≤ l.k)
