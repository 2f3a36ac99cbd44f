use Prim.Native.Nat.{◌+◌}
use mathlib.Core.Path.{◌≡◌}
use Rattle.base.specs.Bits.{pack}
use Rattle.header.specs.Header.{weight_in, has}
use Rattle.header.proofs.weights.peers_with.Given as goal

abbrev pub invariant-loop-k : goal.invariant-loop-k
invariant-loop-k l = l.set ≡ pack l.k (λ i. has l.feature (weight_in l.table (i + 1)))
