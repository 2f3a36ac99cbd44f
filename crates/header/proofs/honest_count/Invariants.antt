use Prim.Native.Nat.{◌≤◌}
use mathlib.Core.Path.{◌≡◌}
use Rattle.base.specs.Weight.{weight, ones}
use Rattle.header.specs.Header.{is_honest}
use Rattle.header.proofs.honest_count.Given as goal

abbrev pub invariant-loop-k : goal.invariant-loop-k
invariant-loop-k l = (l.count ≤ l.k) × (l.count ≡ weight ones l.k (is_honest l.h))
