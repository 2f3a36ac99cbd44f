use Prim.Native.Nat.{◌≤◌, ◌*◌}
use mathlib.Core.Path.{◌≡◌}
use Rattle.base.specs.Bytes.{byte_at}
use Rattle.base.specs.Sums.{sum}
use Rattle.gains.proofs.sum.Given as goal

abbrev pub invariant-loop-k : goal.invariant-loop-k
invariant-loop-k l = (l.r ≡ sum l.k (byte_at l.numbers)) × (l.r ≤ 255 * l.k)
