use mathlib.Core.Path.{◌≡◌}
use Rattle.base.specs.Bits.{pack}
use Rattle.clearing.specs.Moves.{heard_bits}
use Rattle.clearing.proofs.heard_byte.Given as goal

abbrev pub invariant-loop-k : goal.invariant-loop-k
invariant-loop-k l = l.v ≡ pack l.k (heard_bits l.s l.old l.n l.b)
