use mathlib.Core.Path.{◌≡◌}
use Prim.Native.Nat.{◌+◌, ◌-◌}
use lib.ListN.{length}
use Rattle.bits.specs.Number.{stored}
use Rattle.bits.proofs.store.Given as goal

abbrev pub invariant-loop-i : goal.invariant-loop-i
invariant-loop-i l = (length l.s ≡ length l.initial.s) × (stored (l.n - l.i) l.s (l.o + l.i) l.w ≡ stored l.n l.initial.s l.o l.v)
