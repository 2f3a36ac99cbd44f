use mathlib.Core.Path.{◌≡◌}
use Rattle.base.specs.Bits.{pack}
use Rattle.clash.specs.Clash.{clash_in}
use Rattle.clash.proofs.rows.mask_by.Given as goal

abbrev pub invariant-loop-j : goal.invariant-loop-j
invariant-loop-j l = l.mask ≡ pack l.j (clash_in l.table l.i)
