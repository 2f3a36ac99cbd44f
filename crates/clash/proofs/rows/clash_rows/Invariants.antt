use Rattle.clash.specs.Clash.{clash_mask}
use Rattle.base.specs.Tab.{FilledTo}
use Rattle.clash.proofs.rows.clash_rows.Given as goal

abbrev pub invariant-loop-i : goal.invariant-loop-i
invariant-loop-i l = FilledTo 0 64 (clash_mask l.table) l.i l.rows
