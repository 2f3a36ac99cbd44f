use Rattle.base.specs.Tab.{FilledTo}
use Rattle.valid.specs.Rows.{first, in_rows, byte_of}
use Rattle.valid.proofs.mask.of_rows.Given as goal

abbrev pub invariant-loop-b : goal.invariant-loop-b
invariant-loop-b g l = FilledTo 0 g.row.N (byte_of (in_rows l.used l.w (first l.n))) l.b l.m
