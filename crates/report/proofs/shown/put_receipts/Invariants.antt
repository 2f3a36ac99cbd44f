use Rattle.state.specs.Contents.{contents}
use Rattle.text.specs.Wrote.{Put, each}
use Rattle.report.specs.State.{receipt_period}
use Rattle.report.proofs.shown.put_receipts.Given as goal

abbrev pub invariant-loop-p : goal.invariant-loop-p
invariant-loop-p l = Put l.initial.out (each (receipt_period l.h (contents l.s)) l.p) l.out
