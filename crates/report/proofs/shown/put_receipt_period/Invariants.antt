use Rattle.state.specs.Contents.{contents}
use Rattle.text.specs.Wrote.{Put, each}
use Rattle.report.specs.State.{receipt_item}
use Rattle.report.proofs.shown.put_receipt_period.Given as goal

abbrev pub invariant-loop-x : goal.invariant-loop-x
invariant-loop-x l = Put l.initial.out (each (receipt_item (contents l.s) l.p) l.x) l.out
