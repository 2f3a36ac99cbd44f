use Rattle.state.specs.Contents.{contents}
use Rattle.text.specs.Wrote.{Put, each}
use Rattle.report.specs.State.{bag_line}
use Rattle.report.proofs.shown.put_boards.Given as goal

abbrev pub invariant-loop-e : goal.invariant-loop-e
invariant-loop-e l = Put l.initial.out (each (bag_line l.h (contents l.s)) l.e) l.out
