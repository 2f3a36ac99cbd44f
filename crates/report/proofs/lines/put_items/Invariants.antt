use Rattle.text.specs.Wrote.{Put, each}
use Rattle.report.specs.Lines.{board_item}
use Rattle.report.proofs.lines.put_items.Given as goal

abbrev pub invariant-loop-x : goal.invariant-loop-x
invariant-loop-x l = Put l.initial.out (each (board_item l.board) l.x) l.out
