use Rattle.text.specs.Wrote.{Put}
use Rattle.sheets.specs.Made.{joined}
use Rattle.printing.specs.Board.{board_texts}
use Rattle.printing.proofs.parts.put_texts.Given as goal

abbrev pub invariant-loop-x : goal.invariant-loop-x
invariant-loop-x l = Put l.initial.out (joined (board_texts l.table l.board l.x)) l.out
