use Rattle.text.specs.Wrote.{Put}
use Rattle.sheets.specs.Made.{pairs_from}
use Rattle.printing.specs.Board.{board_texts}
use Rattle.printing.specs.Measured.{Measured}
use Rattle.printing.proofs.parts.put_pairs.Given as goal

abbrev pub invariant-loop-x : goal.invariant-loop-x
invariant-loop-x l =
    Measured l.table l.board l.x l.e × Put l.initial.out (pairs_from l.first (board_texts l.table l.board l.x)) l.out
