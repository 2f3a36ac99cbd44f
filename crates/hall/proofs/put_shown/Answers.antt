-- The period is out of range, has no board, or has one.
use borrow.Author.Rules.{rules}
use Rattle.printing.proofs.Answering.{items-read}
use Rattle.hall.proofs.Hanging.{no_period_lem, no_board_lem, sheet_shown}
use Rattle.hall.proofs.put_shown.Goals as goal

pub returns-then-h-p : goal.returns-then-h-p
returns-then-h-p c =
    no_period_lem _ _ _ c.requires c.if-h-p.true c.put_refused.ensures

pub put_board-requires : goal.put_board-requires
put_board-requires c = (search rules, search items-read)

pub returns-in-Some : goal.returns-in-Some
returns-in-Some c =
    sheet_shown _ _ _ c.requires c.if-h-p.false c.board_of.ensures c.in-Some.is
    c.put_board.ensures

pub returns-in-None : goal.returns-in-None
returns-in-None c =
    no_board_lem _ _ _ c.requires c.if-h-p.false c.board_of.ensures c.in-None.is
    c.put_refused-in-None.ensures
