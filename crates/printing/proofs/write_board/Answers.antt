-- The period is out of range, has no board, or has one.
use borrow.Author.Rules.{rules}
use Rattle.printing.proofs.Answering.{items-read, no_period_lem, no_board_lem, ended}
use Rattle.printing.proofs.write_board.Goals as goal

pub returns-then-h-p : goal.returns-then-h-p
returns-then-h-p c = no_period_lem _ _ _ _ c.requires c.if-h-p.true

pub print-requires : goal.print-requires
print-requires c = (search rules, search items-read)

pub returns-in-Some : goal.returns-in-Some
returns-in-Some c = ended _ _ _ _ c.requires c.if-h-p.false c.board_of.ensures c.in-Some.is c.print.ensures

pub returns-in-None : goal.returns-in-None
returns-in-None c = no_board_lem _ _ _ _ c.requires c.if-h-p.false c.board_of.ensures c.in-None.is
