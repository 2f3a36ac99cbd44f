-- The board's items are measured, and the sheet is written.
use borrow.Author.Rules.{rules}
use Rattle.printing.proofs.Answering.{few_items}
use Rattle.printing.proofs.put_board.Goals as goal

pub measure-e-requires : goal.measure-e-requires
measure-e-requires c = (search rules, search few_items)

pub put_sheet-requires : goal.put_sheet-requires
put_sheet-requires c = (search rules, search few_items, search rules)
