-- The board's items are measured; then there is no room for the sheet, or it is written.
use borrow.Author.Rules.{rules}
use Rattle.printing.proofs.Answering.{few_items, no_room, printed}
use Rattle.printing.proofs.print.Goals as goal

pub measure-e-requires : goal.measure-e-requires
measure-e-requires c = (search rules, search few_items)

pub returns-then-sheet-length : goal.returns-then-sheet-length
returns-then-sheet-length c = search no_room

pub put_sheet-requires : goal.put_sheet-requires
put_sheet-requires c = (search rules, search few_items, search rules)

pub returns : goal.returns
returns c = printed _ _ _ _ c.measure-e.ensures c.first_offset.ensures c.if-sheet-length.false (search rules) c.new.ensures.out c.new.ensures.at c.put_sheet.ensures (search rules)
