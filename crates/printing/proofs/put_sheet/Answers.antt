-- The parts of the sheet, one after the other.
use native.Mathlib.Omega.{arith}
use borrow.Author.Rules.{rules}
use Rattle.printing.proofs.Answering.{sheet_written}
use Rattle.printing.proofs.put_sheet.Goals as goal

pub put_pairs-requires : goal.put_pairs-requires
put_pairs-requires c = (search rules, search rules, omega arith)

pub returns : goal.returns
returns c =
    sheet_written _ _ _ _ c.requires.2 c.first_offset.ensures c.byte.ensures c.byte-2.ensures c.put_pairs.ensures
    c.put_texts.ensures
