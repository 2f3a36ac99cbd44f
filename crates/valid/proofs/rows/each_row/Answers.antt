-- Each row has only bits that it may have.
use lib.ListN.{length}
use Rattle.std.proofs.Common.{rules}
use borrow.Author.Tests.{tests}
use Rattle.base.proofs.Ranges.{all_in_range}
use Rattle.bits.specs.Row.{bit_at}
use Rattle.valid.proofs.Only.{row_in, by_rows, by_row_lem}
use Rattle.valid.proofs.rows.each_row.Goals as goal

pub returns : goal.returns
returns c =
    let f = row_in c.args.s.now c.args.o c.args.used (length c.args.mask.now) (bit_at c.args.mask.now) in
    by_rows _ _ _ _ _ _ _ (all_in_range f _ c.all.ensures.ran (λ x b q k. search (rules, tests, by_row_lem)))
