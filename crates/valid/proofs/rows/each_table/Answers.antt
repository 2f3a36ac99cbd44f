-- Each row has only bits that it may have.
use Prim.Native.Nat.{◌*◌}
use lib.ListN.{length}
use Rattle.std.proofs.Common.{rules}
use borrow.Author.Tests.{tests}
use Rattle.std.proofs.iter.Serving.{serving}
use Rattle.base.proofs.Ranges.{all_in_range}
use Rattle.bits.specs.Row.{bit_at}
use Rattle.state.specs.Layout.{periods}
use Rattle.valid.specs.Rows.{in_rows}
use Rattle.valid.proofs.Only.{row_in, by_rows, by_row_lem, row_fits}
use Rattle.valid.proofs.rows.each_table.Goals as goal

pub returns : goal.returns
returns c =
    let f = row_in c.args.s.now c.args.o c.args.n (periods * length c.args.mask.now) (in_rows c.args.used (length c.args.mask.now) (bit_at c.args.mask.now)) in
    by_rows _ _ _ _ _ _ _ (all_in_range f _ c.all.ensures.ran (λ x b q k. search (rules, tests, by_row_lem)))

pub all-requires-clause-callable : goal.all-requires-clause-callable
all-requires-clause-callable c = grind (serving, row_fits)
