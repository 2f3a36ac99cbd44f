-- The sets of the items passed are added.
use mathlib.Core.Path.{refl}
use borrow.Author.Rules.{rules}
use Rattle.sets.proofs.Rows.{row-none, row_more}
use Rattle.sets.proofs.database.add_row.Goals as goal

pub loop-i-init : goal.loop-i-init
loop-i-init c = (refl, search row-none)

pub loop-i-preserved : goal.loop-i-preserved
loop-i-preserved c = (search rules, search row_more)
