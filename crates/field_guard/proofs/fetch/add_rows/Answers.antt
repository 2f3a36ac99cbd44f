use mathlib.Core.Path.{refl}
use Rattle.field_guard.proofs.Fetched.{rows_none, rows_more}
use borrow.Author.Rules.{rules}
use Rattle.field_guard.proofs.fetch.add_rows.Goals as goal

pub loop-x-init : goal.loop-x-init
loop-x-init c = (refl, search rows_none)

pub loop-x-preserved : goal.loop-x-preserved
loop-x-preserved c = (search rules, search rows_more)
