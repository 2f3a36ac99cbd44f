-- The bytes passed are written.
use borrow.Author.Rules.{rules}
use Rattle.clearing.proofs.Afresh.{renumbered_none, renumbered_more, renumbered_all}
use Rattle.clearing.proofs.renumber.Goals as goal

pub loop-b-init : goal.loop-b-init
loop-b-init c = search renumbered_none

pub loop-b-preserved : goal.loop-b-preserved
loop-b-preserved c = search renumbered_more

pub returns : goal.returns
returns c = search (renumbered_all, rules)
