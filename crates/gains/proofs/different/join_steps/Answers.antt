-- The steps passed are in their chains.
use borrow.Author.Rules.{rules}
use Rattle.base.proofs.Tab.{filled_none}
use Rattle.gains.specs.Chains.{new_digit}
use Rattle.gains.proofs.Counted.{byte_digit}
use Rattle.gains.proofs.News.{marked_more}
use Rattle.gains.proofs.different.join_steps.Goals as goal

pub loop-k-init : goal.loop-k-init
loop-k-init c = (search rules, search rules, search filled_none)

pub loop-k-preserved : goal.loop-k-preserved
unfolding new_digit
loop-k-preserved c =
    let marked = c.loop-k.invariant.2 in
    let told = byte_digit c.join.ensures.0 in
    (search rules, search rules, marked_more _ _ _ _ _ marked c.loop-k-test.true (search rules) told)
