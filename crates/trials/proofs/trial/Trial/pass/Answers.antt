-- What is still to try leads to the pass's end.
use borrow.Author.Rules.{rules}
use Rattle.dropping.proofs.Passing.{pass_none, pass_more, pass_all}
use Rattle.trials.proofs.trial.Trial.pass.Goals as goal

pub loop-k-init : goal.loop-k-init
loop-k-init c = (search rules, search rules, pass_none)

pub loop-k-preserved : goal.loop-k-preserved
loop-k-preserved c = (search rules, search rules, search pass_more)

pub returns : goal.returns
returns c = search pass_all
