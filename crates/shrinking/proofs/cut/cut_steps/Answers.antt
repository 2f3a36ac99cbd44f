-- The last step is taken, and 18 is written; or the numbers that passes leave.
use borrow.Author.Rules.{rules}
use Rattle.shrinking.proofs.Printing.{wanted_is, says_clean_lem, says_left}
use Rattle.trials.proofs.Running.{count_few}
use Rattle.shrinking.proofs.cut.cut_steps.Goals as goal

pub returns-then-wanted-eq0 : goal.returns-then-wanted-eq0
returns-then-wanted-eq0 c = says_clean_lem c.requires c.last_answer-wanted.ensures c.if-wanted-eq0.true c.put_refused.ensures

pub passes-requires : goal.passes-requires
passes-requires c = (search rules, wanted_is c.requires c.last_answer-wanted.ensures, search rules, search rules)

pub overflow_add-trial : goal.overflow_add-trial
overflow_add-trial c =
    let few = count_few c.args.trial.now.fixed in
    search rules

pub put_all-requires : goal.put_all-requires
put_all-requires c = count_few c.args.trial.now.fixed

pub returns : goal.returns
returns c =
    says_left c.requires c.last_answer-wanted.ensures c.if-wanted-eq0.false c.args.trial.now.fixed.counted
    c.passes.ensures c.put_all.ensures
