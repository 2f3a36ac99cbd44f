use Rattle.std.proofs.Common.{rules}
use Rattle.field_rules.specs.Rules.{field_rule}
use Rattle.field_state.specs.Hearing.{hearing}
use Rattle.field_steps.proofs.Whole.{refused, done}
use Rattle.field_steps.proofs.step.step_hear.Goals as goal

pub returns-in_err-judge_hear : goal.returns-in_err-judge_hear
returns-in_err-judge_hear c = refused _ _ _ _ _ c.from_residual.result c.from_residual.ensures.0 c.requires (search rules)

pub returns : goal.returns
unfolding field_rule hearing
returns c = done _ _ _ _ _ _ _ c.in_ok-judge_hear.ensures c.hear.ensures (search rules)
