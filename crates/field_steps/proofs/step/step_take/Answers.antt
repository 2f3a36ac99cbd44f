use Rattle.std.proofs.Common.{rules}
use Rattle.field_rules.specs.Rules.{field_rule}
use Rattle.field_state.specs.Parts.{with_known}
use Rattle.field_steps.proofs.Whole.{refused, done}
use Rattle.field_steps.proofs.step.step_take.Goals as goal

pub returns-in_err-judge_take : goal.returns-in_err-judge_take
returns-in_err-judge_take c = refused _ _ _ _ _ c.from_residual.result c.from_residual.ensures.0 c.requires (search rules)

pub returns : goal.returns
unfolding field_rule with_known
returns c = done _ _ _ _ _ _ _ c.in_ok-judge_take.ensures c.know.ensures (search rules)
