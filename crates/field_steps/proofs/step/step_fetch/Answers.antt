use Rattle.std.proofs.Common.{rules}
use Rattle.field_guard.proofs.Fetched.{rows_all}
use Rattle.field_rules.specs.Rules.{field_rule}
use Rattle.field_steps.proofs.Whole.{refused, done}
use Rattle.field_steps.proofs.step.step_fetch.Goals as goal

pub returns-in_err-judge_fetch : goal.returns-in_err-judge_fetch
returns-in_err-judge_fetch c = refused _ _ _ _ _ c.from_residual.result c.from_residual.ensures.0 c.requires (search rules)

pub returns : goal.returns
unfolding field_rule
returns c = done _ _ _ _ _ _ _ c.in_ok-judge_fetch.ensures c.add_rows.ensures (rows_all _ _ _)
