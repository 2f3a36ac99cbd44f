use Rattle.std.proofs.Common.{rules}
use Rattle.field_rules.specs.Rules.{field_rule}
use Rattle.field_rules.specs.MessageBytes.{sent_bytes}
use Rattle.field_state.specs.Parts.{with_current}
use Rattle.field_steps.proofs.Whole.{unsent, sent}
use Rattle.field_steps.proofs.step.step_close.Goals as goal

pub returns-in_err-judge_close : goal.returns-in_err-judge_close
returns-in_err-judge_close c = unsent _ _ _ _ _ c.from_residual.result c.from_residual.ensures.0 c.requires.0 (search rules)

pub returns : goal.returns
unfolding field_rule with_current sent_bytes
returns c = sent _ _ _ _ _ _ _ _ c.in_ok-judge_close.ensures c.raise_current.ensures (search rules) (search rules)
