use Rattle.std.proofs.Common.{rules}
use Rattle.field_rules.specs.Rules.{field_rule}
use Rattle.field_rules.specs.MessageBytes.{sent_bytes}
use Rattle.field_state.specs.Parts.{with_known}
use Rattle.field_steps.proofs.Whole.{unsent, sent}
use Rattle.field_steps.proofs.step.step_sign.Goals as goal

pub returns-in_err-judge_sign : goal.returns-in_err-judge_sign
returns-in_err-judge_sign c = unsent _ _ _ _ _ c.from_residual.result c.from_residual.ensures.0 c.requires.0 (search rules)

pub returns : goal.returns
unfolding field_rule with_known sent_bytes
returns c = sent _ _ _ _ _ _ _ _ c.in_ok-judge_sign.ensures c.know.ensures (search rules) (search rules)
