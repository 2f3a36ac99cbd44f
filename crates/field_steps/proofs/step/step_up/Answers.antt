use Rattle.std.proofs.Common.{rules}
use Rattle.field_rules.specs.Rules.{field_rule}
use Rattle.field_rules.specs.MessageBytes.{sent_bytes}
use Rattle.field_state.specs.Parts.{with_down}
use Rattle.field_steps.proofs.Whole.{unsent, sent}
use Rattle.field_steps.proofs.step.step_up.Goals as goal

pub returns-in_err-judge_down : goal.returns-in_err-judge_down
returns-in_err-judge_down c = unsent _ _ _ _ _ c.from_residual.result c.from_residual.ensures.0 c.requires.0 (search rules)

pub returns : goal.returns
unfolding field_rule with_down sent_bytes
returns c = sent _ _ _ _ _ _ _ _ c.in_ok-judge_down.ensures.1 c.set_down.ensures (search rules) (search rules)
