use Rattle.std.proofs.Common.{rules}
use Rattle.field_rules.specs.Rules.{field_rule}
use Rattle.field_rules.specs.MessageBytes.{sent_bytes}
use Rattle.field_steps.proofs.Whole.{unsent, sent, as_it_is}
use Rattle.field_steps.proofs.step.step_hash.Goals as goal

pub returns-in_err-judge_hash : goal.returns-in_err-judge_hash
returns-in_err-judge_hash c = unsent _ _ _ _ _ c.from_residual.result c.from_residual.ensures.0 c.requires.0 (search rules)

pub returns : goal.returns
unfolding field_rule sent_bytes
returns c = sent _ _ _ _ _ _ _ _ c.in_ok-judge_hash.ensures (as_it_is _ _ c.requires.0) (search rules) (search rules)
