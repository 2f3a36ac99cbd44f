-- The bytes passed are mixed.
use borrow.Author.Rules.{rules}
use Rattle.gains.specs.Chains.{mix_of}
use Rattle.gains.proofs.Chains.{mix_none, mix_more}
use Rattle.gains.proofs.different.mix_of.Goals as goal

pub loop-i-init : goal.loop-i-init
loop-i-init c = (search mix_none, search rules)

pub loop-i-preserved : goal.loop-i-preserved
loop-i-preserved c = (search mix_more, search rules)

pub returns : goal.returns
unfolding mix_of
returns c = search rules
