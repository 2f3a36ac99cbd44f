-- The sets gathered so far have only peers of the table exactly if each of them has.
use Rattle.field_valid.proofs.SignerSets.{signers-none, signers_more}
use Rattle.field_valid.proofs.signers_ok.Goals as goal

pub loop-x-init : goal.loop-x-init
loop-x-init c = signers-none _ _ _

pub loop-x-preserved : goal.loop-x-preserved
loop-x-preserved c = search signers_more
