use Rattle.field_guard.proofs.Few.{signers_few}
use Rattle.field_guard.proofs.shares.few_signers.Goals as goal

pub returns : goal.returns
returns c = signers_few _ _ c.requires _ _ _ _
    c.current.ensures c.signers_of.ensures c.reaches.ensures
