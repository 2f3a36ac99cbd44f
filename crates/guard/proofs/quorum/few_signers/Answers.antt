-- By `signers_few`.
use Rattle.guard.proofs.Few.{signers_few}
use Rattle.guard.proofs.quorum.few_signers.Goals as goal

pub returns : goal.returns
returns c =
    signers_few _ _ c.requires _ _ _ _ _ c.current_of.ensures c.signers_of.ensures
    c.reaches.ensures
