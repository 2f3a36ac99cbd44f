-- By `sharers_few`.
use Rattle.guard.proofs.Few.{sharers_few}
use Rattle.guard.proofs.quorum.few_sharers.Goals as goal

pub returns : goal.returns
returns c =
    sharers_few _ _ c.requires _ _ _ c.sharers_of.ensures c.reaches.ensures
