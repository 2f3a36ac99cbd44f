-- The flag is 0.
use Rattle.trials.proofs.Flagged.{flag_read}
use Rattle.trials.proofs.flags.is_kept.Goals as goal

pub returns : goal.returns
returns c = search flag_read
