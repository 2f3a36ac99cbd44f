-- One flag is 0 again.
use Rattle.trials.proofs.Flagged.{flag_on}
use Rattle.trials.proofs.flags.put_back.Goals as goal

pub returns : goal.returns
returns c = search flag_on
