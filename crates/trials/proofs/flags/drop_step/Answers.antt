-- One flag is no longer 0.
use Rattle.trials.proofs.Flagged.{flag_off}
use Rattle.trials.proofs.flags.drop_step.Goals as goal

pub returns : goal.returns
returns c = search flag_off
