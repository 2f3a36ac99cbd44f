-- The totals, and then the end.
use Rattle.text.proofs.Puts.{◌▷◌}
use Rattle.report.specs.State.{foot}
use Rattle.report.proofs.shown.put_foot.Goals as goal

pub returns : goal.returns
unfolding foot
returns c = c.put_totals.ensures ▷ c.word.ensures
