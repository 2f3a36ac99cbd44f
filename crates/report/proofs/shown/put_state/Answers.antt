-- The parts of the report, one after the other.
use mathlib.Core.Path.{ap}
use Rattle.text.proofs.Puts.{◌▷◌, renamed}
use Rattle.report.specs.State.{shown_lines, foot, state_lines}
use Rattle.report.proofs.shown.put_state.Goals as goal

pub returns : goal.returns
unfolding state_lines shown_lines
returns c =
    c.put_dbs.ensures ▷ c.put_receipts.ensures ▷ c.put_boards.ensures ▷ renamed (ap foot c.count.ensures) c.put_foot.ensures
