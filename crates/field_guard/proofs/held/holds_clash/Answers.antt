use Rattle.field_guard.proofs.Rows.{clash_common}
use Rattle.field_guard.proofs.held.holds_clash.Goals as goal

pub returns : goal.returns
returns c = search clash_common
