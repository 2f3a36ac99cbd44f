use Rattle.std.proofs.Common.{rules}
use Rattle.field_state.proofs.Changed.{down_done}
use Rattle.field_state.proofs.change.set_down.Goals as goal

pub returns : goal.returns
returns c = search (down_done, rules)
