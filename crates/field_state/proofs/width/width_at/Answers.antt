use Rattle.field_state.proofs.Widths.{width_in, width_out}
use Rattle.field_state.proofs.width.width_at.Goals as goal

pub returns-then-x-h : goal.returns-then-x-h
returns-then-x-h c = search width_in

pub returns-else-x-h : goal.returns-else-x-h
returns-else-x-h c = search width_out
