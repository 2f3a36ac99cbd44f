use Rattle.std.proofs.Common.{rules}
use Rattle.engine.proofs.Calls.{room_read}
use Rattle.field.proofs.Called.{bring_table, bring_state, items-read, ready_read, brought_so}
use Rattle.field.proofs.calls.bring.Goals as goal

pub returns-in_err-check_table : goal.returns-in_err-check_table
returns-in_err-check_table c = bring_table _ _ _ _ c.from_residual.result c.from_residual.ensures.0 (search rules)

pub box_ok-requires : goal.box_ok-requires
box_ok-requires c = room_read _ c.in_ok-check_table.ensures _ c.head_of-h.ensures

pub returns-then-not-box_ok : goal.returns-then-not-box_ok
returns-then-not-box_ok c = bring_state _ _ _ _ c.in_ok-check_table.ensures _ c.head_of-h.ensures c.box_ok.ensures c.if-not-box_ok.true

pub handle_message-requires : goal.handle_message-requires
handle_message-requires c = (ready_read _ c.in_ok-check_table.ensures _ c.head_of-h.ensures 0 _ c.box_ok.ensures (λ k. (c.slice_known-1.given k).fits) c.if-not-box_ok.false, items-read _ c.in_ok-check_table.ensures _ c.head_of-h.ensures)

pub returns : goal.returns
returns c = brought_so _ c.in_ok-check_table.ensures _ c.head_of-h.ensures _ _ c.box_ok.ensures _ _ (ready_read _ c.in_ok-check_table.ensures _ c.head_of-h.ensures 0 _ c.box_ok.ensures (λ k. (c.slice_known-1.given k).fits) c.if-not-box_ok.false) c.handle_message.ensures
