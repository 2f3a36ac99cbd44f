use Rattle.std.proofs.Common.{rules}
use Rattle.engine.proofs.Calls.{room_read}
use Rattle.field.proofs.Called.{ready_read, bad_table, state_refused, output_refused, acted_so, act_parts}
use Rattle.field.proofs.calls.act.Goals as goal

pub returns-in_err-check_table : goal.returns-in_err-check_table
returns-in_err-check_table c =
    let r = act_parts _ _ _ _ _ _ _ _ (bad_table _ _ _ _ _ _ c.from_residual.result c.from_residual.ensures.0 (search rules)) in
    record { value = r.0; s_after = r.1.0; sent_after = r.1.1 }

pub box_ok-requires : goal.box_ok-requires
box_ok-requires c = room_read _ c.in_ok-check_table.ensures _ c.head_of-h.ensures

pub returns-then-not-box_ok : goal.returns-then-not-box_ok
returns-then-not-box_ok c =
    let r = act_parts _ _ _ _ _ _ _ _ (state_refused _ c.in_ok-check_table.ensures _ c.head_of-h.ensures _ _ c.box_ok.ensures _ _ _ c.if-not-box_ok.true) in
    record { value = r.0; s_after = r.1.0; sent_after = r.1.1 }

pub returns-then-sent-ne13 : goal.returns-then-sent-ne13
returns-then-sent-ne13 c =
    let r = act_parts _ _ _ _ _ _ _ _ (output_refused _ c.in_ok-check_table.ensures _ c.head_of-h.ensures _ _ c.box_ok.ensures _ _ c.if-sent-ne13.true) in
    record { value = r.0; s_after = r.1.0; sent_after = r.1.1 }

pub handle_step-requires : goal.handle_step-requires
handle_step-requires c = (ready_read _ c.in_ok-check_table.ensures _ c.head_of-h.ensures 0 _ c.box_ok.ensures (λ k. (c.slice_known-1.given k).fits) c.if-not-box_ok.false, search rules)

pub returns : goal.returns
returns c =
    let r = act_parts _ _ _ _ _ _ _ _ (acted_so _ c.in_ok-check_table.ensures _ c.head_of-h.ensures _ _ c.box_ok.ensures _ _ _ _ (search rules) (ready_read _ c.in_ok-check_table.ensures _ c.head_of-h.ensures 0 _ c.box_ok.ensures (λ k. (c.slice_known-1.given k).fits) c.if-not-box_ok.false)
    c.handle_step.ensures) in
    record { value = r.0; s_after = r.1.0; sent_after = r.1.1 }
