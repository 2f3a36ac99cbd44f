-- The table and the state passed their tests.
use Rattle.engine.proofs.Calls.{room_read, prepared, ready_read}
use Rattle.engine.proofs.step.Goals as goal

pub state_ok-requires : goal.state_ok-requires
state_ok-requires c = room_read _ c.in_ok-check_table.ensures _ c.head_of-h.ensures

pub run_step-requires : goal.run_step-requires
run_step-requires c = (
  prepared _ c.in_ok-check_table.ensures _ c.head_of-h.ensures,
  ready_read _ c.in_ok-check_table.ensures _ c.head_of-h.ensures _ (λ k. (c.slice_known-1.given k).fits)
      (cc),
)
