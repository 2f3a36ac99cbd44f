-- The first refusal of the table or the state, or the sheet from both.
use borrow.Author.Rules.{rules}
use Rattle.std.proofs.Math.Facts.{Fits-lt-pow}
use Rattle.engine.proofs.Calls.{room_read}
use Rattle.printing.proofs.Answering.{table_refused, state_refused, both_good}
use Rattle.printing.proofs.write_sheet.Goals as goal

pub returns-in_err-check_table : goal.returns-in_err-check_table
returns-in_err-check_table c = table_refused _ _ _ _ c.from_residual.result c.from_residual.ensures.0 (search rules)

pub state_ok-requires : goal.state_ok-requires
state_ok-requires c = room_read _ c.in_ok-check_table.ensures _ c.head_of-h.ensures

pub returns-then-not-state_ok : goal.returns-then-not-state_ok
returns-then-not-state_ok c =
    state_refused _ _ _ _ c.in_ok-check_table.ensures c.head_of-h.ensures c.state_ok.ensures c.if-not-state_ok.true

pub write_board-requires : goal.write_board-requires
write_board-requires c =
    both_good _ _ c.in_ok-check_table.ensures c.head_of-h.ensures c.state_ok.ensures (λ k. Fits-lt-pow (c.type_inv.s k)) c.if-not-state_ok.false
