use Rattle.std.proofs.Common.{rules}
use Rattle.field_rules.specs.MessageBytes.{choose}
use Rattle.field_form.proofs.Named.{unsent, sent}
use Rattle.field_form.proofs.Readings.{skip_sent, no_op_sent}
use Rattle.field_form.proofs.read.step_op.Goals as goal

pub returns-in_err-addressed-in-3 : goal.returns-in_err-addressed-in-3
unfolding choose
returns-in_err-addressed-in-3 c = rw c.in-3.is (unsent _ _ _ _ _ _ _ c.all_zero.ensures c.from_residual.result c.from_residual.ensures.0 c.requires.0 (search rules))

pub returns-in_ok-addressed-in-3 : goal.returns-in_ok-addressed-in-3
unfolding choose
returns-in_ok-addressed-in-3 c = rw c.in-3.is (sent _ _ _ _ _ _ _ c.all_zero.ensures _ _ c.in_ok-addressed-in-3.ensures c.step_sign.ensures)

pub returns-in_err-addressed-in-5 : goal.returns-in_err-addressed-in-5
unfolding choose
returns-in_err-addressed-in-5 c = rw c.in-5.is (unsent _ _ _ _ _ _ _ c.all_zero-in-5.ensures c.from_residual-in_err-addressed-in-5.result c.from_residual-in_err-addressed-in-5.ensures.0 c.requires.0 (search rules))

pub returns-in_ok-addressed-in-5 : goal.returns-in_ok-addressed-in-5
unfolding choose
returns-in_ok-addressed-in-5 c = rw c.in-5.is (sent _ _ _ _ _ _ _ c.all_zero-in-5.ensures _ _ c.in_ok-addressed-in-5.ensures c.step_share.ensures)

pub returns-in_err-addressed-in-7 : goal.returns-in_err-addressed-in-7
unfolding choose
returns-in_err-addressed-in-7 c = rw c.in-7.is (unsent _ _ _ _ _ _ _ c.all_zero-in-7.ensures c.from_residual-in_err-addressed-in-7.result c.from_residual-in_err-addressed-in-7.ensures.0 c.requires.0 (search rules))

pub returns-in_ok-addressed-in-7 : goal.returns-in_ok-addressed-in-7
unfolding choose
returns-in_ok-addressed-in-7 c = rw c.in-7.is (sent _ _ _ _ _ _ _ c.all_zero-in-7.ensures _ _ c.in_ok-addressed-in-7.ensures c.step_close.ensures)

pub returns-in_err-addressed-in-9 : goal.returns-in_err-addressed-in-9
unfolding choose
returns-in_err-addressed-in-9 c = rw c.in-9.is (unsent _ _ _ _ _ _ _ c.all_zero-in-9.ensures c.from_residual-in_err-addressed-in-9.result c.from_residual-in_err-addressed-in-9.ensures.0 c.requires.0 (search rules))

pub returns-in_ok-addressed-in-9 : goal.returns-in_ok-addressed-in-9
unfolding choose
returns-in_ok-addressed-in-9 c = rw c.in-9.is (sent _ _ _ _ _ _ _ c.all_zero-in-9.ensures _ _ c.in_ok-addressed-in-9.ensures c.step_hash.ensures)

pub returns-in_err-addressed-in-11 : goal.returns-in_err-addressed-in-11
unfolding choose
returns-in_err-addressed-in-11 c = rw c.in-11.is (unsent _ _ _ _ _ _ _ c.all_zero-in-11.ensures c.from_residual-in_err-addressed-in-11.result c.from_residual-in_err-addressed-in-11.ensures.0 c.requires.0 (search rules))

pub returns-in_ok-addressed-in-11 : goal.returns-in_ok-addressed-in-11
unfolding choose
returns-in_ok-addressed-in-11 c = rw c.in-11.is (sent _ _ _ _ _ _ _ c.all_zero-in-11.ensures _ _ c.in_ok-addressed-in-11.ensures c.step_back.ensures)

pub returns-in_err-addressed-in-17 : goal.returns-in_err-addressed-in-17
unfolding choose
returns-in_err-addressed-in-17 c = rw c.in-17.is (unsent _ _ _ _ _ _ _ c.all_zero-in-17.ensures c.from_residual-in_err-addressed-in-17.result c.from_residual-in_err-addressed-in-17.ensures.0 c.requires.0 (search rules))

pub returns-in_ok-addressed-in-17 : goal.returns-in_ok-addressed-in-17
unfolding choose
returns-in_ok-addressed-in-17 c = rw c.in-17.is (sent _ _ _ _ _ _ _ c.all_zero-in-17.ensures _ _ c.in_ok-addressed-in-17.ensures c.step_down.ensures)

pub returns-in_err-addressed-in-18 : goal.returns-in_err-addressed-in-18
unfolding choose
returns-in_err-addressed-in-18 c = rw c.in-18.is (unsent _ _ _ _ _ _ _ c.all_zero-in-18.ensures c.from_residual-in_err-addressed-in-18.result c.from_residual-in_err-addressed-in-18.ensures.0 c.requires.0 (search rules))

pub returns-in_ok-addressed-in-18 : goal.returns-in_ok-addressed-in-18
unfolding choose
returns-in_ok-addressed-in-18 c = rw c.in-18.is (sent _ _ _ _ _ _ _ c.all_zero-in-18.ensures _ _ c.in_ok-addressed-in-18.ensures c.step_up.ensures)

pub returns-in_default : goal.returns-in_default
returns-in_default c = search (skip_sent, no_op_sent) depth 16
