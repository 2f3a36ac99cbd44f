use Rattle.std.proofs.Common.{rules}
use Rattle.field_rules.specs.MessageBytes.{choose}
use Rattle.field_form.proofs.Named.{turned, mine, of_hand, too_take, too_hear}
use Rattle.field_form.proofs.Readings.{skip, no_op}
use Rattle.field_form.proofs.read.message_op.Goals as goal

pub returns-in_err-addressed-in-2 : goal.returns-in_err-addressed-in-2
unfolding choose
returns-in_err-addressed-in-2 c = rw c.in-2.is (turned _ _ _ _ _ _ _ c.all_zero.ensures c.from_residual.result c.from_residual.ensures.0 c.requires.0 (search rules))

pub returns-in_ok-addressed-in-2 : goal.returns-in_ok-addressed-in-2
unfolding choose
returns-in_ok-addressed-in-2 c = rw c.in-2.is (mine _ _ _ _ _ _ _ c.all_zero.ensures _ c.in_ok-addressed-in-2.ensures (of_hand _ _ _ c.requires.0 c.requires.1 _ _ _ c.clash_mask.ensures _ c.step_hand.ensures))

pub returns-in_err-addressed-in-4 : goal.returns-in_err-addressed-in-4
unfolding choose
returns-in_err-addressed-in-4 c = rw c.in-4.is (turned _ _ _ _ _ _ _ c.all_zero-in-4.ensures c.from_residual-in_err-addressed-in-4.result c.from_residual-in_err-addressed-in-4.ensures.0 c.requires.0 (search rules))

pub returns-in_ok-addressed-in-4 : goal.returns-in_ok-addressed-in-4
unfolding choose
returns-in_ok-addressed-in-4 c = rw c.in-4.is (too_take _ _ _ _ _ _ _ _ _ _ _ (mine _ _ _ _ _ _ _ c.all_zero-in-4.ensures _ c.in_ok-addressed-in-4.ensures c.step_take.ensures))

pub returns-in_err-addressed-in-10 : goal.returns-in_err-addressed-in-10
unfolding choose
returns-in_err-addressed-in-10 c = rw c.in-10.is (turned _ _ _ _ _ _ _ c.all_zero-in-10.ensures c.from_residual-in_err-addressed-in-10.result c.from_residual-in_err-addressed-in-10.ensures.0 c.requires.0 (search rules))

pub returns-in_ok-addressed-in-10 : goal.returns-in_ok-addressed-in-10
unfolding choose
returns-in_ok-addressed-in-10 c = rw c.in-10.is (too_hear _ _ _ _ _ _ _ _ _ _ _ (mine _ _ _ _ _ _ _ c.all_zero-in-10.ensures _ c.in_ok-addressed-in-10.ensures c.step_hear.ensures))

pub returns-in_default : goal.returns-in_default
returns-in_default c = search (skip, no_op) depth 16
