use Rattle.std.proofs.Common.{rules}
use Rattle.field_rules.specs.MessageBytes.{choose}
use Rattle.field_form.proofs.Named.{turned, mine}
use Rattle.field_form.proofs.Readings.{skip, no_op}
use Rattle.field_form.proofs.read.fetch_op.Goals as goal

pub returns-in_err-addressed-in-8 : goal.returns-in_err-addressed-in-8
unfolding choose
returns-in_err-addressed-in-8 c = rw c.in-8.is (turned _ _ _ _ _ _ _ c.all_zero.ensures c.from_residual.result c.from_residual.ensures.0 c.requires (search rules))

pub returns-in_ok-addressed-in-8 : goal.returns-in_ok-addressed-in-8
unfolding choose
returns-in_ok-addressed-in-8 c = rw c.in-8.is (mine _ _ _ _ _ _ _ c.all_zero.ensures _ c.in_ok-addressed-in-8.ensures c.step_fetch.ensures)

pub returns-in_default : goal.returns-in_default
returns-in_default c = search (skip, no_op) depth 16
