use Rattle.std.proofs.Common.{rules}
use Rattle.field_form.proofs.Readings.{step_thirteen, other_step}
use Rattle.field_form.proofs.read.handle_step.Goals as goal

pub returns-then-step-ne13 : goal.returns-then-step-ne13
returns-then-step-ne13 c = search other_step

pub returns : goal.returns
returns c = step_thirteen _ _ c.fields_of.ensures _ _ _ _ _ _ (search rules) c.step_op.ensures
