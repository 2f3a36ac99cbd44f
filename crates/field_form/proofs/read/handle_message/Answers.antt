use Rattle.std.proofs.Common.{rules}
use Rattle.field_form.proofs.Readings.{thirteen, fetch_long, other_message}
use Rattle.field_form.proofs.read.handle_message.Goals as goal

pub returns-in-13 : goal.returns-in-13
returns-in-13 c = thirteen _ _ c.fields_of.ensures _ _ _ _ (search rules) c.message_op.ensures

pub returns-in-141 : goal.returns-in-141
returns-in-141 c = fetch_long _ _ c.fields_of-in-141.ensures _ _ _ _ _ (search rules) c.fetch_op.ensures

pub returns-in_default : goal.returns-in_default
returns-in_default c = search other_message
