-- The part that was found, or none.
use mathlib.Core.Path.{sym, ◌∙◌}
use Rattle.sheets.proofs.Finding.{handed_part, handed_none}
use Rattle.sheets.proofs.hand_out.Goals as goal

pub returns-in-Ok : goal.returns-in-Ok
returns-in-Ok c = c.part_of.ensures ∙ handed_part _ _ _ (sym c.find_item.ensures ∙ c.in-Ok.is)

pub returns-in-Err : goal.returns-in-Err
returns-in-Err c = handed_none _ _ _ (sym c.find_item.ensures ∙ c.in-Err.is)
