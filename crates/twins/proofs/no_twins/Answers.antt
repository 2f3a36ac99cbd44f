-- Each text is new exactly if no two are twins.
use mathlib.Core.Path.{◌∙◌}
use Rattle.twins.proofs.Apart.{each-new}
use Rattle.twins.proofs.no_twins.Goals as goal

pub returns : goal.returns
returns c = c.all_new.ensures ∙ each-new _ _ _
