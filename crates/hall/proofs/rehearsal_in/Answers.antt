-- The part from the first byte on is all that follows it.
use mathlib.Core.Path.{◌∙◌}
use Rattle.hall.proofs.Hanging.{rest_of}
use Rattle.hall.proofs.rehearsal_in.Goals as goal

pub returns : goal.returns
returns c = c.part_of.ensures ∙ rest_of _
