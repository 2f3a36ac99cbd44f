-- The steps lead to the last state, which is ready; then the sheet, or a refusal.
use Rattle.hall.proofs.Hanging.{judged_then, shown_then}
use Rattle.hall.proofs.run.Goals as goal

pub put_shown-requires : goal.put_shown-requires
put_shown-requires c =
    judged_then _ c.requires.0 c.requires.1 c.play.ensures.0 c.head_of.ensures

pub returns : goal.returns
returns c =
    shown_then _ _ c.requires.1 c.play.ensures.0 c.put_shown.ensures
