-- A refusal, or the report.
use mathlib.Core.Path.{refl, sym, ap, ◌∙◌}
use Rattle.base.specs.Refusals.{answer_of}
use Rattle.rehearsal.proofs.Taking.{taken, both_passed}
use Rattle.rehearsal.proofs.Playing.{refused, reports}
use Rattle.rehearsal.proofs.put_reported.Goals as goal

pub play-requires : goal.play-requires
play-requires c =
    let passed = both_passed _ _ (sym c.check_lent.ensures ∙ ap answer_of c.in-Ok.is) in
    (taken _ passed.0, c.table_in.ensures, passed.1)

pub returns-in-Ok : goal.returns-in-Ok
returns-in-Ok c = reports _ _ _ c.check_lent.ensures _ c.in-Ok.is c.play.ensures

pub returns-in-Err : goal.returns-in-Err
returns-in-Err c = refused _ _ _ c.check_lent.ensures _ c.in-Err.is c.put_refused.ensures refl
