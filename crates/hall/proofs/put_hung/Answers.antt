-- A refusal of the input, or what is shown after its steps.
use borrow.Author.Rules.{rules}
use Rattle.base.proofs.Refusals.{refused_ne0}
use Rattle.hall.proofs.Hanging.{taken_of, refused, hangs}
use Rattle.hall.proofs.put_hung.Goals as goal

pub run-requires : goal.run-requires
run-requires c = (taken_of _ c.in-Ok.ensures c.rehearsal_in-rehearsal.ensures, search rules, search rules)

pub returns-in-Ok : goal.returns-in-Ok
returns-in-Ok c = hangs _ c.in-Ok.ensures c.rehearsal_in-rehearsal.ensures c.byte_at.ensures c.run.ensures

pub returns-in-Err : goal.returns-in-Err
returns-in-Err c = refused _ c.in-Err.ensures (refused_ne0 _) c.put_refused.ensures
