-- Every thing so far is new, and its mark is seen: the same thing has the same mark, so one whose mark was not seen is new.
use mathlib.Core.Bool.{not, true}
use mathlib.Core.Path.{◌≡◌, sym, ap, ◌∙◌}
use Rattle.base.proofs.Below.{every-none, every_more, every_fails}
use Rattle.marks.specs.New.{new_at}
use Rattle.marks.proofs.New.{seen_none, seen_more, unseen_new}
use Rattle.marks.proofs.all_new.Goals.{else-has-via-then-has+else-is_before, else-has-via-else-has}
use Rattle.marks.proofs.all_new.Goals as goal

pub loop-e-init : goal.loop-e-init
loop-e-init g c = (seen_none, every-none _)

pub returns-then-is_before : goal.returns-then-is_before
returns-then-is_before g c =
    sym (every_fails _ c.loop-e.e _ c.loop-e-test.true (ap not (sym c.is_before.ensures ∙ c.if-is_before.true)))

pub loop-e-preserved : goal.loop-e-preserved
loop-e-preserved g c =
    let m = g.M.Marked in
    let e = c.loop-e.e in
    let all = c.loop-e.invariant.0 in
    let mark = c.mark-mark.ensures in
    let new : new_at (m.is_same c.args.of.now) e ≡ true = elim c.else-has.branch [
      | else-has-via-then-has+else-is_before w ↦ ap not (sym w.is_before.ensures ∙ w.if-is_before.false)
      | else-has-via-else-has w ↦ ap not (unseen_new _ (g.met.M.Marked.same_mark c.args.of.now) _ e _ mark.0 all (sym c.has.ensures ∙ w.if-has.false))
    ] in
    (rw c.put.ensures (seen_more _ e _ mark.0 mark.1 all), every_more _ e c.loop-e.invariant.1 new)
