use mathlib.Core.Bool.{true}
use mathlib.Core.Path.{◌≡◌}
use Rattle.base.specs.Below.{every}
use Rattle.marks.specs.New.{new_at, Seen}
use Rattle.marks.proofs.all_new.Given as goal

abbrev pub invariant-loop-e : goal.invariant-loop-e
invariant-loop-e g l = let m = g.M.Marked in
    Seen (m.mark_of l.of) l.seen l.e × (every l.e (new_at (m.is_same l.of)) ≡ true)
