-- The bytes passed are written: each in its place, or past the end.
use mathlib.Core.Path.{refl}
use Rattle.text.proofs.Writing.{none, byte_in_lem, byte_out, at_most, word_more, word_all}
use Rattle.text.proofs.Printer.word.Goals as goal
use Rattle.text.proofs.Printer.word.Goals.{then-at-out, else-at-out}

pub loop-b-init : goal.loop-b-init
loop-b-init c = none

pub loop-b-preserved : goal.loop-b-preserved
loop-b-preserved c =
    word_more _ _ c.loop-b-test.true c.loop-b.invariant (
    elim c.if-at-out.branch [
      | then-at-out w ↦ rw (w.out-is, w.at-is) (byte_in_lem _ _ _)
      | else-at-out w ↦ rw (w.out-is, w.at-is) (at_most w.saturating_add-at.ensures (byte_out _ _ _ _ w.if-at-out.false refl))
    ]
    )

pub returns : goal.returns
returns c = record { same = refl; wrote = word_all _ _ c.loop-b-test.false c.loop-b.invariant }
