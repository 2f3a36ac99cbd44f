use Rattle.state.specs.Layout.{items}
use Rattle.base.specs.Tab.{FilledTo}
use Rattle.state.specs.Contents.{contents}
use Rattle.state.specs.Sets.{signers_of}
use Rattle.sets.proofs.database.row.Given as goal

abbrev pub invariant-loop-i : goal.invariant-loop-i
invariant-loop-i l = FilledTo (record { 0 = 0 }) items (signers_of (contents l.s) l.j l.p) l.i l.r
