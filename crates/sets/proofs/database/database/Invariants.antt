use mathlib.Core.List.{[]}
use Rattle.state.specs.Layout.{periods}
use Rattle.base.specs.Tab.{FilledTo}
use Rattle.state.specs.Contents.{contents}
use Rattle.sets.specs.Database.{row_of}
use Rattle.sets.proofs.database.database.Given as goal

abbrev pub invariant-loop-p : goal.invariant-loop-p
invariant-loop-p l = FilledTo [] periods (row_of (contents l.s) l.j) l.p l.d
