use mathlib.Core.Path.{◌≡◌}
use lib.ListN.{length}
use Rattle.state.specs.Contents.{contents, Holds, adding}
use Rattle.state.specs.Sets.{known_to}
use Rattle.sets.specs.Database.{on_row}
use Rattle.sets.proofs.database.add_row.Given as goal

abbrev pub invariant-loop-i : goal.invariant-loop-i
invariant-loop-i l = (length l.s ≡ length l.initial.s) × Holds l.s (adding (known_to l.j l.p (on_row l.sets l.i)) (contents l.initial.s))
