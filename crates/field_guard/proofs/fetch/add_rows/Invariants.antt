use mathlib.Core.Path.{◌≡◌}
use lib.ListN.{length}
use Rattle.field_state.specs.Holding.{box_of, Holds}
use Rattle.field_guard.specs.Fetching.{rows_to}
use Rattle.field_guard.proofs.fetch.add_rows.Given as goal

abbrev pub invariant-loop-x : goal.invariant-loop-x
invariant-loop-x l = (length l.s ≡ length l.initial.s) × Holds l.s (rows_to l.p l.x l.message (box_of l.initial.s))
