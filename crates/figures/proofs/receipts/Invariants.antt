use Prim.Native.Nat.{◌*◌, ◌≤◌}
use mathlib.Core.Path.{◌≡◌}
use Rattle.view.specs.View.{state_on}
use Rattle.figures.specs.Totals.{receipt_count}
use Rattle.figures.proofs.receipts.Given as goal

abbrev pub invariant-loop-p : goal.invariant-loop-p
invariant-loop-p l =
    (l.count ≤ 64 * l.p) × (l.count ≡ receipt_count l.p l.h.items (state_on l.s).receipted)
