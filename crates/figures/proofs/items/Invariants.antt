use Prim.Native.Nat.{◌*◌, ◌≤◌}
use mathlib.Core.Path.{◌≡◌}
use Rattle.base.specs.Sums.{sum}
use Rattle.rules.specs.Bag.{entry_at}
use Rattle.view.specs.View.{state_on}
use Rattle.figures.specs.Entries.{entry_items}
use Rattle.figures.proofs.items.Given as goal

abbrev pub invariant-loop-e : goal.invariant-loop-e
invariant-loop-e l =
    (l.count ≤ 64 * l.e) × (l.count ≡ sum l.e (λ i. entry_items l.h.items (entry_at (state_on l.s).bag i)))
