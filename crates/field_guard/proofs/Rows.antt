-- Items held that meet a row, as the rules look for a clash.
use Prim.Native.Nat.{ℕ}
use mathlib.Core.Bool.{Bool}
use mathlib.Core.List.{List}
use mathlib.Core.Path.{◌≡◌}
use Rattle.base.specs.Below.{any}
use Rattle.rules.specs.Table.{clashing}
use Rattle.header.specs.declared.Head.{Head}
use Rattle.view.specs.View.{no_clash, in_row, table_of}
use Rattle.guard.proofs.Rows.{rows_clash}
use Rattle.field_state.specs.Layout.{held_at}
use Rattle.field_state.specs.Holding.{cell_bit, items_in}
use Rattle.field_state.specs.Ready.{Ready}
use Rattle.field_guard.specs.Common.{holds_of}

pub clash_common : (h : Head) (s : List ℕ) → Ready h s → (row x : ℕ) {r : Bool} → r ≡ any h.periods (holds_of s row)
    → r ≡ clashing (table_of h (in_row row)) (cell_bit s held_at) x
unfolding holds_of items_in
clash_common h s R row x e =
    rows_clash h R.room.items (cell_bit s held_at) (λ q y t. ((R.good no_clash).holds q y t).1) row x e
