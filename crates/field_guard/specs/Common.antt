-- Sets of items held that have one in common with a row.
use Rattle.std.specs.Prelude.{ℕ, Bool, List}
use Rattle.guard.specs.Common.{in_common}
use Rattle.field_state.specs.Layout.{held_at}
use Rattle.field_state.specs.Holding.{items_in}

-- an item of the row is held in period q
unfoldable pub holds_of : List ℕ → ℕ → ℕ → Bool
holds_of s row q = in_common (items_in s held_at q) row
