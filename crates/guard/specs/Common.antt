-- Sets of items, as numbers, and whether they have an item in common.
use Rattle.std.specs.Prelude.{ℕ, Bool, ◌&&◌}
use Rattle.base.specs.Below.{any}
use Rattle.base.specs.Bits.{bit}
use Rattle.state.specs.Contents.{Contents}
use Rattle.state.specs.Sets.{held_of}

unfoldable pub in_common : ℕ → ℕ → Bool
in_common a b = any 64 (λ y. bit a y && bit b y)

-- peer j holds, in period q, an item of the row
unfoldable pub holds_of : Contents → ℕ → ℕ → ℕ → Bool
holds_of c row j q = in_common (held_of c j q) row
