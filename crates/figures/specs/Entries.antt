-- The items that an entry of the bag publishes.
use Rattle.std.specs.Prelude.{ℕ}
use Rattle.base.specs.Bits.{bit}
use Rattle.base.specs.Sums.{how_many}
use Rattle.rules.specs.declared.Entry.{Entry}
use Rattle.rules.specs.declared.Entry.TheVariants.{Hash, Backing, Board}

-- as a set: those of a board; a hash and a backing name a board, and publish none
unfoldable pub published_by : Entry → ℕ
published_by (Hash k p B) = 0
published_by (Backing k p B) = 0
published_by (Board p B) = B

-- how many of them are below m
abbrev pub entry_items : ℕ → Entry → ℕ
entry_items m x = how_many m (bit (published_by x))
