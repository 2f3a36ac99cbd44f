-- One peer's database: its signer sets by period and item, and the board of a period.
use Rattle.std.specs.Prelude.{ℕ, Bool, ◌&&◌, List, ltb, get_or}
use Rattle.base.specs.Bits.{pack}
use Rattle.header.specs.declared.Head.{Head}
use Rattle.header.specs.declared.Signers.{Signers}
use Rattle.header.specs.Quorum.{reaches}
use Rattle.state.specs.Layout.{periods, items}
use Rattle.base.specs.Tab.{tab}
use Rattle.state.specs.Contents.{Contents}
use Rattle.state.specs.Sets.{signers_of, in_set}

-- the signer sets of one period, by item
unfoldable pub row_of : Contents → ℕ → ℕ → List Signers
row_of c j p = tab items (signers_of c j p)

-- the signer sets by period and item
unfoldable pub database_of : Contents → ℕ → List (List Signers)
database_of c j = tab periods (row_of c j)

-- the sets of a row as signers on its first n items
unfoldable pub on_row : List Signers → ℕ → ℕ → ℕ → Bool
on_row sets n y k = ltb y n && in_set (get_or sets y (record { 0 = 0 })).0 k

-- the signers of item i in peer j's database of period p reach t
unfoldable pub on_board : Head → Contents → ℕ → ℕ → ℕ → Bool
on_board h c j p i = reaches h (signers_of c j p i).0

-- peer j's board of period p, as a number
unfoldable pub peer_board : Head → Contents → ℕ → ℕ → ℕ
peer_board h c j p = pack h.items (on_board h c j p)
