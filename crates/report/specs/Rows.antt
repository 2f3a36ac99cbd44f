-- What is shown of a peer's database that is held by value: of a set, and of the row of a period.
use Rattle.std.specs.Prelude.{ℕ, cond, List, [], ltb, get_or, replicate}
use Rattle.header.specs.declared.Signers.{Signers}
use Rattle.header.specs.Quorum.{count_in}
use Rattle.state.specs.Layout.{periods, items}
use Rattle.header.specs.declared.Head.{Head}
use Rattle.text.specs.Wrote.{each}
use Rattle.report.specs.Lines.{db_line}

-- how many signers item x has in peer j's database of period p; an empty set is left out
unfoldable pub set_line : ℕ → ℕ → ℕ → Signers → List ℕ
set_line j p x set = cond (ltb 0 (count_in set.0)) (db_line j p x (count_in set.0)) []

-- the line of place x of a row
unfoldable pub row_item : List Signers → ℕ → ℕ → ℕ → List ℕ
row_item sets j p x = set_line j p x (get_or sets x (record { 0 = 0 }))

-- the lines of a row, of as many places as there are items
unfoldable pub row_lines : Head → List Signers → ℕ → ℕ → List ℕ
row_lines h sets j p = each (row_item sets j p) h.items

-- the row of period p; the sets of a period for which there is no room are empty
unfoldable pub row_in : List (List Signers) → ℕ → List Signers
row_in d p = cond (ltb p periods) (get_or d p []) (replicate items (record { 0 = 0 }))
