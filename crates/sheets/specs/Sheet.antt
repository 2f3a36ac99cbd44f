-- The sheet of document 02's P2, which a member can open without the table: the period, the item count, pairs of offset
-- and length as in the ballot table, and the items' texts.
use Rattle.std.specs.Prelude.{ℕ, Bool, ◌&&◌, List, leb, ltb, length}
use Rattle.std.specs.Borrow.{Bor}
use Rattle.base.specs.Bytes.{byte_at}
use Rattle.base.specs.Tab.{tab}
use Rattle.pairs.specs.declared.Pairs.{Pairs}
use Rattle.pairs.specs.Pairs.{text_of, pairs_ok}
use Rattle.twins.specs.Twins.{twinless}
use Rattle.ballot.specs.declared.item.Audits.TheVariants.{Either}
use Rattle.ballot.specs.Item.{all_items}

-- periods are below it, as in every table
abbrev pub periods_most : ℕ
periods_most = 8

-- no sheet has more items, as no table has
abbrev pub items_most : ℕ
items_most = 64

-- no sheet has more bytes: 2, and for each of 64 items a pair of 4 and a text of at most 37
abbrev pub sheet_most : ℕ
sheet_most = 2626

-- the period, one byte
abbrev pub period_on : List ℕ → ℕ
period_on s = byte_at s 0

-- the item count, one byte
abbrev pub count_on : List ℕ → ℕ
count_on s = byte_at s 1

-- where the pairs start: after period and count
abbrev pub pairs_at : ℕ
pairs_at = 2

-- the pairs of a sheet: after its count, and as many as it says
abbrev pub pairs_over : Bor (List ℕ) → Pairs
pairs_over sheet = record { bytes = sheet; at = pairs_at; count = count_on sheet.now }

-- the text of item k: the part of the sheet that its pair marks out
abbrev pub text_on : List ℕ → ℕ → List ℕ
text_on s k = text_of s pairs_at k

-- the list of items: their texts, in order
abbrev pub texts_on : List ℕ → List (List ℕ)
texts_on s = tab (count_on s) (text_on s)

-- the bytes are a sheet, whole: period and count are there and in range, the pairs are as in the ballot table and end
-- where the sheet does, each text is an item, an audit with its place or without, and no two are twins
unfoldable pub sheet_ok : List ℕ → Bool
sheet_ok s =
    leb pairs_at (length s)
    && (ltb (period_on s) periods_most
    && (leb (count_on s) items_most
    && (pairs_ok s pairs_at (count_on s)
    && (all_items Either s pairs_at (count_on s)
    && twinless s pairs_at (count_on s)))))
