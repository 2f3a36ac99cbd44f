-- The whole ballot table: its pairs, its items, and the first refusal that applies.
use Rattle.std.specs.Prelude.{ℕ, Bool, not, cond, List, [], ◌∷◌, ltb}
use Rattle.base.specs.Refusals.{Refusals, header, pairs, item, twin, numbered, first}
use Rattle.header.specs.declared.season.Season.{Season}
use Rattle.header.specs.declared.season.Season.TheVariants.{First, Second, Third}
use Rattle.header.specs.Season.{season_of}
use Rattle.header.specs.Header.{header_size, items_of, header_ok}
use Rattle.pairs.specs.Pairs.{text_of, pairs_ok}
use Rattle.twins.specs.Twins.{twinless}
use Rattle.ballot.specs.declared.item.Audits.{Audits}
use Rattle.ballot.specs.declared.item.Audits.TheVariants.{Bare, Placed}
use Rattle.ballot.specs.Item.{all_items}

-- the table's own pairs are right
unfoldable pub table_pairs_ok : List ℕ → Bool
table_pairs_ok s = pairs_ok s (header_size s) (items_of s)

-- the text of item k of the first `items`: the part of the table that its pair marks out; none past them
unfoldable pub item_below : List ℕ → ℕ → ℕ → List ℕ
item_below s items k = cond (ltb k items) (text_of s (header_size s) k) []

-- the text of item k of the table
abbrev pub item_text : List ℕ → ℕ → List ℕ
item_text s k = item_below s (items_of s) k

-- the audits of a season's tables: from the second season on they name their place
abbrev pub audits_in : Season → Audits
audits_in First = Bare
audits_in Second = Placed
audits_in Third = Placed

-- the audits of a table
abbrev pub audits_of : List ℕ → Audits
audits_of s = audits_in (season_of s)

-- every item's text reads as an item of the table's season
unfoldable pub items_ok : List ℕ → Bool
items_ok s = all_items (audits_of s) s (header_size s) (items_of s)

-- no two items are twins, document 01's word for two items whose bytes are the same
unfoldable pub no_twins : List ℕ → Bool
no_twins s = twinless s (header_size s) (items_of s)

-- the table's refusals, in the order in which they are judged
abbrev pub table_refusals : List ℕ → Refusals
table_refusals s =
    (header, not (header_ok s))
    ∷ (pairs, not (table_pairs_ok s))
    ∷ (item, not (items_ok s))
    ∷ (twin, not (no_twins s))
    ∷ []

-- the first of them that applies, and 0 where none does
unfoldable pub refusal : List ℕ → ℕ
refusal s = first (numbered (table_refusals s))
