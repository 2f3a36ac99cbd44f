-- Clash is document 01's word for two different items of one ballot, neither a cancellation, at least one a vote. By
-- document 02's P5 two audits of one ballot from different places clash too.
use Rattle.std.specs.Prelude.{Option, Some, None, ℕ, ◌<◌, min, Bool, true, false, not, ◌&&◌, ◌||◌, List, ◌≡◌, eqb, length, get_or}
use Rattle.base.specs.Bytes.{same_bytes}
use Rattle.base.specs.Bits.{pack}
use Rattle.base.specs.Tab.{tab}
use Rattle.ballot.specs.declared.item.Kind.{Kind}
use Rattle.ballot.specs.declared.item.Kind.TheVariants.{Vote, Audit, PlacedAudit, Cancellation}
use Rattle.ballot.specs.declared.item.Audits.{Audits}
use Rattle.ballot.specs.declared.item.Item.{Item}
use Rattle.header.specs.Header.{items_of}
use Rattle.ballot.specs.Item.{ballot_of, read_item}
use Rattle.ballot.specs.Table.{audits_of, item_text}

-- the kind is a vote
abbrev pub is_vote : Kind → Bool
is_vote (Vote n) = true
is_vote Audit = false
is_vote (PlacedAudit place) = false
is_vote Cancellation = false

-- the kind is a cancellation
abbrev pub is_cancellation : Kind → Bool
is_cancellation (Vote n) = false
is_cancellation Audit = false
is_cancellation (PlacedAudit place) = false
is_cancellation Cancellation = true

-- the kind is an audit from another place than this
abbrev pub other_place : ℕ → Kind → Bool
other_place place (Vote n) = false
other_place place Audit = false
other_place place (PlacedAudit other) = not (eqb place other)
other_place place Cancellation = false

-- both are audits, from different places
abbrev pub places_differ : Kind → Kind → Bool
places_differ (Vote n) b = false
places_differ Audit b = false
places_differ (PlacedAudit place) b = other_place place b
places_differ Cancellation b = false

-- neither is a cancellation, and at least one is a vote or they are audits from different places
abbrev pub kinds_clash : Kind → Kind → Bool
kinds_clash a b = not (is_cancellation a) && (not (is_cancellation b) && (is_vote a || (is_vote b || places_differ a b)))

-- they are of one ballot, with kinds that clash
abbrev pub items_clash : Item → Item → Bool
items_clash a b = eqb a.ballot b.ballot && kinds_clash a.kind b.kind

-- both are items, and these clash
abbrev pub readings_clash : Option Item → Option Item → Bool
readings_clash None y = false
readings_clash (Some a) None = false
readings_clash (Some a) (Some b) = items_clash a b

-- the items with these texts clash: the texts differ, and what they say clashes
unfoldable pub clash : Audits → List ℕ → List ℕ → Bool
clash audits a b = not (same_bytes a b) && readings_clash (read_item audits a) (read_item audits b)

-- items i and j of the table clash, by the rule of its season
unfoldable pub clash_in : List ℕ → ℕ → ℕ → Bool
clash_in s i j = clash (audits_of s) (item_text s i) (item_text s j)

-- the number of items that a mask of 64 bits has a bit for: all of them, in a table that is not refused
abbrev pub mask_width : List ℕ → ℕ
mask_width s = min (items_of s) 64

-- the items that clash with item i, as a number: bit j is item j
unfoldable pub clash_mask : List ℕ → ℕ → ℕ
clash_mask s i = pack (mask_width s) (clash_in s i)

-- the ballot number of item k; 0 where the table has no such item
unfoldable pub ballot_at : List ℕ → ℕ → ℕ
ballot_at s k = ballot_of (item_text s k)

-- the ballot numbers of items 0 to 63
unfoldable pub ballots_of : List ℕ → List ℕ
ballots_of s = tab 64 (ballot_at s)

-- the rows of clashes of items 0 to 63: row k is the mask of item k
unfoldable pub clash_rows : List ℕ → List ℕ
clash_rows s = tab 64 (clash_mask s)

-- rows that are the table's, as many as there are: all 64 of them, or none where they were not made
pub record RowsOf (table rows : List ℕ) : Type 0 where
  pub row : (k : ℕ) → k < length rows → get_or rows k 0 ≡ clash_mask table k
