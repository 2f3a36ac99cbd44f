-- Items: a ballot and a kind, read from an item's text; and whether each of several texts reads as one.
-- Document 01 names the kinds Vote(length), Audit and Cancellation; an audit with its place, from document 02's P5, is
-- PlacedAudit(place).
use Rattle.std.specs.Prelude.{Option, Some, None, ℕ, ◌+◌, ◌-◌, Bool, true, false, cond, List, ◌≡◌, ltb, eqb, length}
use Rattle.base.specs.Bytes.{byte_at, number_at, between}
use Rattle.base.specs.Below.{every}
use Rattle.base.specs.Refusals.{item, number_of}
use Rattle.pairs.specs.Pairs.{text_of}
use Rattle.ballot.specs.declared.item.Kind.{Kind}
use Rattle.ballot.specs.declared.item.Kind.TheVariants.{Vote, Audit, PlacedAudit, Cancellation}
use Rattle.ballot.specs.declared.item.Audits.{Audits}
use Rattle.ballot.specs.declared.item.Audits.TheVariants.{Bare, Placed, Either}
use Rattle.ballot.specs.declared.item.Item.{Item}

-- the kind byte of each kind
abbrev pub kind_number : Kind → ℕ
kind_number (Vote n) = 1
kind_number Audit = 2
kind_number (PlacedAudit place) = 2
kind_number Cancellation = 3

-- the number on the report of what a text says: 0 of an item, 3 where it says none
abbrev pub reading_number : Option Item → ℕ
reading_number (Some i) = 0
reading_number None = number_of item

-- the ballot number: four bytes, high byte first
abbrev pub ballot_of : List ℕ → ℕ
ballot_of text = number_at text 0 4

-- the kind byte, after the ballot number
abbrev pub kind_byte : List ℕ → ℕ
kind_byte text = byte_at text 4

-- where the preferences of a vote or the place of an audit start, after the kind byte
abbrev pub body_at : ℕ
body_at = 5

-- the place, one byte
abbrev pub place_of : List ℕ → ℕ
place_of text = byte_at text body_at

-- the item of a ballot and a kind, if the test holds
abbrev pub good_if : Bool → ℕ → Kind → Option Item
good_if ok b kind = cond ok (Some (record { ballot = b; kind = kind })) None

-- the audit of a ballot, by the number of bytes after the kind byte: none without a place, one with it

abbrev pub bare_audit : ℕ → ℕ → Option Item
bare_audit b rest = good_if (eqb rest 0) b Audit

abbrev pub placed_audit : ℕ → ℕ → ℕ → Option Item
placed_audit b rest place = good_if (eqb rest 1) b (PlacedAudit place)

-- and by which of the two are items
abbrev pub read_audit : Audits → ℕ → ℕ → ℕ → Option Item
read_audit Bare b rest place = bare_audit b rest
read_audit Placed b rest place = placed_audit b rest place
read_audit Either b rest place = cond (eqb rest 0) (bare_audit b rest) (placed_audit b rest place)

-- the item of a ballot, a kind byte and the number of bytes after it: 1 to 32 preferences of a vote, none of a
-- cancellation
unfoldable pub read_kind : Audits → ℕ → ℕ → ℕ → ℕ → Option Item
read_kind audits b k rest place =
    cond (eqb k (kind_number (Vote rest))) (good_if (between 1 rest 32) b (Vote rest))
    (cond (eqb k (kind_number Audit)) (read_audit audits b rest place)
    (cond (eqb k (kind_number Cancellation)) (good_if (eqb rest 0) b Cancellation) None))

-- what an item's text says
unfoldable pub read_item : Audits → List ℕ → Option Item
read_item audits text =
    cond (ltb (length text) body_at) None
    (read_kind audits (ballot_of text) (kind_byte text) (length text - body_at) (place_of text))

-- the text reads as an item
unfoldable pub is_item : Audits → List ℕ → Bool
is_item audits text = eqb (reading_number (read_item audits text)) 0

-- of the texts that pairs from byte `at` on mark out: the ballot number of text k
abbrev pub ballot_in : List ℕ → ℕ → ℕ → ℕ
ballot_in s at k = ballot_of (text_of s at k)

-- of these texts: text k reads as an item
unfoldable pub item_at : Audits → List ℕ → ℕ → ℕ → Bool
item_at audits s at k = is_item audits (text_of s at k)

-- each of m of them reads as an item
unfoldable pub all_items : Audits → List ℕ → ℕ → ℕ → Bool
all_items audits s at m = every m (item_at audits s at)

-- the number of bytes after the kind byte
abbrev pub body_size : Kind → ℕ
body_size (Vote n) = n
body_size Audit = 0
body_size (PlacedAudit place) = 1
body_size Cancellation = 0

-- a vote has 1 to 32 preferences, and a placed audit the place that stands there
abbrev pub body_ok : List ℕ → Kind → Bool
body_ok text (Vote n) = between 1 n 32
body_ok text Audit = true
body_ok text (PlacedAudit place) = eqb (place_of text) place
body_ok text Cancellation = true

-- the text is the item's: it has its ballot number, its kind byte, as many bytes after it as the item must have, and of
-- these what the item is to have
pub record Says (text : List ℕ) (i : Item) : Type 0 where
  pub ballot : ballot_of text ≡ i.ballot
  pub kind : kind_byte text ≡ kind_number i.kind
  pub size : length text ≡ body_at + body_size i.kind
  pub body : body_ok text i.kind ≡ true

-- audits of this kind are items; votes and cancellations always are
abbrev pub takes : Audits → Kind → Bool
takes audits (Vote n) = true
takes audits Cancellation = true
takes Bare Audit = true
takes Placed Audit = false
takes Either Audit = true
takes Bare (PlacedAudit place) = false
takes Placed (PlacedAudit place) = true
takes Either (PlacedAudit place) = true

-- a text that reads as an item is this: the item's text, of an item that is taken
pub record ReadAs (audits : Audits) (text : List ℕ) (i : Item) : Type 0 where
  pub says : Says text i
  pub taken : takes audits i.kind ≡ true
