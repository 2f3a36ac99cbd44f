-- The engine of the first season: how document 01's table is judged, and which of its items clash, where no table has
-- a season. These are the definitions as they were before there were seasons, each under its own name, `abbrev` for
-- `unfoldable`. Nothing that runs uses them.
use Rattle.std.specs.Prelude.{Option, Some, None, ℕ, ◌+◌, ◌-◌, ◌*◌, Bool, false, not, ◌&&◌, ◌||◌, cond, List, [], ◌∷◌, leb, ltb, eqb, length}
use Rattle.base.specs.Bytes.{byte_at, same_bytes, between}
use Rattle.base.specs.Below.{every}
use Rattle.base.specs.Refusals.{Refusals, header, pairs, item, twin, numbered, first}
use Rattle.header.specs.declared.Head.{Head}
use Rattle.header.specs.Header.{least_threshold, none_above}
use Rattle.pairs.specs.Pairs.{text_of, pairs_ok}
use Rattle.twins.specs.Twins.{twinless}
use Rattle.ballot.specs.declared.item.Kind.{Kind}
use Rattle.ballot.specs.declared.item.Kind.TheVariants.{Vote, Audit, Cancellation}
use Rattle.ballot.specs.declared.item.Item.{Item}
use Rattle.ballot.specs.Item.{kind_number, reading_number, ballot_of, kind_byte, body_at, good_if}
use Rattle.clash.specs.Clash.{is_vote, is_cancellation}

-- the header

abbrev pub header_size : List ℕ → ℕ
header_size s = 6

abbrev pub field_of : List ℕ → ℕ → ℕ
field_of s i = byte_at s i

abbrev pub peers_of : List ℕ → ℕ
peers_of s = field_of s 0

abbrev pub threshold_of : List ℕ → ℕ
threshold_of s = field_of s 1

abbrev pub honest_of : List ℕ → ℕ
honest_of s = field_of s 2 * 256 + field_of s 3

abbrev pub periods_of : List ℕ → ℕ
periods_of s = field_of s 4

abbrev pub items_of : List ℕ → ℕ
items_of s = field_of s 5

-- of the three sets that the struct has now there was the honest one: nobody is even or heavy, and so each weighs 1
abbrev pub head_of : List ℕ → Head
head_of s = record {
  n = peers_of s;
  t = threshold_of s;
  sets = honest_of s;
  periods = periods_of s;
  items = items_of s;
}

abbrev pub threshold_ok : ℕ → ℕ → Bool
threshold_ok n t = between 1 n 16 && between (least_threshold n) t n

abbrev pub fields_ok : ℕ → ℕ → ℕ → ℕ → ℕ → Bool
fields_ok n t honest periods items = threshold_ok n t && (none_above n honest && (between 1 periods 8 && leb items 64))

abbrev pub header_ok : List ℕ → Bool
header_ok s =
    leb (header_size s) (length s)
    && fields_ok (peers_of s) (threshold_of s) (honest_of s) (periods_of s) (items_of s)

-- the items

abbrev pub read_kind : ℕ → ℕ → ℕ → Option Item
read_kind b k rest =
    cond (eqb k (kind_number (Vote rest))) (good_if (between 1 rest 32) b (Vote rest))
    (cond (eqb k (kind_number Audit)) (good_if (eqb rest 0) b Audit)
    (cond (eqb k (kind_number Cancellation)) (good_if (eqb rest 0) b Cancellation) None))

abbrev pub read_item : List ℕ → Option Item
read_item text = cond (ltb (length text) body_at) None (read_kind (ballot_of text) (kind_byte text) (length text - body_at))

abbrev pub is_item : List ℕ → Bool
is_item text = eqb (reading_number (read_item text)) 0

abbrev pub item_at : List ℕ → ℕ → ℕ → Bool
item_at s at k = is_item (text_of s at k)

abbrev pub all_items : List ℕ → ℕ → ℕ → Bool
all_items s at m = every m (item_at s at)

-- the whole table

abbrev pub table_pairs_ok : List ℕ → Bool
table_pairs_ok s = pairs_ok s (header_size s) (items_of s)

abbrev pub item_below : List ℕ → ℕ → ℕ → List ℕ
item_below s items k = cond (ltb k items) (text_of s (header_size s) k) []

abbrev pub item_text : List ℕ → ℕ → List ℕ
item_text s k = item_below s (items_of s) k

abbrev pub items_ok : List ℕ → Bool
items_ok s = all_items s (header_size s) (items_of s)

abbrev pub no_twins : List ℕ → Bool
no_twins s = twinless s (header_size s) (items_of s)

abbrev pub table_refusals : List ℕ → Refusals
table_refusals s =
    (header, not (header_ok s))
    ∷ (pairs, not (table_pairs_ok s))
    ∷ (item, not (items_ok s))
    ∷ (twin, not (no_twins s))
    ∷ []

abbrev pub refusal : List ℕ → ℕ
refusal s = first (numbered (table_refusals s))

-- clashes

abbrev pub kinds_clash : Kind → Kind → Bool
kinds_clash a b = not (is_cancellation a) && not (is_cancellation b) && (is_vote a || is_vote b)

abbrev pub items_clash : Item → Item → Bool
items_clash a b = eqb a.ballot b.ballot && kinds_clash a.kind b.kind

abbrev pub readings_clash : Option Item → Option Item → Bool
readings_clash None y = false
readings_clash (Some a) None = false
readings_clash (Some a) (Some b) = items_clash a b

abbrev pub clash : List ℕ → List ℕ → Bool
clash a b = not (same_bytes a b) && readings_clash (read_item a) (read_item b)

abbrev pub clash_in : List ℕ → ℕ → ℕ → Bool
clash_in s i j = clash (item_text s i) (item_text s j)
