-- The engine of the second season: how it judged a table of either season, read it, and which of its items clashed,
-- before there were weights. As in FirstSeason.antt, each definition is as it was; nothing that runs uses them.
use Rattle.std.specs.Prelude.{ℕ, ◌+◌, ◌*◌, Bool, not, ◌&&◌, cond, List, [], ◌∷◌, leb, ltb, eqb, length}
use Rattle.base.specs.Bytes.{byte_at}
use Rattle.base.specs.Refusals.{Refusals, header, pairs, item, twin, numbered, first}
use Rattle.header.specs.declared.Head.{Head}
use Rattle.header.specs.declared.season.Season.{Season}
use Rattle.header.specs.declared.season.Season.TheVariants.{First, Second}
use Rattle.header.specs.Season.{fields_at}
use Rattle.pairs.specs.Pairs.{text_of, pairs_ok}
use Rattle.twins.specs.Twins.{twinless}
use Rattle.ballot.specs.declared.item.Audits.{Audits}
use Rattle.ballot.specs.Item.{all_items}
use Rattle.ballot.specs.Table.{audits_in}
use Rattle.clash.specs.Clash.{clash}
use Rattle.edges.specs.FirstSeason.{fields_ok}

-- the season and the header

abbrev pub zero_two : List ℕ → Bool
zero_two s = eqb (byte_at s 0) 0 && eqb (byte_at s 1) 2

abbrev pub season_of : List ℕ → Season
season_of s = cond (zero_two s) Second First

abbrev pub header_size : List ℕ → ℕ
header_size s = fields_at (season_of s) + 6

abbrev pub field_of : List ℕ → ℕ → ℕ
field_of s i = byte_at s (fields_at (season_of s) + i)

abbrev pub peers_of : List ℕ → ℕ
peers_of s = field_of s 0

abbrev pub threshold_of : List ℕ → ℕ
threshold_of s = field_of s 1

abbrev pub honest_of : List ℕ → ℕ
honest_of s = field_of s 2 * 256 + field_of s 3

abbrev pub periods_of : List ℕ → ℕ
periods_of s = field_of s 4

abbrev pub items_of : List ℕ → ℕ
items_of s = field_of s 5

abbrev pub head_of : List ℕ → Head
head_of s = record {
  n = peers_of s;
  t = threshold_of s;
  sets = honest_of s;
  periods = periods_of s;
  items = items_of s;
}

abbrev pub header_ok : List ℕ → Bool
header_ok s =
    leb (header_size s) (length s)
    && fields_ok (peers_of s) (threshold_of s) (honest_of s) (periods_of s) (items_of s)

-- the whole table

abbrev pub audits_of : List ℕ → Audits
audits_of s = audits_in (season_of s)

abbrev pub table_pairs_ok : List ℕ → Bool
table_pairs_ok s = pairs_ok s (header_size s) (items_of s)

abbrev pub item_text : List ℕ → ℕ → List ℕ
item_text s k = cond (ltb k (items_of s)) (text_of s (header_size s) k) []

abbrev pub items_ok : List ℕ → Bool
items_ok s = all_items (audits_of s) s (header_size s) (items_of s)

abbrev pub no_twins : List ℕ → Bool
no_twins s = twinless s (header_size s) (items_of s)

abbrev pub table_refusals : List ℕ → Refusals
table_refusals s =
    (header, not (header_ok s))
    ∷ (pairs, not (table_pairs_ok s))
    ∷ (item, not (items_ok s))
    ∷ (twin, not (no_twins s))
    ∷ []

abbrev pub refusal : List ℕ → ℕ
refusal s = first (numbered (table_refusals s))

abbrev pub clash_in : List ℕ → ℕ → ℕ → Bool
clash_in s i j = clash (audits_of s) (item_text s i) (item_text s j)
