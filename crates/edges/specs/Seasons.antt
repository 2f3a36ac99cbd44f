-- What the seasons change and what they leave, of every table and every two items; and cases of the second.
use Rattle.std.specs.Prelude.{ℕ, ◌<◌, Bool, true, false, not, List, [], ◌∷◌, ◌++◌, ◌≡◌, eqb, length, replicate}
use Rattle.base.specs.Bytes.{byte_at}
use Rattle.header.specs.declared.Head.{Head}
use Rattle.header.specs.Season.{zero_then}
use Rattle.header.specs.Header.{header_size, items_of, head_of, honest_count, header_ok}
use Rattle.ballot.specs.declared.item.Kind.TheVariants.{Audit, PlacedAudit}
use Rattle.ballot.specs.declared.item.Audits.{Audits}
use Rattle.ballot.specs.declared.item.Audits.TheVariants.{Placed}
use Rattle.ballot.specs.declared.item.Item.{Item}
use Rattle.ballot.specs.Item.{ballot_of, kind_byte, kind_number, place_of}
use Rattle.ballot.specs.Table.{item_text, audits_of, refusal}
use Rattle.clash.specs.Clash.{items_clash, clash, clash_in, clash_mask}
use Rattle.edges.specs.Tables.{empty, single, item, vote, audit, cancellation}
use Rattle.edges.specs.FirstSeason as first
use Rattle.edges.specs.SecondSeason as two

-- what the rest of an engine sees of a table: its refusal, its header, its items' texts and their clashes
pub record Seen : Type 0 where
  pub refusal : List ℕ → ℕ
  pub header_ok : List ℕ → Bool
  pub head_of : List ℕ → Head
  pub header_size : List ℕ → ℕ
  pub item_text : List ℕ → ℕ → List ℕ
  pub clash_in : List ℕ → ℕ → ℕ → Bool

-- to the engine of the first season, to that of the second, and now

abbrev pub first_engine : Seen
first_engine = record {
  refusal = first.refusal;
  header_ok = first.header_ok;
  head_of = first.head_of;
  header_size = first.header_size;
  item_text = first.item_text;
  clash_in = first.clash_in;
}

abbrev pub second_engine : Seen
second_engine = record {
  refusal = two.refusal;
  header_ok = two.header_ok;
  head_of = two.head_of;
  header_size = two.header_size;
  item_text = two.item_text;
  clash_in = two.clash_in;
}

pub record AsBefore (old : Seen) (s : List ℕ) : Type 0 where
  pub judged : refusal s ≡ old.refusal s
  pub header_ok_lem : header_ok s ≡ old.header_ok s
  pub head : head_of s ≡ old.head_of s
  pub size : header_size s ≡ old.header_size s
  pub text : (k : ℕ) → item_text s k ≡ old.item_text s k
  pub clashing : (i j : ℕ) → clash_in s i j ≡ old.clash_in s i j

-- an engine refuses tables that are newer than it with 1, header; and every other table is now what it was to it, bytes
-- that are refused included
pub record Older (old : Seen) (Newer : List ℕ → Type 0) : Type 0 where
  pub refuses : (s : List ℕ) → Newer s → old.refusal s ≡ 1
  pub as_before : (s : List ℕ) → (Newer s → ⊥) → AsBefore old s

-- newer than the first season is what starts with 0, and newer than the second what starts with 0 and 3

abbrev pub StartsWith0 : List ℕ → Type 0
StartsWith0 s = byte_at s 0 ≡ 0

abbrev pub StartsWith03 : List ℕ → Type 0
StartsWith03 s = zero_then s 3 ≡ true

-- what starts with 0: after 0 and 2 stands the header of document 01, after 0 and 3 that and weights (Weights.antt),
-- and anything else is refused with 1
pub record StartsWithZero : Type 0 where
  pub then_two : (s : List ℕ) → header_ok (0 ∷ 2 ∷ s) ≡ first.header_ok s
  pub fields : (s : List ℕ) → head_of (0 ∷ 2 ∷ s) ≡ first.head_of s
  pub pairs_at_8 : (s : List ℕ) → header_size (0 ∷ 2 ∷ s) ≡ 8
  pub under_8_bytes : (s : List ℕ) → byte_at s 0 ≡ 0 → length s < 8 → refusal s ≡ 1
  pub otherwise : (s : List ℕ) → byte_at s 0 ≡ 0 → (byte_at s 1 ≡ 2 → ⊥) → (byte_at s 1 ≡ 3 → ⊥) → refusal s ≡ 1

-- two audits of one ballot that name their places clash exactly if the places differ: as items, as texts of bytes, and
-- in every table of the second season or the third
pub record PlacesClash : Type 0 where
  pub items : (a b : Item) (p q : ℕ) → a.ballot ≡ b.ballot → a.kind ≡ PlacedAudit p → b.kind ≡ PlacedAudit q
      → items_clash a b ≡ not (eqb p q)
  pub texts : (a b c d p q : ℕ)
      → clash Placed (a ∷ b ∷ c ∷ d ∷ 2 ∷ p ∷ []) (a ∷ b ∷ c ∷ d ∷ 2 ∷ q ∷ []) ≡ not (eqb p q)
  -- these are the tables that start with 0 and 2, and with 0 and 3
  pub after_0_2 : (s : List ℕ) → zero_then s 2 ≡ true → Placed ≡ audits_of s
  pub after_0_3 : (s : List ℕ) → zero_then s 3 ≡ true → Placed ≡ audits_of s
  pub table : (s : List ℕ) → refusal s ≡ 0 → Placed ≡ audits_of s → (i j : ℕ) → i < items_of s → j < items_of s
      → kind_byte (item_text s i) ≡ kind_number Audit → kind_byte (item_text s j) ≡ kind_number Audit
      → ballot_of (item_text s i) ≡ ballot_of (item_text s j)
      → clash_in s i j ≡ not (eqb (place_of (item_text s i)) (place_of (item_text s j)))

pub record SeasonEdges : Type 0 where
  pub first : Older first_engine StartsWith0
  pub second : Older second_engine StartsWith03
  pub starts_with_zero : StartsWithZero
  pub places : PlacesClash
  -- the rule of every season joins items both ways, and none to itself
  pub both_ways : (audits : Audits) (a b : List ℕ) → clash audits a b ≡ clash audits b a
  pub never_itself : (audits : Audits) (a : List ℕ) → clash audits a a ≡ false

-- a table of the second season, with this after its two first bytes
abbrev pub second : List ℕ → List ℕ
second s = 0 ∷ 2 ∷ s

-- one peer, one period and the one item with this text
abbrev pub one : List ℕ → List ℕ
one text = second (1 ∷ 1 ∷ 0 ∷ 0 ∷ 1 ∷ 1 ∷ 0 ∷ 12 ∷ 0 ∷ length text ∷ text)

-- one peer, one period and two items, the texts of which have six bytes
abbrev pub two_sixes : List ℕ → List ℕ
two_sixes texts = second (1 ∷ 1 ∷ 0 ∷ 0 ∷ 1 ∷ 2 ∷ 0 ∷ 16 ∷ 0 ∷ 6 ∷ 0 ∷ 22 ∷ 0 ∷ 6 ∷ texts)

-- an audit of ballot 7 from this place
abbrev pub audit_from : ℕ → List ℕ
audit_from place = item 2 (place ∷ [])

-- four peers with threshold 3, of which the first three are honest, one period, and two audits of ballot 7, from
-- places 5 and 6
abbrev pub two_places : List ℕ
two_places = second (4 ∷ 3 ∷ 0 ∷ 7 ∷ 1 ∷ 2 ∷ 0 ∷ 16 ∷ 0 ∷ 6 ∷ 0 ∷ 22 ∷ 0 ∷ 6 ∷ (audit_from 5 ++ audit_from 6))

-- the cases that document 01 marks, in the second season, and further ones: 0 is taken, 1 header, 2 pairs, 3 item,
-- 4 twin
pub record SeasonCases : Type 0 where
  -- the first bytes, and the header after them
  pub eight_bytes : refusal (second (empty 1 1)) ≡ 0
  pub seven_bytes : refusal (second (1 ∷ 1 ∷ 0 ∷ 0 ∷ 1 ∷ [])) ≡ 1
  pub two_bytes_lem : refusal (second []) ≡ 1
  pub zero-zero : refusal (0 ∷ 0 ∷ empty 1 1) ≡ 1
  pub zero_one : refusal (0 ∷ 1 ∷ empty 1 1) ≡ 1
  pub zero_four : refusal (0 ∷ 4 ∷ empty 1 1) ≡ 1
  pub two_then_two : refusal (empty 2 2) ≡ 0
  pub three_peers_threshold_2 : refusal (second (empty 3 2)) ≡ 1
  pub three_peers_threshold_3 : refusal (second (empty 3 3)) ≡ 0
  pub sixteen_peers_threshold_10 : refusal (second (empty 16 10)) ≡ 1
  pub sixteen_peers_threshold_11 : refusal (second (empty 16 11)) ≡ 0
  pub one_byte_more : refusal (second (empty 1 1 ++ (0 ∷ []))) ≡ 2
  pub first_offset_10 : refusal (second (single audit)) ≡ 2
  -- the items
  pub vote_of_5_bytes : refusal (one (vote [])) ≡ 3
  pub vote_of_6_bytes : refusal (one (vote (255 ∷ []))) ≡ 0
  pub vote_of_37_bytes : refusal (one (vote (replicate 32 255))) ≡ 0
  pub vote_of_38_bytes : refusal (one (vote (replicate 33 255))) ≡ 3
  pub audit_of_5_bytes : refusal (one audit) ≡ 3
  pub audit_of_6_bytes : refusal (one (audit_from 0)) ≡ 0
  pub place_255 : refusal (one (audit_from 255)) ≡ 0
  pub audit_of_7_bytes : refusal (one (item 2 (0 ∷ 0 ∷ []))) ≡ 3
  pub cancellation_of_5_bytes : refusal (one cancellation) ≡ 0
  pub cancellation_of_6_bytes : refusal (one (item 3 (0 ∷ []))) ≡ 3
  -- two audits of one ballot: from one place, and from two
  pub one_place : refusal (two_sixes (audit_from 5 ++ audit_from 5)) ≡ 4
  pub two_places_lem : refusal two_places ≡ 0
  pub three-honest : honest_count (head_of two_places) ≡ 3
  pub first_clashes_with_second : clash_mask two_places 0 ≡ 2
  pub second_clashes_with_first : clash_mask two_places 1 ≡ 1
  -- and other items beside an audit that names its place
  pub vote-and-audit-clash : clash Placed (vote (0 ∷ [])) (audit_from 5) ≡ true
  pub audit-and-vote-clash : clash Placed (audit_from 5) (vote (5 ∷ [])) ≡ true
  pub audit_and_cancellation_do_not : clash Placed (audit_from 5) cancellation ≡ false
  pub other_ballot_does_not : clash Placed (audit_from 5) (0 ∷ 0 ∷ 0 ∷ 8 ∷ 2 ∷ 6 ∷ []) ≡ false
  -- in the first season such an audit is no item, and clashes with none
  pub none_in_the_first : refusal (single (audit_from 5)) ≡ 3
