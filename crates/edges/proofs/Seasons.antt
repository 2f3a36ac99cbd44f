-- What the seasons change and what they leave: a table that does not start with 0 is of the first season, where every
-- definition is the old one; two audits that name their places clash by these.
use Prim.Native.Nat.{ℕ, ◌+◌, ◌≤◌, ◌<◌}
use native.Mathlib.Decide.{ℕ_discrete}
use native.Mathlib.Omega.{arith}
use mathlib.Core.Bool.{true, false, not, ◌&&◌}
use mathlib.Core.List.{List, [], ◌∷◌}
use mathlib.Core.Logic.{◌⊎◌, inl, inr}
use Rattle.std.specs.Prelude.{Option, Some, None}
use mathlib.Core.Path.{◌≡◌, refl, sym, ap, ◌∙◌}
use lib.Dec.{leb, eqb}
use lib.ListN.{length}
use borrow.Author.Tests.{eq-eqb, eqb-true, le-leb, leb-true}
use Rattle.base.specs.Bytes.{byte_at, number_at, same_bytes}
use Rattle.base.specs.Refusals.{first}
use Rattle.base.proofs.Bytes.{eq_of_same}
use Rattle.base.proofs.Truth.{either, split, is_false, iff, false_true, and_l, and_r, and_false, eqb_self}
use Rattle.header.specs.declared.season.Season.{Season}
use Rattle.header.specs.declared.season.Season.TheVariants.{First}
use Rattle.header.specs.Season.{zero_then, season_of, fields_at}
use Rattle.header.specs.Header.{header_size, field_of, items_of, head_of, weight_count, header_ok}
use Rattle.header.proofs.Fields.{header_short}
use Rattle.header.proofs.Seasons.{starts_otherwise, zero-two, zero-three, second-of, third_of, older, no_weights, no_season}
use Rattle.header.proofs.Seasons.{first_field, first-size, second-field, second-size, third-size}
use Rattle.ballot.specs.declared.item.Kind.{Kind}
use Rattle.ballot.specs.declared.item.Kind.TheVariants.{Vote, Audit, PlacedAudit, Cancellation}
use Rattle.ballot.specs.declared.item.Audits.TheVariants.{Bare, Placed}
use Rattle.ballot.specs.declared.item.Item.{Item}
use Rattle.ballot.specs.Item.{ballot_of, kind_byte, place_of, read_kind, read_item, reading_number, is_item, item_at, all_items, takes}
use Rattle.ballot.specs.Table.{audits_in, audits_of, table_pairs_ok, item_below, item_text, items_ok, no_twins, refusal}
use Rattle.ballot.proofs.Readings.{good_read, read_good}
use Rattle.ballot.proofs.Sound.{sound}
use Rattle.clash.specs.Clash.{kinds_clash, readings_clash, clash, clash_in}
use Rattle.clash.proofs.Relation.{clash_sym, clash_self}
use Rattle.edges.specs.FirstSeason as one
use Rattle.edges.specs.SecondSeason as two
use Rattle.edges.specs.Seasons.{StartsWith0, StartsWith03, first_engine, second_engine, AsBefore, PlacesClash, SeasonEdges}
use Rattle.edges.proofs.Counted.{counted_header, head_counted}
use Rattle.edges.proofs.Every.{header_refused, every-table}

-- to the engine of the first season a table that starts with 0 has no peers
first_refuses : (s : List ℕ) → StartsWith0 s → one.refusal s ≡ 1
unfolding first
first_refuses s zero-first = rw (zero-first, and_false)

-- its rule of clashes is that of items of which no audit has a place

kinds_same : (a b : Kind) → takes Bare a ≡ true → kinds_clash a b ≡ one.kinds_clash a b
kinds_same (Vote n) b t = refl
kinds_same Audit (Vote n) t = refl
kinds_same Audit Audit t = refl
kinds_same Audit (PlacedAudit p) t = refl
kinds_same Audit Cancellation t = refl
kinds_same (PlacedAudit p) b t = false_true t
kinds_same Cancellation b t = refl

clash_same : (a b : List ℕ) → clash Bare a b ≡ one.clash a b
unfolding clash read_item read_kind
clash_same a b = ap (λ r. not (same_bytes a b) && r) (go (read_item Bare a) (read_item Bare b) refl refl)
  where
    go : (v w : Option Item) → read_item Bare a ≡ v → read_item Bare b ≡ w → readings_clash v w ≡ one.readings_clash v w
    go None w p q = refl
    go (Some x) None p q = refl
    go (Some x) (Some y) p q = rw (kinds_same x.kind y.kind (good_read Bare a x p).taken)

-- a table that does not start with 0

module _ (s : List ℕ) (other : StartsWith0 s → ⊥) where
  is_first : First ≡ season_of s
  is_first = starts_otherwise s refl other

  unweighed : weight_count s ≡ 0
  unweighed = no_weights s (rw (← is_first))

  head_same : head_of s ≡ one.head_of s
  head_same = head_counted s unweighed ∙ simp (first_field s is_first)

  header_same : header_ok s ≡ one.header_ok s
  header_same = counted_header s unweighed ∙ simp (first-size s is_first, first_field s is_first)

  pairs_same : table_pairs_ok s ≡ one.table_pairs_ok s
  unfolding table_pairs_ok
  pairs_same = rw (first-size s is_first, first_field s is_first)

  items_same : items_ok s ≡ one.items_ok s
  unfolding items_ok all_items item_at is_item read_item read_kind
  items_same = rw (first-size s is_first, first_field s is_first, ← is_first)

  twins_same : no_twins s ≡ one.no_twins s
  unfolding no_twins
  twins_same = rw (first-size s is_first, first_field s is_first)

  text_same : (k : ℕ) → item_text s k ≡ one.item_text s k
  unfolding item_below
  text_same k = rw (first-size s is_first, first_field s is_first)

  in_same : (i j : ℕ) → clash_in s i j ≡ one.clash_in s i j
  unfolding clash_in
  in_same i j = rw (← is_first, text_same i, text_same j) (clash_same (one.item_text s i) (one.item_text s j))

  judged_same : refusal s ≡ one.refusal s
  unfolding refusal
  judged_same = rw (header_same, pairs_same, items_same, twins_same)

  first_before : AsBefore first_engine s
  first_before = record {
    judged = judged_same;
    header_ok_lem = header_same;
    head = head_same;
    size = first-size s is_first;
    text = text_same;
    clashing = in_same;
  }

-- the engine of the second season: a table that starts with 0 and 3 has no peers to it

second_refuses : (s : List ℕ) → StartsWith03 s → two.refusal s ≡ 1
unfolding first
second_refuses s newer =
    let zero-first = eqb-true (byte_at s 0) 0 (and_l (eqb (byte_at s 0) 0) _ newer) in
    let three-next = eqb-true (byte_at s 1) 3 (and_r (eqb (byte_at s 0) 0) _ newer) in
    let not-two : two.zero_two s ≡ false = rw (three-next, and_false) in
    rw (not-two, zero-first, and_false)

-- and to every other one its season is the same, and there are no weights
module _ (s : List ℕ) (other : StartsWith03 s → ⊥) where
  no_three : zero_then s 3 ≡ false
  no_three = is_false (zero_then s 3) other

  season_same : season_of s ≡ two.season_of s
  season_same = rw no_three

  no_weight : weight_count s ≡ 0
  no_weight = no_weights s (older s no_three)

  size_same : header_size s ≡ two.header_size s
  unfolding header_size
  size_same = omega (arith, ap fields_at season_same, no_weight)

  field_same : (i : ℕ) → field_of s i ≡ two.field_of s i
  unfolding field_of
  field_same i = ap (λ (x : Season). byte_at s (fields_at x + i)) season_same

  second_header : header_ok s ≡ two.header_ok s
  second_header = counted_header s no_weight ∙ simp (size_same, field_same)

  second_judged : refusal s ≡ two.refusal s
  unfolding refusal table_pairs_ok items_ok no_twins
  second_judged = rw (second_header, season_same) (simp (size_same, field_same))

  second_text : (k : ℕ) → item_text s k ≡ two.item_text s k
  unfolding item_below
  second_text k = rw (size_same, field_same)

  second-clashing : (i j : ℕ) → clash_in s i j ≡ two.clash_in s i j
  unfolding clash_in
  second-clashing i j = rw (second_text i, second_text j, season_same)

  second_before : AsBefore second_engine s
  second_before = record {
    judged = second_judged;
    header_ok_lem = second_header;
    head = head_counted s no_weight ∙ simp field_same;
    size = size_same;
    text = second_text;
    clashing = second-clashing;
  }

-- a table that starts with 0

module _ (s : List ℕ) where
  two_more : leb 8 (length (0 ∷ 2 ∷ s)) ≡ leb 6 (length s)
  two_more = iff _ _ (λ e. le-leb 6 (length s) (omega (arith, leb-true 8 (length (0 ∷ 2 ∷ s)) e)))
      (λ e. le-leb 8 (length (0 ∷ 2 ∷ s)) (omega (arith, leb-true 6 (length s) e)))

  abbrev after_two : List ℕ
  after_two = 0 ∷ 2 ∷ s

  then_two : header_ok after_two ≡ one.header_ok s
  then_two = counted_header after_two (no_weights after_two refl) ∙ simp (second-size after_two refl, second-field s, two_more)

  fields : head_of after_two ≡ one.head_of s
  fields = head_counted after_two (no_weights after_two refl) ∙ simp (second-field s)

  module _ (zero-first : byte_at s 0 ≡ 0) where
    otherwise : (byte_at s 1 ≡ 2 → ⊥) → (byte_at s 1 ≡ 3 → ⊥) → refusal s ≡ 1
    otherwise not-2 not-3 = header_refused s (no_season s zero-first not-2 not-3)

    too_short : length s < 8 → 8 ≤ header_size s → refusal s ≡ 1
    too_short short size = header_refused s (sym (header_short s (omega (arith, short, size))))

    under_8_bytes : length s < 8 → refusal s ≡ 1
    under_8_bytes short = go (ℕ_discrete (byte_at s 1) 2) (ℕ_discrete (byte_at s 1) 3)
      where
        go : Dec (byte_at s 1 ≡ 2) → Dec (byte_at s 1 ≡ 3) → refusal s ≡ 1
        go (yes two-next) d = too_short short (omega (arith, second-size s (zero-two s refl zero-first refl two-next)))
        go (no not-2) (yes three-next) = too_short short (omega (arith, third-size s (zero-three s refl zero-first refl three-next)))
        go (no not-2) (no not-3) = otherwise not-2 not-3

-- two audits that name their places

-- the audit of ballot n from place p
abbrev audit_by : ℕ → ℕ → Item
audit_by n p = record { ballot = n; kind = PlacedAudit p }

clash_by_place : (x y : List ℕ) (n p q : ℕ) → read_item Placed x ≡ Some (audit_by n p) → read_item Placed y ≡ Some (audit_by n q)
    → clash Placed x y ≡ not (eqb p q)
unfolding clash
clash_by_place x y n p q x-read y-read = rw (x-read, y-read, eqb_self n) (go (either (eqb p q)))
  where
    place : x ≡ y → p ≡ q
    place e =
        let items : audit_by n p ≡ audit_by n q = cc in
        let kinds = ap (λ (i : Item). i.kind) items in
        cc

    go : (eqb p q ≡ true) ⊎ (eqb p q ≡ false) → not (same_bytes x y) && not (eqb p q) ≡ not (eqb p q)
    go (inl e) = rw (e, and_false)
    go (inr e) = rw (e, is_false (same_bytes x y) (λ same. split (eq-eqb p q (place (eq_of_same x y same))) e))

module _ (text : List ℕ) (good : is_item Placed text ≡ true) (audit : kind_byte text ≡ 2) where
  six_bytes : length text ≡ 6
  unfolding is_item
  six_bytes = go (either (eqb (length text) 6))
    where
      go : (eqb (length text) 6 ≡ true) ⊎ (eqb (length text) 6 ≡ false) → length text ≡ 6
      go (inl e) = eqb-true (length text) 6 e
      go (inr e) =
          let wrong : reading_number (read_item Placed text) ≡ 3 = rw e at (every-table.placed-audits text audit) in
          absurd (omega (arith, eqb-true (reading_number (read_item Placed text)) 0 good, wrong))

  placed-read : read_item Placed text ≡ Some (audit_by (ballot_of text) (place_of text))
  placed-read =
      read_good Placed text _
      (record { says = record { ballot = refl; kind = audit; size = six_bytes; body = eqb_self (place_of text) }; taken = refl })

in_table : (s : List ℕ) → refusal s ≡ 0 → Placed ≡ audits_of s → (i j : ℕ) → i < items_of s → j < items_of s
    → kind_byte (item_text s i) ≡ 2 → kind_byte (item_text s j) ≡ 2 → ballot_of (item_text s i) ≡ ballot_of (item_text s j)
    → clash_in s i j ≡ not (eqb (place_of (item_text s i)) (place_of (item_text s j)))
unfolding clash_in
in_table s taken placed i j l m audit-i audit-j one_ballot =
    let good = (sound s taken).text_season in
    rw (← placed) (clash_by_place (item_text s i) (item_text s j) (ballot_of (item_text s i)) (place_of (item_text s i))
    (place_of (item_text s j))
    (placed-read (item_text s i) (rw (← placed) at (good i l)) audit-i)
    (rw one_ballot (placed-read (item_text s j) (rw (← placed) at (good j m)) audit-j)))

places_clash : PlacesClash
unfolding read_item read_kind number_at
places_clash = record {
  items = λ a b p q same k l. rw (k, l, same, eqb_self b.ballot);
  texts = λ a b c d p q. clash_by_place (a ∷ b ∷ c ∷ d ∷ 2 ∷ p ∷ []) (a ∷ b ∷ c ∷ d ∷ 2 ∷ q ∷ []) _ p q refl refl;
  after_0_2 = λ s e. ap audits_in (second-of s e);
  after_0_3 = λ s e. ap audits_in (third_of s e);
  table = in_table;
}

pub season_edges : SeasonEdges
season_edges = record {
  first = record { refuses = first_refuses; as_before = first_before };
  second = record { refuses = second_refuses; as_before = second_before };
  starts_with_zero = record {
    then_two = then_two;
    fields = fields;
    pairs_at_8 = λ s. second-size (0 ∷ 2 ∷ s) refl;
    under_8_bytes = under_8_bytes;
    otherwise = otherwise;
  };
  places = places_clash;
  both_ways = clash_sym;
  never_itself = clash_self;
}
