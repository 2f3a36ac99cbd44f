-- Bytes of the third season whose header and pairs are right, and which have no weight but 1, have such of the second
-- beside them, with the same fields, texts and whatever follows these.
use Prim.Native.Nat.{ℕ, ◌+◌, ◌-◌, ◌*◌, ◌/◌, ◌%◌, ◌≤◌, ◌<◌}
use native.Mathlib.Omega.{arith}
use mathlib.Core.Bool.{true, cond}
use mathlib.Core.List.{List}
use mathlib.Core.Path.{◌≡◌, sym, ap, ◌∙◌}
use lib.Dec.{eqb}
use lib.ListN.{length, drop, length-append, length-drop, get_or-append}
use lib.Seq.{drop_at}
use borrow.Author.Tests.{lt-ltb, le-ltb, ne_eqb, eq-eqb, eqb-true, leb-true, not-false}
use Rattle.base.specs.Below.{every}
use Rattle.base.specs.Bytes.{byte_at}
use Rattle.base.specs.Tab.{tab}
use Rattle.base.proofs.Refusals.{passed}
use Rattle.base.proofs.Tab.{length-tab, get_or-tab}
use Rattle.base.proofs.Truth.{and_i, and_l}
use Rattle.header.specs.declared.season.Season.TheVariants.{Third}
use Rattle.header.specs.Season.{zero_then, season_of}
use Rattle.header.specs.Header.{header_size, field_of, peers_of, items_of, weight_count, weight_in, header_ok}
use Rattle.header.proofs.Ranges.{peers_range}
use Rattle.header.proofs.Seasons.{third_of, for_each_peer, later_field, third-size}
use Rattle.header.proofs.Weighing.{weight_byte}
use Rattle.pairs.specs.Pairs.{offset_of, size_of, first_offset, starts_at_end, pairs_fit, pairs_ok}
use Rattle.pairs.proofs.Texts.{pair_number_lem}
use Rattle.ballot.specs.Table.{table_pairs_ok, table_refusals, refusal}
use Rattle.edges.specs.Weights.{SameButOnes, pair_byte, front_byte, unweighed}
use Rattle.edges.proofs.Shifted.{after-pairs}

module _ (s : List ℕ) (ok : header_ok s ≡ true) (fits : pairs_fit s (header_size s) (items_of s) ≡ true)
    (third : zero_then s 3 ≡ true) (each-one : (k : ℕ) → 1 ≤ k → k ≤ peers_of s → weight_in s k ≡ 1) where
  abbrev n : ℕ
  n = byte_at s 2

  abbrev m : ℕ
  m = byte_at s 7

  abbrev front : ℕ
  front = 8 + 4 * m

  abbrev r : List ℕ
  r = unweighed s

  -- what the table is known by

  is_third : Third ≡ season_of s
  is_third = third_of s third

  field : (i : ℕ) → field_of s i ≡ byte_at s (2 + i)
  field = later_field s (rw (← is_third))

  count : weight_count s ≡ n
  count = for_each_peer s (rw (← is_third)) (peers_range s ok).1 ∙ field 0

  size : header_size s ≡ n + 8
  size = omega (arith, third-size s is_third, count)

  pairs_fit_lem : pairs_fit s (n + 8) m ≡ true
  pairs_fit_lem = rw (size, field 5) at fits

  reaches : n + front ≤ length s
  unfolding pairs_fit
  reaches = omega (arith, leb-true (first_offset (n + 8) m) (length s) (and_l _ (every m (starts_at_end s (n + 8) m)) pairs_fit_lem))

  -- the bytes of the front

  at_front : (i : ℕ) → i < front → byte_at r i ≡ front_byte s i
  at_front i l =
      get_or-append (tab front (front_byte s)) (drop (n + front) s) 0 i (omega (arith, length-tab front (front_byte s), l))
      ∙ get_or-tab front (front_byte s) i 0 l

  kept : (i : ℕ) → i < 8 → (i ≡ 1 → ⊥) → byte_at r i ≡ byte_at s i
  kept i l other = at_front i (omega (arith, l)) ∙ rw (lt-ltb i 8 l, ne_eqb i 1 other)

  in_pairs : (i : ℕ) → i < 4 * m → byte_at r (8 + i) ≡ pair_byte s i
  in_pairs i l =
      at_front (8 + i) (omega (arith, l))
      ∙ rw (le-ltb (8 + i) 8 (omega arith)) (ap (pair_byte s) {x = 8 + i - 8} {y = i} (omega arith))

  -- a pair: four bytes of the front

  module _ (k : ℕ) (l : k < m) where
    abbrev offset : ℕ
    offset = offset_of s (n + 8) k - n

    abbrev long : ℕ
    long = size_of s (n + 8) k

    -- byte j of it
    byte : (j : ℕ) → j < 4 → byte_at r (8 + 4 * k + j)
        ≡ cond (eqb j 0) (offset / 256) (cond (eqb j 1) (offset % 256) (cond (eqb j 2) (long / 256) (long % 256)))
    byte j h =
        let place : (4 * k + j) / 4 ≡ k = omega (arith, h) in
        let which : (4 * k + j) % 4 ≡ j = omega (arith, h) in
        ap (byte_at r) {x = 8 + 4 * k + j} {y = 8 + (4 * k + j)} (omega arith)
        ∙ in_pairs (4 * k + j) (omega (arith, l, h))
        ∙ rw (place, which)

    offset_less : offset_of r 8 k ≡ offset
    offset_less =
        let first = ap (byte_at r) {x = 8 + 4 * k} {y = 8 + 4 * k + 0} (omega arith) ∙ byte 0 (omega arith) in
        sym (pair_number_lem r (8 + 4 * k) (sym first) (sym (byte 1 (omega arith)))) ∙ omega arith

    offset_more : offset_of s (n + 8) k ≡ n + offset_of r 8 k
    offset_more = omega (arith, offset_less, after-pairs s (n + 8) m pairs_fit_lem k l)

    size_same : size_of s (n + 8) k ≡ size_of r 8 k
    size_same =
        let last = ap (byte_at r) {x = 8 + 4 * k + 2 + 1} {y = 8 + 4 * k + 3} (omega arith) ∙ byte 3 (omega arith) in
        sym (sym (pair_number_lem r (8 + 4 * k + 2) (sym (byte 2 (omega arith))) (sym last)) ∙ omega arith)

  -- and what follows it

  long_front : length (tab front (front_byte s)) ≡ front
  long_front = length-tab front (front_byte s)

  longer : length s ≡ n + length r
  longer =
      omega (arith, length-append (tab front (front_byte s)) (drop (n + front) s), long_front, length-drop (n + front) s, reaches)

  one : (k : ℕ) → 1 ≤ k → k ≤ n → byte_at s (7 + k) ≡ 1
  one k low high =
      ap (byte_at s) {x = 7 + k} {y = 2 + (5 + k)} (omega arith)
      ∙ sym (field (5 + k))
      ∙ sym (weight_byte s k low (omega (arith, high, count)))
      ∙ each-one k low (omega (arith, high, field 0))

  starts : zero_then r 2 ≡ true
  starts =
      let zero-first = eqb-true (byte_at s 0) 0 (and_l (eqb (byte_at s 0) 0) _ third) in
      and_i _ _ (eq-eqb (byte_at r 0) 0 (kept 0 (omega arith) (λ e. omega (arith, e)) ∙ zero-first))
      (eq-eqb (byte_at r 1) 2 (at_front 1 (omega arith)))

  items : byte_at r 7 ≡ m
  items = kept 7 (omega arith) (λ e. omega (arith, e))

  pub unweighed_fits : SameButOnes s r
  unweighed_fits = record {
    third = third;
    second = starts;
    fields = λ i l. sym (kept (2 + i) (omega (arith, l)) (λ e. omega (arith, e)));
    ones = one;
    rest = rw items (record {
      longer = longer;
      pairs = λ there k l. (offset_more k l, size_same k l);
      texts = sym (drop_at (tab front (front_byte s)) (drop (n + front) s) front long_front);
    });
  }

-- so does a table that is taken
pub unweighed_same : (s : List ℕ) → refusal s ≡ 0 → zero_then s 3 ≡ true
    → ((k : ℕ) → 1 ≤ k → k ≤ peers_of s → weight_in s k ≡ 1) → SameButOnes s (unweighed s)
unfolding refusal table_pairs_ok pairs_ok
unweighed_same s fit =
    let tests = passed (table_refusals s) fit in
    unweighed_fits s (not-false (header_ok s) tests.0) (and_l _ _ (not-false (table_pairs_ok s) tests.1.0))
