-- The table in an input: where it ends, which of the input's bytes it has, and by which tests an input is judged. And two
-- inputs, in the one of which every weight is 1, the other has none, and all else is the same: they are judged alike, and
-- have the same steps.
use Prim.Native.Nat.{ℕ, ◌+◌, ◌-◌, ◌*◌, ◌/◌, ◌≤◌, ◌<◌}
use native.Mathlib.Decide.{ℕ_discrete}
use native.Mathlib.Omega.{arith}
use mathlib.Core.Bool.{true, false, cond, not, ◌&&◌}
use mathlib.Core.List.{List}
use mathlib.Core.Logic.{◌⊎◌, inl, inr}
use mathlib.Core.Path.{◌≡◌, refl, sym, ap, ap₂, ◌∙◌}
use lib.Dec.{eqb, ltb}
use lib.ListN.{length, take, drop}
use lib.Seq.{get_or-take, length-take-le, take-add, drop_at}
use borrow.Author.Tests.{leb-true, le-ltb, ltb-false, not-false}
use Rattle.base.specs.Bytes.{byte_at, number_at, part}
use Rattle.base.specs.Refusals.{first}
use Rattle.base.proofs.Refusals.{Passed, passed}
use Rattle.base.proofs.Truth.{either, and_l, and_r}
use Rattle.header.specs.Header.{header_size, items_of, header_ok}
use Rattle.pairs.specs.Pairs.{pair_number, first_offset, end_before, pairs_fit}
use Rattle.pairs.proofs.Texts.{starts_at, text_ends}
use Rattle.ballot.specs.Table.{refusal}
use Rattle.rehearsal.specs.Input.{input_most, step_size, table_end, table_in, table_there, input_refusals, input_refusal, step_count, call_at}
use Rattle.edges.specs.Weights.{Shifted, SameButOnes}
use Rattle.edges.proofs.AllOnes.{items_s, items_r, size_r, size, header_same, all_ones}
use Rattle.edges.proofs.Shifted.{both_longer, fit_same, pairs_there, last_more, dropped}

-- 15, then 1 and 2 of the input, then the table's own
pub judged_by : (input : List ℕ) → input_refusal input
    ≡ cond (ltb input_most (length input)) 15 (cond (not (header_ok input)) 1 (cond (not (table_there input)) 2 (refusal (table_in input))))
unfolding input_refusal refusal first
judged_by input = refl

-- what an input that is not refused has passed
module _ (input : List ℕ) (fit : input_refusal input ≡ 0) where
  tests : Passed (input_refusals input)
  unfolding input_refusal
  tests = passed (input_refusals input) fit

  pub not_too_long : length input ≤ input_most
  not_too_long = ltb-false input_most (length input) tests.0

  pub right_there : (header_ok input ≡ true) × (table_there input ≡ true)
  right_there = (not-false (header_ok input) tests.1.0, not-false (table_there input) tests.1.1.0)

module _ (input : List ℕ) (fit : pairs_fit input (header_size input) (items_of input) ≡ true) where
  abbrev m : ℕ
  m = items_of input

  -- the table has all of its pairs
  pub end_most : first_offset (header_size input) m ≤ table_end input
  unfolding end_before
  end_most = go (ℕ_discrete m 0)
    where
      go : Dec (m ≡ 0) → first_offset (header_size input) m ≤ table_end input
      go (yes e) = omega (arith, ap (end_before input (header_size input) m) {x = m} {y = 0} e)
      go (no n) =
          let starts = starts_at input (header_size input) m fit 0 (omega arith) in
          omega (arith, starts, text_ends input (header_size input) m fit 0 (omega arith))

-- what stands before its end stands in the input
pub byte_in_lem : (input : List ℕ) (i : ℕ) → i < table_end input → byte_at (table_in input) i ≡ byte_at input i
unfolding table_in part
byte_in_lem input i l = get_or-take (table_end input) input i 0 l

number_in : (input : List ℕ) (i : ℕ) → i + 1 < table_end input → pair_number (table_in input) i ≡ pair_number input i
unfolding number_at
number_in input i l = rw (byte_in_lem input (i + 0) (omega (arith, l)), byte_in_lem input (i + 1) l)

drop-take : (a b : ℕ) (l : List ℕ) → a ≤ length l → drop a (take (a + b) l) ≡ take b (drop a l)
drop-take a b l h = ap (drop a) (take-add a b l) ∙ drop_at (take a l) (take b (drop a l)) a (length-take-le a l h)

-- what a table has after its pairs, or after any part of it
after_in : (input : List ℕ) (a : ℕ) → a ≤ table_end input → a ≤ length input
    → drop a (table_in input) ≡ take (table_end input - a) (drop a input)
unfolding table_in part
after_in input a l h =
    ap (λ (n : ℕ). drop a (take n input)) {x = table_end input} {y = a + (table_end input - a)} (omega (arith, l))
    ∙ drop-take a (table_end input - a) input h

module _ (input other : List ℕ) (R : SameButOnes input other) where
  abbrev d : ℕ
  d = byte_at input 2

  abbrev items : ℕ
  items = byte_at other 7

  abbrev start : ℕ
  start = first_offset 8 items

  module _ (ok : header_ok other ≡ true) where
    fits : pairs_fit input (header_size input) (items_of input) ≡ pairs_fit other (header_size other) (items_of other)
    fits = rw (size input other R ok, items_s input other R, size_r input other R, items_r input other R) (fit_same R.rest)

    module _ (fit : pairs_fit other (header_size other) (items_of other) ≡ true) where
      fit_8 : pairs_fit other 8 items ≡ true
      fit_8 = rw (size_r input other R, items_r input other R) at fit

      ends : table_end input ≡ d + table_end other
      ends =
          rw (size input other R ok, items_s input other R, size_r input other R, items_r input other R)
          (last_more R.rest fit_8)

      past_pairs : start ≤ table_end other
      past_pairs = omega (arith, end_most other fit, size_r input other R, items_r input other R)

    there_same : table_there input ≡ table_there other
    unfolding table_there
    there_same = go (either (pairs_fit other (header_size other) (items_of other)))
      where
        go : (pairs_fit other (header_size other) (items_of other) ≡ true) ⊎ (pairs_fit other (header_size other) (items_of other) ≡ false)
            → table_there input ≡ table_there other
        go (inl e) = rw (fits, e, ends e, R.rest.longer) (both_longer d (table_end other) (length other))
        go (inr e) = rw (fits, e)

    -- the tables in them
    module _ (there : table_there other ≡ true) where
      pub fit_there : pairs_fit other (header_size other) (items_of other) ≡ true
      unfolding table_there
      fit_there = and_l _ _ there

      reached : table_end other ≤ length other
      unfolding table_there
      reached = leb-true (table_end other) (length other) (and_r (pairs_fit other (header_size other) (items_of other)) _ there)

      pub ends_there : table_end input ≡ d + table_end other
      ends_there = ends fit_there

      in_other : (i : ℕ) → i < 8 → byte_at (table_in other) i ≡ byte_at other i
      in_other i l = byte_in_lem other i (omega (arith, l, past_pairs fit_there))

      in_input : (i : ℕ) → i < 8 + d → byte_at (table_in input) i ≡ byte_at input i
      in_input i l = byte_in_lem input i (omega (arith, l, past_pairs fit_there, ends_there))

      long_input : length (table_in input) ≡ table_end input
      unfolding table_in part
      long_input = length-take-le (table_end input) input (omega (arith, reached, ends_there, R.rest.longer))

      long_other : length (table_in other) ≡ table_end other
      unfolding table_in part
      long_other = length-take-le (table_end other) other reached

      -- a number of the pairs
      number_input : (i : ℕ) → i + 1 < d + start → pair_number (table_in input) i ≡ pair_number input i
      number_input i l = number_in input i (omega (arith, l, past_pairs fit_there, ends_there))

      number_other : (i : ℕ) → i + 1 < start → pair_number (table_in other) i ≡ pair_number other i
      number_other i l = number_in other i (omega (arith, l, past_pairs fit_there))

      texts_in : drop (d + start) (table_in input) ≡ drop start (table_in other)
      texts_in =
          after_in input (d + start) (omega (arith, past_pairs fit_there, ends_there))
          (omega (arith, pairs_there R.rest (fit_8 fit_there), R.rest.longer))
          ∙ ap₂ (λ (n : ℕ) (l : List ℕ). take n l) {x = table_end input - (d + start)} {y = table_end other - start}
          (omega (arith, ends_there)) R.rest.texts
          ∙ sym (after_in other start (past_pairs fit_there) (pairs_there R.rest (fit_8 fit_there)))

      shifted_in : Shifted (table_in input) (table_in other) d 8 items
      shifted_in = record {
        longer = omega (arith, long_input, long_other, ends_there);
        pairs = λ whole k h. let pair = R.rest.pairs (pairs_there R.rest (fit_8 fit_there)) k h in (
          number_input (d + 8 + 4 * k) (omega (arith, h))
              ∙ pair.0
              ∙ ap (λ (n : ℕ). d + n) (sym (number_other (8 + 4 * k) (omega (arith, h)))),
          number_input (d + 8 + 4 * k + 2) (omega (arith, h)) ∙ pair.1 ∙ sym (number_other (8 + 4 * k + 2) (omega (arith, h))),
        );
        texts = texts_in;
      }

      pub tables_same : SameButOnes (table_in input) (table_in other)
      tables_same = record {
        third = ap₂ (λ (a b : ℕ). eqb a 0 && eqb b 3) (in_input 0 (omega arith)) (in_input 1 (omega arith)) ∙ R.third;
        second = ap₂ (λ (a b : ℕ). eqb a 0 && eqb b 2) (in_other 0 (omega arith)) (in_other 1 (omega arith)) ∙ R.second;
        fields = λ i l. in_input (2 + i) (omega (arith, l)) ∙ R.fields i l ∙ sym (in_other (2 + i) (omega (arith, l)));
        ones = λ k low high.
            let most : k ≤ d = omega (arith, high, in_input 2 (omega arith)) in
            in_input (7 + k) (omega (arith, most)) ∙ R.ones k low most;
        rest = rw (in_input 2 (omega arith), in_other 7 (omega arith)) shifted_in;
      }

      -- and the steps that follow them
      pub count_alike : step_count input ≡ step_count other
      unfolding step_count
      count_alike =
          ap (λ (n : ℕ). (n + (step_size - 1)) / step_size) {x = length input - table_end input} {y = length other - table_end other}
          (omega (arith, ends_there, R.rest.longer))

      pub call_alike : (k : ℕ) → call_at input k ≡ call_at other k
      unfolding call_at part
      call_alike k =
          ap (take step_size)
          (ap (λ (n : ℕ). drop n input) {x = table_end input + step_size * k} {y = d + (table_end other + step_size * k)}
          (omega (arith, ends_there))
          ∙ dropped R.rest (fit_8 fit_there) (table_end other + step_size * k) (omega (arith, past_pairs fit_there)))

  -- so they are judged alike, where they are not too long
  module _ (few : length input ≤ input_most) where
    by_table : header_ok other ≡ true → (table_there other ≡ true) ⊎ (table_there other ≡ false)
        → cond (not (table_there input)) 2 (refusal (table_in input)) ≡ cond (not (table_there other)) 2 (refusal (table_in other))
    by_table ok (inl e) = rw (there_same ok, e) (all_ones (table_in input) (table_in other) (tables_same ok e)).judged
    by_table ok (inr e) = rw (there_same ok, e) refl

    pub inputs_alike : input_refusal input ≡ input_refusal other
    inputs_alike =
        judged_by input
        ∙ rw (
          le-ltb input_most (length input) few,
          le-ltb input_most (length other) (omega (arith, few, R.rest.longer)),
          header_same input other R,
        ) (go (either (header_ok other)))
        ∙ sym (judged_by other)
      where
        go : (header_ok other ≡ true) ⊎ (header_ok other ≡ false)
            → cond (not (header_ok other)) 1 (cond (not (table_there input)) 2 (refusal (table_in input)))
            ≡ cond (not (header_ok other)) 1 (cond (not (table_there other)) 2 (refusal (table_in other)))
        go (inl e) = rw e (by_table e (either (table_there other)))
        go (inr e) = rw e refl
