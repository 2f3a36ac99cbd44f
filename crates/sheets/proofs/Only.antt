-- A sheet is what is made of its period and its texts: it is so up to each pair and up to each text, by one more at a time.
use Prim.Native.Nat.{ℕ, zero, suc, ◌+◌, ◌*◌, ◌/◌, ◌%◌, ◌≤◌, ◌<◌}
use native.Mathlib.Numerals.{add-one}
use native.Mathlib.Omega.{arith}
use mathlib.Core.Bool.{true}
use mathlib.Core.List.{List, [], ◌∷◌, ◌++◌, append_assoc, append-nil}
use mathlib.Core.Path.{◌≡◌, refl, sym, ap, ap₂, ◌∙◌}
use lib.ListN.{length, get_or, take, drop, length-append}
use lib.Seq.{take-add, take-length, drop-cons, drop-drop}
use borrow.Author.Tests.{eqb-true, leb-true}
use Rattle.base.specs.Bytes.{byte_at, part}
use Rattle.base.specs.Tab.{tab}
use Rattle.base.proofs.Truth.{and_l, and_r}
use Rattle.base.proofs.Tab.{length-tab, get_or-tab}
use Rattle.bits.specs.Row.{Bytes}
use Rattle.pairs.specs.Pairs.{pair_number, offset_of, size_of, first_offset, end_before, pairs_fit, last_end, pairs_ok}
use Rattle.pairs.proofs.Texts.{pair_number_lem, starts_at, text_length}
use Rattle.ballot.specs.declared.item.Audits.TheVariants.{Either}
use Rattle.ballot.proofs.Readings.{item_most, each_item}
use Rattle.sheets.specs.Sheet.{items_most, sheet_most, pairs_at, period_on, count_on, text_on, texts_on, sheet_ok}
use Rattle.sheets.specs.Made.{two_bytes, pair_bytes, pairs_from, joined, sheet_of}
use Rattle.sheets.specs.Only.{OnlySheet}
use Rattle.sheets.proofs.Passed.{passed}
use Rattle.sheets.proofs.Joined.{joined_more, pairs_more, joined_most}

-- the two bytes at i
two_at : (s : List ℕ) (i : ℕ) → i + 2 ≤ length s → take 2 (drop i s) ≡ byte_at s i ∷ byte_at s (i + 1) ∷ []
two_at s i l = rw (drop-cons s i 0 (omega arith), drop-cons s (suc i) 0 (omega arith), add-one)

-- they are those of the number that they give
two_back : (s : List ℕ) → Bytes s → (i : ℕ) → i + 2 ≤ length s → take 2 (drop i s) ≡ two_bytes (pair_number s i)
two_back s bytes i l =
    let number = pair_number_lem s i {high = byte_at s i} {low = byte_at s (i + 1)} refl refl in
    let high : byte_at s i ≡ pair_number s i / 256 % 256 = omega (arith, bytes i, bytes (i + 1)) in
    let low : byte_at s (i + 1) ≡ pair_number s i % 256 = omega (arith, bytes i, bytes (i + 1)) in
    two_at s i l ∙ ap₂ (λ (x y : ℕ). x ∷ y ∷ []) high low

pair_back : (s : List ℕ) → Bytes s → (i : ℕ) → i + 4 ≤ length s → take 4 (drop i s) ≡ pair_bytes (pair_number s i) (pair_number s (i + 2))
pair_back s bytes i l =
    take-add 2 2 (drop i s) ∙ ap₂ ◌++◌ (two_back s bytes i (omega arith)) (rw drop-drop (two_back s bytes (i + 2) (omega arith)))

module _ (s : List ℕ) (ok : sheet_ok s ≡ true) where
  abbrev first : ℕ
  first = first_offset pairs_at (count_on s)

  -- what the tests say

  few : count_on s ≤ items_most
  few = (passed s ok).count

  pairs_ok_lem : pairs_ok s pairs_at (count_on s) ≡ true
  pairs_ok_lem = (passed s ok).pairs

  fit : pairs_fit s pairs_at (count_on s) ≡ true
  unfolding pairs_ok
  fit = and_l _ _ pairs_ok_lem

  last : last_end s pairs_at (count_on s) ≡ length s
  unfolding pairs_ok
  last = eqb-true _ _ (and_r (pairs_fit s pairs_at (count_on s)) _ pairs_ok_lem)

  whole : first ≤ length s
  unfolding pairs_fit
  whole = leb-true first (length s) (and_l _ _ fit)

  -- what stands before text k ends where the texts before it do

  abbrev end : ℕ → ℕ
  end k = end_before s pairs_at (count_on s) k

  starts : (k : ℕ) → k < count_on s → offset_of s pairs_at k ≡ end k
  starts = starts_at s pairs_at (count_on s) fit

  sized : (k : ℕ) → k < count_on s → length (text_on s k) ≡ size_of s pairs_at k
  sized = text_length s pairs_at (count_on s) pairs_ok_lem

  ends : (k : ℕ) → k ≤ count_on s → end k ≡ first + length (joined (tab k (text_on s)))
  unfolding end_before joined tab
  ends zero l = omega arith
  ends (suc k) l =
      rw (joined_more k (text_on s), length-append) (omega (arith, starts k l, ends k (omega arith), sized k l))

  -- up to there stand the texts before it, after what stands before the first
  to_text : (k : ℕ) → k ≤ count_on s → take (end k) s ≡ take first s ++ joined (tab k (text_on s))
  unfolding end_before joined tab part
  to_text zero l = sym (append-nil (take first s))
  to_text (suc k) l =
      let before = ap (λ (e : ℕ). take e s) (starts k l) ∙ to_text k (omega arith) in
      rw (take-add (offset_of s pairs_at k), before, joined_more k (text_on s))
      (append_assoc (take first s) (joined (tab k (text_on s))) (text_on s k))

  short : (k : ℕ) → k < length (texts_on s) → length (get_or (texts_on s) k []) ≤ 37
  short k l =
      let below : k < count_on s = rw length-tab at l in
      rw (get_or-tab (count_on s) (text_on s) k [] below) (item_most _ (each_item Either s pairs_at (count_on s) (passed s ok).items k below))

  sheet_most_lem : length s ≤ sheet_most
  sheet_most_lem =
      let texts-most = joined_most (texts_on s) short in
      omega (arith, few, last, ends (count_on s) (omega arith), length-tab (count_on s) (text_on s))

  module _ (bytes : Bytes s) where
    -- up to the pair of text k stand period, count and the pairs before it
    to_pair : (k : ℕ) → k ≤ count_on s → take (pairs_at + 4 * k) s ≡ period_on s ∷ count_on s ∷ pairs_from first (tab k (text_on s))
    unfolding pairs_from tab
    to_pair zero l = two_at s 0 (omega (arith, whole))
    to_pair (suc k) l =
        let i = pairs_at + 4 * k in
        let next : pairs_at + 4 * suc k ≡ i + 4 = omega arith in
        let offset = starts k l ∙ ends k (omega arith) in
        let pair = pair_back s bytes i (omega (arith, whole)) in
        rw (next, take-add i 4 s, to_pair k (omega arith), pairs_more first k (text_on s), sized k l, ← offset, pair)

    sheet_made : s ≡ sheet_of (period_on s) (texts_on s)
    unfolding sheet_of
    sheet_made =
        let all = sym (take-length s) ∙ ap (λ (e : ℕ). take e s) (sym last) ∙ to_text (count_on s) (omega arith) in
        all ∙ rw (length-tab (count_on s) (text_on s), to_pair (count_on s) (omega arith))

pub only_sheet : OnlySheet
only_sheet = record {
  only = λ a b bytes-a bytes-b ok-a ok-b period texts.
      sheet_made a ok-a bytes-a ∙ ap₂ sheet_of period texts ∙ sym (sheet_made b ok-b bytes-b);
  made = λ s bytes ok. sheet_made s ok bytes;
  most = sheet_most_lem;
}
