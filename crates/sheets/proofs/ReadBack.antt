-- Each pair and each text of what is made is found where it was put, since the length of all that stands before it is known.
use Prim.Native.Nat.{ℕ, zero, suc, ◌+◌, ◌*◌, ◌/◌, ◌%◌, ◌≤◌, ◌<◌}
use native.Mathlib.Omega.{arith}
use mathlib.Core.Bool.{true}
use mathlib.Core.List.{List, [], ◌∷◌, ◌++◌, append_assoc, append-nil}
use mathlib.Core.Path.{◌≡◌, refl, sym, ap, ◌∙◌}
use lib.ListN.{length, get_or, take, drop, length-append}
use lib.Seq.{length-take-le, take-suc, take-length, split_at, get_or-append-add, get_or_at, take_at, drop_at}
use borrow.Author.Tests.{le-leb, lt-ltb, eq-eqb}
use Rattle.base.specs.Bytes.{byte_at, part}
use Rattle.base.proofs.Truth.{and_i}
use Rattle.base.proofs.Below.{every_of}
use Rattle.base.proofs.Tab.{tab_ext, tab-get_or}
use Rattle.pairs.specs.Pairs.{pair_number, offset_of, size_of, first_offset, end_before, starts_at_end, last_end, pairs_ok}
use Rattle.pairs.proofs.Texts.{pair_number_lem, pairs_whole}
use Rattle.twins.specs.Twins.{twinless}
use Rattle.twins.proofs.Apart.{all_apart}
use Rattle.ballot.specs.declared.item.Audits.TheVariants.{Either}
use Rattle.ballot.specs.Item.{all_items}
use Rattle.ballot.proofs.Readings.{item_most, all_read}
use Rattle.sheets.specs.Sheet.{periods_most, sheet_most, pairs_at, text_on, texts_on, sheet_ok}
use Rattle.sheets.specs.Made.{two_bytes, pairs_from, joined, sheet_of}
use Rattle.sheets.specs.ReadBack.{Listed, Reads}
use Rattle.sheets.proofs.Joined.{joined-append, pairs-append, pairs-length, sheet_length, joined_most}

-- two bytes that stand after others give their number back
number_after : (before rest : List ℕ) (v i : ℕ) → v < 65536 → length before ≡ i → pair_number (before ++ (two_bytes v ++ rest)) i ≡ v
number_after before rest v i small long =
    let s = before ++ (two_bytes v ++ rest) in
    let high : v / 256 % 256 ≡ byte_at s i = sym (get_or_at before (v / 256 % 256) (v % 256 ∷ rest) 0 i long) in
    let low : v % 256 ≡ byte_at s (i + 1) = rw (← long) (sym (get_or-append-add before (two_bytes v ++ rest) 1 0)) in
    sym (pair_number_lem s i high low) ∙ omega arith

-- what is made of listed texts is no longer than any sheet
pub made_most : (p : ℕ) (texts : List (List ℕ)) → Listed texts → length (sheet_of p texts) ≤ sheet_most
made_most p texts listed =
    omega (arith, sheet_length p texts, joined_most texts (λ k l. item_most _ (listed.items k l)), listed.few)

module _ (p : ℕ) (texts : List (List ℕ)) (small : p < periods_most) (listed : Listed texts) where
  abbrev sheet : List ℕ
  sheet = sheet_of p texts

  abbrev first : ℕ
  first = first_offset pairs_at (length texts)

  -- text k, which starts where those before it end

  module _ (k : ℕ) (l : k < length texts) where
    abbrev before : List (List ℕ)
    before = take k texts

    abbrev text : List ℕ
    text = get_or texts k []

    abbrev after : List (List ℕ)
    after = drop (suc k) texts

    abbrev start : ℕ
    start = first + length (joined before)

    -- the sheet, cut before its pair and before the text

    abbrev to_pair : List ℕ
    to_pair = p ∷ length texts ∷ pairs_from first before

    abbrev past_pair : List ℕ
    past_pair = pairs_from (start + length text) after ++ joined texts

    cut_pair : sheet ≡ to_pair ++ (two_bytes start ++ (two_bytes (length text) ++ past_pair))
    unfolding sheet_of pairs_from
    cut_pair =
        let cut = ap (pairs_from first) (split_at texts k [] l) ∙ pairs-append first before (text ∷ after) in
        rw cut (ap (λ (r : List ℕ). p ∷ length texts ∷ r) (append_assoc (pairs_from first before) _ (joined texts)))

    abbrev to_text : List ℕ
    to_text = p ∷ length texts ∷ (pairs_from first texts ++ joined before)

    cut_text : sheet ≡ to_text ++ (text ++ joined after)
    unfolding sheet_of joined
    cut_text =
        let cut = ap joined (split_at texts k [] l) ∙ joined-append before (text ∷ after) in
        rw cut (ap (λ (r : List ℕ). p ∷ length texts ∷ r) (sym (append_assoc (pairs_from first texts) (joined before) _)))

    to_pair_length : length to_pair ≡ pairs_at + 4 * k
    to_pair_length = omega (arith, pairs-length first before, length-take-le k texts (omega arith))

    to_text_length : length to_text ≡ start
    to_text_length = omega (arith, length-append (pairs_from first texts) (joined before), pairs-length first texts)

    fits : start + length text < 65536
    fits =
        let whole = ap length cut_text ∙ length-append to_text (text ++ joined after) in
        omega (arith, made_most p texts listed, to_text_length, length-append text (joined after))

    offset_on : offset_of sheet pairs_at k ≡ start
    offset_on = rw cut_pair (number_after to_pair (two_bytes (length text) ++ past_pair) start _ (omega (arith, fits)) to_pair_length)

    size_on : size_of sheet pairs_at k ≡ length text
    size_on =
        let to-size = to_pair ++ two_bytes start in
        let long : length to-size ≡ pairs_at + 4 * k + 2 = omega (arith, length-append to_pair (two_bytes start), to_pair_length) in
        rw (cut_pair, ← append_assoc to_pair) (number_after to-size past_pair (length text) _ (omega (arith, fits)) long)

    text_on_lem : text_on sheet k ≡ text
    unfolding part
    text_on_lem =
        let from-text = drop_at to_text (text ++ joined after) start to_text_length in
        rw (offset_on, size_on, cut_text, from-text) (take_at text (joined after) (length text) refl)

  -- the tests of a sheet

  end_on : (k : ℕ) → k ≤ length texts → end_before sheet pairs_at (length texts) k ≡ first + length (joined (take k texts))
  unfolding end_before joined
  end_on zero l = omega arith
  end_on (suc k) l =
      let more = ap joined (take-suc texts k [] l) ∙ joined-append (before k l) (text k l ∷ []) in
      rw (more, append-nil, length-append) (omega (arith, offset_on k l, size_on k l))

  pairs_ok_lem : pairs_ok sheet pairs_at (length texts) ≡ true
  unfolding pairs_ok starts_at_end
  pairs_ok_lem =
      let starts = every_of (length texts) (starts_at_end sheet pairs_at (length texts)) (λ k l.
      eq-eqb _ _ (offset_on k l ∙ sym (end_on k (omega arith)))) in
      let fit = sym (pairs_whole sheet pairs_at (length texts) (omega (arith, sheet_length p texts)) (sym starts)) in
      let last : last_end sheet pairs_at (length texts) ≡ length sheet =
      rw (end_on (length texts) (omega arith), take-length texts) (sym (sheet_length p texts)) in
      and_i _ _ fit (eq-eqb _ _ last)

  items_ok_lem : all_items Either sheet pairs_at (length texts) ≡ true
  items_ok_lem = all_read Either sheet pairs_at (length texts) (λ k l. rw (text_on_lem k l) (listed.items k l))

  apart_ok : twinless sheet pairs_at (length texts) ≡ true
  apart_ok = all_apart sheet pairs_at (length texts) (λ i j i-first l same.
      listed.apart i j i-first l (sym (text_on_lem i (omega arith)) ∙ same ∙ text_on_lem j l))

  all_ok : sheet_ok sheet ≡ true
  unfolding sheet_ok sheet_of
  all_ok =
      let long = le-leb pairs_at (length sheet) (omega arith) in
      let rest = and_i _ _ pairs_ok_lem (and_i _ _ items_ok_lem apart_ok) in
      and_i _ _ long (and_i _ _ (lt-ltb _ _ small) (and_i _ _ (le-leb _ _ listed.few) rest))

  all_texts : texts_on sheet ≡ texts
  unfolding sheet_of
  all_texts = tab_ext (length texts) (text_on sheet) (λ k. get_or texts k []) text_on_lem ∙ tab-get_or texts []

  pub reads : Reads p texts (sheet_of p texts)
  unfolding sheet_of
  reads = record { ok = all_ok; period_on_lem = refl; count_on_lem = refl; texts_on_lem = all_texts }
