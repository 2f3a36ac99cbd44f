-- Where the writer answers 0 every refusal was passed: the table is sound, so the board's texts are such as a sheet has,
-- and what is made of them reads as them.
use Prim.Native.Nat.{ℕ, ◌+◌, ◌≤◌, ◌<◌}
use native.Mathlib.Decide.{ℕ_discrete}
use native.Mathlib.Omega.{arith}
use mathlib.Core.Bool.{Bool, true, false, not, cond, ◌||◌}
use mathlib.Core.List.{List, [], ◌∷◌, ◌++◌}
use mathlib.Core.Logic.{◌⊎◌, inl, inr}
use mathlib.Core.Path.{◌≡◌, refl, sym, ap, ◌∙◌}
use lib.Dec.{eqb, leb}
use lib.ListN.{length, take, drop, get_or}
use lib.Seq.{sets-eq, take_at, drop_at}
use borrow.Author.Tests.{eqb-true, leb-false, ltb-false, le-ltb, not-false}
use Rattle.std.specs.Prelude.{Result, Ok, Err}
use Rattle.base.specs.Bits.{bit}
use Rattle.base.specs.Refusals.{numbered, first}
use Rattle.base.specs.Sums.{how_many}
use Rattle.base.proofs.Truth.{either, false_true}
use Rattle.base.proofs.Refusals.{passed, first_passed, first_given}
use Rattle.base.proofs.Tab.{get_or-tab}
use Rattle.base.proofs.Sums.{how_many_ext}
use Rattle.header.specs.Header.{head_of, periods_of, items_of, header_ok}
use Rattle.ballot.specs.Table.{table_pairs_ok, items_ok, no_twins, table_refusals, refusal}
use Rattle.ballot.proofs.Sound.{sound}
use Rattle.rules.specs.Ideal.{has_board, on_board}
use Rattle.valid.specs.StateOk.{state_ok}
use Rattle.text.specs.Wrote.{over}
use Rattle.sheets.specs.Sheet.{sheet_most, count_on, text_on}
use Rattle.sheets.specs.ReadBack.{Reads}
use Rattle.sheets.proofs.Exact.{reader_exact}
use Rattle.sheets.proofs.ReadBack.{reads, made_most}
use Rattle.printing.specs.Board.{boards_on, first_board, board_texts}
use Rattle.printing.specs.Written.{sheet_for, board_refusals, write_answer, written, sheet_left}
use Rattle.printing.specs.ReadsBack.{OnSheet, ReadsAs, WroteBoard, ReadsBack}
use Rattle.printing.proofs.Chosen.{as_many, source, place, listed}

-- the ideal board's word for an item on the period's board is the first board's bit
pub on_first : (boards : List (ℕ × ℕ)) (p x : ℕ) → has_board boards p ≡ true → on_board boards p x ≡ bit (first_board boards p) x
unfolding has_board on_board first_board
on_first [] p x there = false_true there
on_first (b ∷ boards) p x there = go (eqb b.0 p) there (on_first boards p x)
  where
    go : (is : Bool) → is || has_board boards p ≡ true → (has_board boards p ≡ true → on_board boards p x ≡ bit (first_board boards p) x)
        → cond is (bit b.1 x) (on_board boards p x) ≡ bit (cond is b.1 (first_board boards p)) x
    go true t later = refl
    go false t later = later t

-- a written sheet stands at the start of the buffer, and after it what stood there

module _ (buffer text : List ℕ) (fits : length text ≤ length buffer) where
  put_over : over buffer 0 text ≡ text ++ drop (length text) buffer
  unfolding over
  put_over =
      let from_start : 0 + length text ≡ length text = omega arith in
      sets-eq text buffer 0 (omega arith) ∙ ap (λ (n : ℕ). text ++ drop n buffer) from_start

  at-start : take (length text) (over buffer 0 text) ≡ text
  at-start = rw put_over (take_at text _ (length text) refl)

  after_it : drop (length text) (over buffer 0 text) ≡ drop (length text) buffer
  after_it = rw put_over (drop_at text _ (length text) refl)

-- a table that is taken and has the period, and a state in which the period has a board
pub record Shows (table s : List ℕ) (p : ℕ) : Type 0 where
  pub taken : refusal table ≡ 0
  pub named : p < periods_of table
  pub there : has_board (boards_on s) p ≡ true

module _ (table s : List ℕ) (p : ℕ) where
  -- where the answer is 0 it is so, and there is room for the sheet
  passing : (room : ℕ) → write_answer table s p room ≡ 0 → Shows table s p × (length (sheet_for table s p) ≤ room)
  unfolding write_answer refusal
  passing room e = go (ℕ_discrete (refusal table) 0)
    where
      go : Dec (refusal table ≡ 0) → Shows table s p × (length (sheet_for table s p) ≤ room)
      go (yes taken) =
          let past_table = first_passed (table_refusals table) (board_refusals table s p room) taken in
          let rest = passed (board_refusals table s p room) (sym past_table ∙ e) in
          let board : Shows table s p = record { taken = taken; named = leb-false _ _ rest.1.0; there = not-false _ rest.1.1.0 } in
          (board, ltb-false _ _ rest.1.1.1.0)
      go (no bad) = absurd (bad (sym (first_given (table_refusals table) (board_refusals table s p room) bad) ∙ e))

  -- what is read of the sheet

  module _ (P : Shows table s p) where
    abbrev B : ℕ
    B = first_board (boards_on s) p

    abbrev m : ℕ
    m = items_of table

    made : Reads p (board_texts table B m) (sheet_for table s p)
    unfolding sheet_for
    made =
        let periods = (sound table P.taken).periods_most_lem in
        reads p (board_texts table B m) (omega (arith, periods, P.named)) (listed table B P.taken)

    text_read : (k : ℕ) → k < length (board_texts table B m) → text_on (sheet_for table s p) k ≡ get_or (board_texts table B m) k []
    text_read k l =
        let sheet = sheet_for table s p in
        sym (get_or-tab (count_on sheet) (text_on sheet) k [] (omega (arith, l, made.count_on_lem)))
        ∙ ap (λ (t : List (List ℕ)). get_or t k []) made.texts_on_lem

    on : (x : ℕ) → x < m → on_board (boards_on s) p x ≡ true → OnSheet table (sheet_for table s p) x
    on x l is =
        let at = place table B m x l (sym (on_first (boards_on s) p x P.there) ∙ is) in
        record {
          number = at.number;
          below = omega (arith, at.below, made.count_on_lem);
          text = text_read at.number at.below ∙ at.text;
        }

    only : (x : ℕ) → x < m → OnSheet table (sheet_for table s p) x → on_board (boards_on s) p x ≡ true
    only x l at =
        let there : at.number < length (board_texts table B m) = omega (arith, at.below, made.count_on_lem) in
        let from = source table B m at.number there in
        let one = sym from.text ∙ sym (text_read at.number there) ∙ at.text in
        let same = (sound table P.taken).no_twins_lem from.item x from.below l one in
        on_first (boards_on s) p x P.there ∙ rw (← same) from.on

    counted : count_on (sheet_for table s p) ≡ how_many m (on_board (boards_on s) p)
    counted =
        made.count_on_lem ∙ as_many table B m
        ∙ how_many_ext m (bit B) (on_board (boards_on s) p) (λ x l. sym (on_first (boards_on s) p x P.there))

    pub reads_as : ReadsAs table s p (sheet_for table s p)
    reads_as = record {
      ok = made.ok;
      period_on_lem = made.period_on_lem;
      count = counted;
      texts = made.texts_on_lem;
      handed = λ k l. (reader_exact.sheet _ made.ok).text k l;
      on = on;
      only = only;
    }

  -- an answer that is a length is 0, and the length is the sheet's
  answered : (room n : ℕ) → written table s p room ≡ Ok n → (write_answer table s p room ≡ 0) × (n ≡ length (sheet_for table s p))
  unfolding written
  answered room n is = go (either (eqb (write_answer table s p room) 0))
    where
      go : (eqb (write_answer table s p room) 0 ≡ true) ⊎ (eqb (write_answer table s p room) 0 ≡ false)
          → (write_answer table s p room ≡ 0) × (n ≡ length (sheet_for table s p))
      go (inl zero) = let long : Ok (length (sheet_for table s p)) ≡ Ok n = rw zero at is in (eqb-true _ 0 zero, cc)
      go (inr other) =
          let never : Err (write_answer table s p room) ≡ Ok n = rw other at is in
          let zero_one : ◌≡◌ {A = ℕ} 0 1 = cc in absurd (omega arith)

  writes : (buffer : List ℕ) (n : ℕ) → written table s p (length buffer) ≡ Ok n
      → WroteBoard table s p buffer (sheet_left table s p buffer) n
  unfolding sheet_left
  writes buffer n is =
      let answer = answered (length buffer) n is in
      let P = passing (length buffer) answer.0 in
      let sheet = sheet_for table s p in
      rw (answer.0, answer.1) (record {
        reads = rw (at-start buffer sheet P.1) (reads_as P.0);
        kept = after_it buffer sheet P.1;
      })

-- the sheet of a table that is taken is no longer than any
pub sheet_most_lem : (table s : List ℕ) (p : ℕ) → refusal table ≡ 0 → length (sheet_for table s p) ≤ sheet_most
unfolding sheet_for
sheet_most_lem table s p taken =
    let texts = board_texts table (first_board (boards_on s) p) (items_of table) in
    made_most p texts (listed table (first_board (boards_on s) p) taken)

-- a buffer with room for every sheet: of the refusals only the last has the number 16, and its test fails

module _ (table s : List ℕ) (p room : ℕ) (enough : sheet_most ≤ room) where
  of-table : refusal table ≡ 16 → ⊥
  unfolding refusal first
  of-table e =
      go (not (header_ok table)) (not (table_pairs_ok table)) (not (items_ok table)) (not (no_twins table)) e
    where
      go : (a b c d : Bool) → ◌≡◌ {A = ℕ} (cond a 1 (cond b 2 (cond c 3 (cond d 4 0)))) 16 → ⊥
      go true b c d e = omega arith
      go false true c d e = omega arith
      go false false true d e = omega arith
      go false false false true e = omega arith
      go false false false false e = omega arith

  of-board : length (sheet_for table s p) ≤ room → first (numbered (board_refusals table s p room)) ≡ 16 → ⊥
  unfolding first
  of-board fits e =
      go (not (state_ok (head_of table) s)) (leb (periods_of table) p) (not (has_board (boards_on s) p)) (rw (le-ltb _ _ fits) at e)
    where
      go : (a b c : Bool) → ◌≡◌ {A = ℕ} (cond a 14 (cond b 6 (cond c 10 0))) 16 → ⊥
      go true b c e = omega arith
      go false true c e = omega arith
      go false false true e = omega arith
      go false false false e = omega arith

  never_short : write_answer table s p room ≡ 16 → ⊥
  unfolding write_answer refusal
  never_short e = go (ℕ_discrete (refusal table) 0)
    where
      go : Dec (refusal table ≡ 0) → ⊥
      go (yes taken) =
          let fits : length (sheet_for table s p) ≤ room = omega (arith, enough, sheet_most_lem table s p taken) in
          of-board fits (sym (first_passed (table_refusals table) (board_refusals table s p room) taken) ∙ e)
      go (no bad) = of-table (sym (first_given (table_refusals table) (board_refusals table s p room) bad) ∙ e)

  never_refused : written table s p room ≡ Err 16 → ⊥
  unfolding written
  never_refused is = go (either (eqb (write_answer table s p room) 0))
    where
      go : (eqb (write_answer table s p room) 0 ≡ true) ⊎ (eqb (write_answer table s p room) 0 ≡ false) → ⊥
      go (inl zero) = let never : ◌≡◌ {A = Result ℕ ℕ} (Ok (length (sheet_for table s p))) (Err 16) = rw zero at is in cc
      go (inr other) = let same : ◌≡◌ {A = Result ℕ ℕ} (Err (write_answer table s p room)) (Err 16) = rw other at is in never_short (cc)

pub reads_back : ReadsBack
reads_back = record { writes = writes; room = never_refused }
