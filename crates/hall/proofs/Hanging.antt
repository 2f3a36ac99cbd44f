-- The output by the first refusal that applies: of the input, then of the period; else the sheet.
use Prim.Native.Nat.{ℕ, ◌≤◌, ◌<◌}
use native.Mathlib.Decide.{ℕ_discrete}
use native.Mathlib.Omega.{arith}
use mathlib.Core.Bool.{true, false, not, cond}
use mathlib.Core.List.{List}
use mathlib.Core.Logic.{◌⊎◌, inl, inr}
use mathlib.Core.Path.{◌≡◌, refl, sym, ap, subst, subst₂, ◌∙◌}
use lib.Dec.{eqb}
use lib.ListN.{length, drop, length-drop}
use lib.Seq.{take_all}
use borrow.Author.Tests.{le-leb, lt-leb, le-ltb, ne_eqb, eqb-true, leb-false, not-false}
use Rattle.std.specs.Prelude.{Option, Some, None}
use Rattle.base.specs.Bytes.{part}
use Rattle.base.proofs.Truth.{either}
use Rattle.base.proofs.Refusals.{stop, pass, none_left, passed, none_holds, first_passed, first_given, first_small}
use Rattle.header.specs.Header.{head_of, periods_of}
use Rattle.header.specs.declared.Head.{Head}
use Rattle.ballot.specs.Table.{refusal}
use Rattle.rules.specs.Ideal.{has_board}
use Rattle.view.specs.Ready.{Ready}
use Rattle.text.specs.declared.Printer.{Printer}
use Rattle.text.specs.Wrote.{Put}
use Rattle.text.proofs.Puts.{renamed}
use Rattle.report.specs.Lines.{refused_line}
use Rattle.report.proofs.Sizes.{refused_most}
use Rattle.sheets.specs.Sheet.{sheet_most}
use Rattle.sheets.specs.Made.{sheet_of}
use Rattle.printing.specs.Board.{boards_on, published, board_texts}
use Rattle.printing.specs.Written.{sheet_for, Judged}
use Rattle.printing.proofs.Finding.{board_there, board_absent}
use Rattle.printing.proofs.Answering.{periods-read, is_made}
use Rattle.printing.specs.ReadsBack.{ReadsAs}
use Rattle.printing.proofs.ReadsBack.{Shows, reads_as, sheet_most_lem}
use Rattle.rehearsal.specs.Input.{input_most, table_in, input_refusals, input_refusal, step_count}
use Rattle.rehearsal.specs.Rehearsal.{last_state}
use Rattle.rehearsal.specs.Running.{Taken}
use Rattle.rehearsal.proofs.Taking.{taken}
use Rattle.rehearsal.proofs.States.{state_ready}
use Rattle.hall.specs.Hung.{period_asked, rehearsal_in, asked_refusals, period_refusals, hang_refusals, asked_answer, period_answer, hang_answer, shown, hung}

-- the rehearsal is all that follows the first byte
pub rest_of : (input : List ℕ) → part input 1 (length input) ≡ rehearsal_in input
unfolding part
rest_of input = take_all (length input) (drop 1 input) (omega (arith, length-drop 1 input))

-- the refusals of the input

module _ (input : List ℕ) where
  -- the rehearsal's own, where the input is not too long
  pub of_rehearsal : {r : ℕ} → length input ≤ input_most → r ≡ input_refusal (rehearsal_in input) → r ≡ asked_answer input
  unfolding asked_answer input_refusal
  of_rehearsal l is = pass 15 _ _ (sym (le-ltb _ _ l)) refl is

  -- none applies

  pub rehearsal_taken : asked_answer input ≡ 0 → Taken (rehearsal_in input)
  unfolding asked_answer input_refusal
  rehearsal_taken zero = taken (rehearsal_in input) (none_holds (input_refusals (rehearsal_in input)) (passed (asked_refusals input) zero).1)

  pub taken_of : {rest : List ℕ} → 0 ≡ asked_answer input → rest ≡ rehearsal_in input → Taken rest
  taken_of good cut = subst (λ l. Taken l) (sym cut) (rehearsal_taken (sym good))

-- the refusals of the period

module _ (table s : List ℕ) (p : ℕ) where
  pub name_first : periods_of table ≤ p → 6 ≡ period_answer table s p
  unfolding period_answer
  name_first l = stop 6 _ refl (le-leb _ _ l)

  module _ (named : p < periods_of table) where
    unknown_next : has_board (boards_on s) p ≡ false → 10 ≡ period_answer table s p
    unfolding period_answer
    unknown_next none = pass 6 10 _ refl (lt-leb _ _ named) (stop 10 _ refl (ap not none))

    pub none_applies : has_board (boards_on s) p ≡ true → 0 ≡ period_answer table s p
    unfolding period_answer
    none_applies there = pass 6 0 _ refl (lt-leb _ _ named) (pass 10 0 _ refl (ap not there) none_left)

-- a table that is taken and a state that is ready: the line of the first that applies, or the sheet

module _ (table s : List ℕ) (p : ℕ) {h : Head} (J : Judged table s h) where
  line_shown : {out is : Printer} {n : ℕ} → n ≡ period_answer table s p → (n ≡ 0 → ⊥) → Put out (refused_line n) is
      → Put out (shown table s p) is
  unfolding shown
  line_shown {n = n} answer bad w = renamed (rw (← answer, ne_eqb n 0 bad)) w

  pub no_period_lem : {out is : Printer} → h.periods ≤ p → Put out (refused_line 6) is → Put out (shown table s p) is
  no_period_lem l w = line_shown (name_first table s p (omega (arith, l, periods-read J))) (λ e. omega arith) w

  module _ (named : p < h.periods) {f : Option ℕ} (looked : f ≡ published (boards_on s) p) where
    in_range_lem : p < periods_of table
    in_range_lem = omega (arith, named, periods-read J)

    pub no_board_lem : {out is : Printer} → f ≡ None → Put out (refused_line 10) is → Put out (shown table s p) is
    no_board_lem none w = line_shown (unknown_next table s p in_range_lem (board_absent (boards_on s) p looked none)) (λ e. omega arith) w

    pub sheet_shown : {out is : Printer} {B : ℕ} → f ≡ Some B → Put out (sheet_of p (board_texts table B h.items)) is
        → Put out (shown table s p) is
    unfolding shown
    sheet_shown found w =
        let there = board_there (boards_on s) p looked found in
        renamed (is_made J p there.1 ∙ rw (← none_applies table s p in_range_lem there.0)) w

-- after the rehearsal's steps

module _ (input : List ℕ) {table s : List ℕ} where
  pub judged_then : {h : Head} → Taken input → table ≡ table_in input → s ≡ last_state input → h ≡ head_of table → Judged table s h
  unfolding last_state
  judged_then T cut now head = record {
    taken = ap refusal cut ∙ T.table;
    head = head;
    ready = subst₂ (λ g u. Ready g u) (sym (head ∙ ap head_of cut)) (sym now) (state_ready input T (step_count input));
  }

  pub shown_then : (p : ℕ) {out is : Printer} → table ≡ table_in input → s ≡ last_state input → Put out (shown table s p) is
      → Put out (shown (table_in input) (last_state input) p) is
  shown_then p cut now w = renamed (rw (cut, now)) w

-- the whole output

module _ (input : List ℕ) where
  abbrev table : List ℕ
  table = table_in (rehearsal_in input)

  abbrev last : List ℕ
  last = last_state (rehearsal_in input)

  abbrev p : ℕ
  p = period_asked input

  -- the input's refusals come first; where none applies, those of the period

  asked_first : (asked_answer input ≡ 0 → ⊥) → hang_answer input ≡ asked_answer input
  unfolding asked_answer hang_answer
  asked_first bad = first_given (asked_refusals input) (period_refusals table last p) bad

  pub period_next : asked_answer input ≡ 0 → hang_answer input ≡ period_answer table last p
  unfolding asked_answer hang_answer period_answer
  period_next good = first_passed (asked_refusals input) (period_refusals table last p) good

  line_hung : (asked_answer input ≡ 0 → ⊥) → refused_line (asked_answer input) ≡ hung input
  unfolding hung
  line_hung bad = rw (asked_first bad, ne_eqb _ 0 bad)

  shown-hung : asked_answer input ≡ 0 → shown table last p ≡ hung input
  unfolding hung shown
  shown-hung good = rw (period_next good)

  small : hang_answer input < 100
  unfolding hang_answer
  small = first_small (hang_refusals input)

  -- where none applies the output is the sheet, and reads as the period's board

  passing : hang_answer input ≡ 0 → (asked_answer input ≡ 0) × (period_answer table last p ≡ 0)
  passing zero = go (ℕ_discrete (asked_answer input) 0)
    where
      go : Dec (asked_answer input ≡ 0) → (asked_answer input ≡ 0) × (period_answer table last p ≡ 0)
      go (yes good) = (good, sym (period_next good) ∙ zero)
      go (no bad) = absurd (bad (sym (asked_first bad) ∙ zero))

  pub board_held : hang_answer input ≡ 0 → Shows table last p
  unfolding period_answer
  board_held zero =
      let both = passing zero in
      let period = passed (period_refusals table last p) both.1 in
      record {
        taken = (rehearsal_taken input both.0).table;
        named = leb-false _ _ period.0;
        there = not-false _ period.1.0;
      }

  pub input_taken : hang_answer input ≡ 0 → Taken (rehearsal_in input)
  input_taken zero = rehearsal_taken input (passing zero).0

  pub hung_reads : hang_answer input ≡ 0 → ReadsAs table last p (hung input)
  unfolding hung
  hung_reads zero = rw zero (reads_as table last p (board_held zero))

  -- no output is longer than a sheet
  pub hung_most : length (hung input) ≤ sheet_most
  unfolding hung
  hung_most = go (either (eqb (hang_answer input) 0)) (ℕ_discrete (asked_answer input) 0)
    where
      go : (eqb (hang_answer input) 0 ≡ true) ⊎ (eqb (hang_answer input) 0 ≡ false) → Dec (asked_answer input ≡ 0)
          → length (cond (eqb (hang_answer input) 0) (sheet_for table last p) (refused_line (hang_answer input))) ≤ sheet_most
      go (inl zero) (yes good) = rw zero (sheet_most_lem table last p (rehearsal_taken input good).table)
      go (inl zero) (no bad) = absurd (bad (sym (asked_first bad) ∙ eqb-true _ 0 zero))
      go (inr other) asked = rw other (omega (arith, refused_most (hang_answer input) small))

  -- what is written: the line of the refusal, or what is shown after the steps

  pub refused : {out is : Printer} {r : ℕ} → r ≡ asked_answer input → (r ≡ 0 → ⊥) → Put out (refused_line r) is → Put out (hung input) is
  refused judged bad w = renamed (ap refused_line judged ∙ line_hung (λ e. bad (judged ∙ e))) w

  pub hangs : {out is : Printer} {q : ℕ} {rest : List ℕ} → 0 ≡ asked_answer input → rest ≡ rehearsal_in input → q ≡ p
      → Put out (shown (table_in rest) (last_state rest) q) is → Put out (hung input) is
  hangs good cut asked w = renamed (rw (cut, asked) (shown-hung (sym good))) w

  -- its length, where it was written at the start of a buffer
  pub long : {q r : Printer} → q.at ≡ 0 → Put q (hung input) r → (r.at ≡ length (hung input)) × (r.at ≤ sheet_most)
  long {q} {r} from w =
      let place = w.wrote.place in
      (omega (arith, place, from, hung_most), omega (arith, place, from, hung_most))
