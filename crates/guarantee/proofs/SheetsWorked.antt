-- Case R by its run: the state at its end has the one board, and the rest is computed.
use Prim.Native.Nat.{ℕ, ◌<◌}
use native.Mathlib.Omega.{arith}
use mathlib.Core.Bool.{true}
use mathlib.Core.List.{List, [], ◌∷◌}
use mathlib.Core.Path.{◌≡◌, refl, sym, ap, ap₂, ◌∙◌}
use lib.ListN.{length}
use Rattle.std.specs.Prelude.{Ok, Err}
use Rattle.base.specs.Bits.{bit}
use Rattle.base.specs.Bytes.{number_at, part}
use Rattle.header.specs.Header.{header_size, field_of, head_of, periods_of}
use Rattle.ballot.specs.Table.{item_below}
use Rattle.rules.specs.Bag.{boards_in}
use Rattle.rules.specs.Ideal.{has_board}
use Rattle.valid.specs.StateOk.{state_ok}
use Rattle.valid.proofs.Ready.{ok_of_ready}
use Rattle.report.specs.Lines.{refused_line}
use Rattle.rehearsal.specs.Input.{table_in, step_count}
use Rattle.rehearsal.specs.Rehearsal.{last_state}
use Rattle.rehearsal.proofs.Taking.{taken}
use Rattle.rehearsal.proofs.States.{state_ready}
use Rattle.sheets.specs.Made.{pairs_from, joined, sheet_of}
use Rattle.sheets.specs.Cases.{sheet_r}
use Rattle.printing.specs.Board.{boards_on, first_board, board_texts}
use Rattle.printing.specs.Written.{sheet_for, write_answer, written}
use Rattle.printing.proofs.Answering.{room_given, none_given}
use Rattle.hall.specs.Hung.{period_answer, asked_answer, hang_answer, hung}
use Rattle.hall.proofs.Hanging.{of_rehearsal, period_next, name_first, none_applies}
use Rattle.edges.specs.Tables as tables
use Rattle.guarantee.specs.Demand3.{after_calls}
use Rattle.guarantee.specs.TotalsWorked.{input_r}
use Rattle.guarantee.specs.SheetsWorked.{SheetsWorked}
use Rattle.guarantee.proofs.Rehearsals.{shown}
use Rattle.guarantee.proofs.Worked.{bytes_meet, bytes_run}
use Rattle.guarantee.proofs.TotalsWorked.{input}

abbrev last : List ℕ
last = last_state input_r

-- the one board: of period 0, with item 0
boards : boards_on last ≡ (0, 1) ∷ []
boards =
    ap (λ s. boards_in s.bag) (shown input_r)
    ∙ ap₂ (λ (t : List ℕ) (list : List (List ℕ)). boards_in (after_calls t list).engine.bag) input.table input.steps
    ∙ bytes_run.case_r_lem.ends.published

has : has_board (boards_on last) 0 ≡ true
unfolding has_board
has = rw boards

-- its sheet
made : sheet_for tables.case_r last 0 ≡ sheet_r
unfolding sheet_for sheet_of pairs_from joined board_texts first_board bit item_below header_size field_of number_at part
made = rw boards

-- the writer, on the table and on this state

ready : state_ok (head_of tables.case_r) last ≡ true
unfolding last_state
ready =
    ap (λ (t : List ℕ). state_ok (head_of t) last) (sym input.table)
    ∙ ok_of_ready (head_of (table_in input_r)) last (state_ready input_r (taken input_r input.taken) (step_count input_r))

periods : periods_of tables.case_r ≡ 1
unfolding field_of
periods = refl

in_range_lem : 0 < periods_of tables.case_r
in_range_lem = omega (arith, periods)

fits : 0 ≡ write_answer tables.case_r last 0 11
fits = none_given tables.case_r last 0 11 input.case_r_taken_lem ready in_range_lem has (omega (arith, ap length made))

too_short : 16 ≡ write_answer tables.case_r last 0 10
too_short = room_given tables.case_r last 0 10 input.case_r_taken_lem ready in_range_lem has (omega (arith, ap length made))

writes : written tables.case_r last 0 11 ≡ Ok 11
unfolding written
writes = rw (← fits) (ap (λ (t : List ℕ). Ok (length t)) made)

short : written tables.case_r last 0 10 ≡ Err 16
unfolding written
short = rw (← too_short)

-- the program

module _ (p : ℕ) where
  asked : 0 ≡ asked_answer (p ∷ input_r)
  asked = of_rehearsal (p ∷ input_r) (omega arith) (sym input.taken)

  judged : hang_answer (p ∷ input_r) ≡ period_answer tables.case_r last p
  judged = period_next (p ∷ input_r) (sym asked) ∙ ap (λ (t : List ℕ). period_answer t last p) input.table

none-refused : hang_answer (0 ∷ input_r) ≡ 0
none-refused = judged 0 ∙ sym (none_applies tables.case_r last 0 in_range_lem has)

hangs : hung (0 ∷ input_r) ≡ sheet_r
unfolding hung
hangs = rw (none-refused) (ap (λ (t : List ℕ). sheet_for t last 0) input.table ∙ made)

no_period_lem : hung (1 ∷ input_r) ≡ refused_line 6
unfolding hung
no_period_lem = let answer = judged 1 ∙ sym (name_first tables.case_r last 1 (omega (arith, periods))) in rw answer

pub sheets_worked : SheetsWorked
sheets_worked = record {
  taken = none-refused;
  honest = bytes_meet.case_r_met.honest;
  hangs = hangs;
  no_period_lem = no_period_lem;
  writes = writes;
  short = short;
}
