-- Demand 3 makes the boards that are held the ideal board's, and the sheet reads as the period's board.
use Prim.Native.Nat.{ℕ, ◌≤◌, ◌<◌}
use mathlib.Core.Bool.{Bool, true, false, cond, ◌||◌, ◌&&◌}
use mathlib.Core.List.{List, [], ◌∷◌}
use mathlib.Core.Path.{◌≡◌, refl, sym, ap, ◌∙◌}
use lib.Dec.{eqb}
use Rattle.base.proofs.Truth.{false_true, or_r, eqb_self, eqb_sym}
use Rattle.header.specs.Header.{head_of, threshold_of, items_of}
use Rattle.header.specs.Quorum.{honest_weight}
use Rattle.rules.specs.Bag.{boards_in}
use Rattle.rules.specs.Ideal.{is_there, has_board, on_board}
use Rattle.state.specs.Contents.{contents}
use Rattle.view.specs.View.{state_of}
use Rattle.clash.specs.Clash.{clash_in}
use Rattle.rehearsal.specs.Input.{table_in, step_count}
use Rattle.rehearsal.specs.Rehearsal.{last_state}
use Rattle.rehearsal.specs.Running.{Taken}
use Rattle.rehearsal.proofs.States.{state_ready}
use Rattle.printing.specs.Board.{boards_on, first_board}
use Rattle.printing.specs.ReadsBack.{OnSheet, ReadsAs}
use Rattle.printing.proofs.ReadsBack.{on_first}
use Rattle.hall.specs.Hung.{period_asked, rehearsal_in, hang_answer, hung}
use Rattle.hall.proofs.Hanging.{board_held, input_taken, hung_reads}
use Rattle.guarantee.specs.Rehearsed.{calls_in, ShownSafe}
use Rattle.guarantee.specs.Sheets.{ideal_of, HungTrue}
use Rattle.guarantee.proofs.Demand3.{demand_3_on_bytes}
use Rattle.guarantee.proofs.Rehearsals.{shown}

-- the first board of a period is there
first_there : (boards : List (ℕ × ℕ)) (p : ℕ) → has_board boards p ≡ true → is_there boards p (first_board boards p) ≡ true
unfolding has_board is_there first_board
first_there [] p has = false_true has
first_there (b ∷ boards) p has = go (eqb b.0 p) refl has (first_there boards p)
  where
    go : (is : Bool) → eqb b.0 p ≡ is → is || has_board boards p ≡ true
        → (has_board boards p ≡ true → is_there boards p (first_board boards p) ≡ true)
        → ((eqb p b.0 && eqb (cond is b.1 (first_board boards p)) b.1)
        || is_there boards p (cond is b.1 (first_board boards p))) ≡ true
    go true e t later = rw (eqb_sym p b.0, e, eqb_self b.1)
    go false e t later = or_r (eqb p b.0 && eqb (first_board boards p) b.1) _ (later t)

module _ (program : List ℕ) (zero : hang_answer program ≡ 0)
    (enough : threshold_of (table_in (rehearsal_in program)) ≤ honest_weight (head_of (table_in (rehearsal_in program)))) where
  abbrev input : List ℕ
  input = rehearsal_in program

  abbrev table : List ℕ
  table = table_in input

  abbrev p : ℕ
  p = period_asked program

  taken : Taken input
  taken = input_taken program zero

  safe : ShownSafe input
  safe = record { shown = shown input; safe = demand_3_on_bytes table (record { taken = taken.table; honest = enough }) (calls_in input) }

  -- the boards and receipts held at the end are the ideal board's

  boards : boards_on (last_state input) ≡ (ideal_of input).boards
  boards = ap (λ s. boards_in s.bag) safe.shown ∙ safe.safe.now.boards

  receipts : (state_of (contents (last_state input))).receipted ≡ (ideal_of input).receipts
  receipts = ap (λ s. s.receipted) safe.shown ∙ safe.safe.now.receipts

  reads : ReadsAs table (last_state input) p (hung program)
  reads = hung_reads program zero

  on_sheet : (x : ℕ) → x < items_of table → on_board (ideal_of input).boards p x ≡ true → OnSheet table (hung program) x
  on_sheet x l on = reads.on x l (ap (λ b. on_board b p x) boards ∙ on)

  -- a receipt is of an item of the table, since the state is ready
  in_table : (x : ℕ) → (ideal_of input).receipts p x ≡ true → x < items_of table
  unfolding last_state
  in_table x held =
      let R = state_ready input taken (step_count input) in
      ((R.good (clash_in table)).valid.sets.receipts p x (ap (λ S. S p x) receipts ∙ held)).1

  receipted : (x : ℕ) → (ideal_of input).receipts p x ≡ true → OnSheet table (hung program) x
  receipted x held =
      let has = ap (λ b. has_board b p) (sym boards) ∙ (board_held program zero).there in
      let first = first_there (ideal_of input).boards p has in
      let bit-on = safe.safe.now.on_board_lem p x (first_board (ideal_of input).boards p) held first in
      on_sheet x (in_table x held) (on_first (ideal_of input).boards p x has ∙ bit-on)

  pub hung_true : HungTrue program
  hung_true = record {
    ok = reads.ok;
    period = reads.period_on_lem;
    on = on_sheet;
    only = λ x l at. ap (λ b. on_board b p x) (sym boards) ∙ reads.only x l at;
    receipted = receipted;
  }
