-- What the writer of a sheet answers, and what it leaves in the buffer.
use Rattle.std.specs.Prelude.{Result, Ok, Err, ℕ, not, cond, List, [], ◌∷◌, ◌++◌, ◌≡◌, eqb, leb, ltb, length}
use Rattle.base.specs.Refusals.{Refusals, state, name, unknown, sheet, number_of, numbered, first}
use Rattle.base.specs.declared.refusal.Refusal.{Refusal}
use Rattle.header.specs.Header.{head_of, periods_of, items_of}
use Rattle.header.specs.declared.Head.{Head}
use Rattle.ballot.specs.Table.{table_refusals, refusal}
use Rattle.rules.specs.Ideal.{has_board}
use Rattle.view.specs.Ready.{Ready}
use Rattle.valid.specs.StateOk.{state_ok}
use Rattle.text.specs.Wrote.{over}
use Rattle.sheets.specs.Made.{sheet_of}
use Rattle.printing.specs.Board.{boards_on, first_board, board_texts}

module _ (table s : List ℕ) (period : ℕ) where
  -- the sheet of the period's board: its items in table order
  unfoldable pub sheet_for : List ℕ
  sheet_for = sheet_of period (board_texts table (first_board (boards_on s) period) (items_of table))

  -- the writer's refusals, in the order in which they are judged: the table's, 1 to 4; then 14, 6 for a period of P or
  -- above, 10 where the period has no board, and 16 where the room is too short

  abbrev pub board_refusals : ℕ → Refusals
  board_refusals room =
      (state, not (state_ok (head_of table) s))
      ∷ (name, leb (periods_of table) period)
      ∷ (unknown, not (has_board (boards_on s) period))
      ∷ (sheet, ltb room (length sheet_for))
      ∷ []

  abbrev pub write_refusals : ℕ → Refusals
  write_refusals room = table_refusals table ++ board_refusals room

  -- the first that applies, and 0 where none does
  unfoldable pub write_answer : ℕ → ℕ
  write_answer room = first (numbered (write_refusals room))

  -- what is answered: the sheet's length, or the refusal's number
  unfoldable pub written : ℕ → Result ℕ ℕ
  written room = cond (eqb (write_answer room) 0) (Ok (length sheet_for)) (Err (write_answer room))

  -- the buffer: its old bytes with the sheet over their start; a refused call alters nothing
  unfoldable pub sheet_left : List ℕ → List ℕ
  sheet_left buffer = cond (eqb (write_answer (length buffer)) 0) (over buffer 0 sheet_for) buffer

-- a table that is taken, its header, and a state of it that is ready: nothing of them is judged again
pub record Judged (table s : List ℕ) (h : Head) : Type 0 where
  pub taken : refusal table ≡ 0
  pub head : h ≡ head_of table
  pub ready : Ready h s

-- the number on the report of an answer
abbrev pub written_number : Result ℕ ℕ → ℕ
written_number (Ok n) = 0
written_number (Err r) = r

-- the length that is answered; a refusal leaves the one that was there
abbrev pub written_length : ℕ → Result ℕ ℕ → ℕ
written_length old (Ok n) = n
written_length old (Err r) = old

-- an answer with the number of its refusal
abbrev pub in_numbers : Result ℕ Refusal → Result ℕ ℕ
in_numbers (Ok n) = Ok n
in_numbers (Err r) = Err (number_of r)
