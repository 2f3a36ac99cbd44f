-- Every board written reads as that board.
use Rattle.std.specs.Prelude.{Ok, Err, ℕ, ◌≤◌, ◌<◌, true, List, ◌≡◌, length, take, drop}
use Rattle.base.specs.Sums.{how_many}
use Rattle.ballot.specs.Table.{item_text}
use Rattle.header.specs.Header.{items_of}
use Rattle.rules.specs.Ideal.{on_board}
use Rattle.sheets.specs.Sheet.{sheet_most, period_on, count_on, text_on, texts_on, sheet_ok}
use Rattle.sheets.specs.Found.{handed_out}
use Rattle.printing.specs.Board.{boards_on, first_board, board_texts}
use Rattle.printing.specs.Written.{written, sheet_left}

-- the item x of the table is among the items of the sheet
pub record OnSheet (table sheet : List ℕ) (x : ℕ) : Type 0 where
  pub number : ℕ
  pub below : number < count_on sheet
  pub text : text_on sheet number ≡ item_text table x

-- the sheet is that of the period's board
pub record ReadsAs (table s : List ℕ) (period : ℕ) (sheet : List ℕ) : Type 0 where
  pub ok : sheet_ok sheet ≡ true
  pub period_on_lem : period_on sheet ≡ period
  -- it has as many items as the board
  pub count : count_on sheet ≡ how_many (items_of table) (on_board (boards_on s) period)
  -- their texts are the table's texts of the board's items, in rising number
  pub texts : texts_on sheet ≡ board_texts table (first_board (boards_on s) period) (items_of table)
  -- and the reader hands out each of them
  pub handed : (k : ℕ) → k < count_on sheet → handed_out sheet k ≡ text_on sheet k
  -- an item of the table is on the board exactly if it is on the sheet
  pub on : (x : ℕ) → x < items_of table → on_board (boards_on s) period x ≡ true → OnSheet table sheet x
  pub only : (x : ℕ) → x < items_of table → OnSheet table sheet x → on_board (boards_on s) period x ≡ true

-- what a writer that answered the length n has left in the buffer: the sheet, and then the bytes that were there
pub record WroteBoard (table s : List ℕ) (period : ℕ) (was is : List ℕ) (n : ℕ) : Type 0 where
  pub reads : ReadsAs table s period (take n is)
  pub kept : drop n is ≡ drop n was

-- for every table, state, period and buffer
pub record ReadsBack : Type 0 where
  pub writes : (table s : List ℕ) (period : ℕ) (buffer : List ℕ) (n : ℕ)
      → written table s period (length buffer) ≡ Ok n
      → WroteBoard table s period buffer (sheet_left table s period buffer) n
  -- a buffer with room for every sheet never gets 16
  pub room : (table s : List ℕ) (period room : ℕ) → sheet_most ≤ room → written table s period room ≡ Err 16 → ⊥
