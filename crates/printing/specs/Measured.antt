-- How many items of a board there are, and how many bytes their texts have.
use Rattle.std.specs.Prelude.{Result, Ok, Err, ℕ, ◌*◌, ◌≤◌, cond, List, [], ◌≡◌, ltb, length}
use Rattle.base.specs.Bits.{bit}
use Rattle.ballot.specs.Table.{item_text}
use Rattle.text.specs.Wrote.{over}
use Rattle.sheets.specs.Made.{pair_bytes, joined}
use Rattle.printing.specs.Board.{board_texts}
use Rattle.printing.specs.declared.Extent.{Extent}

-- of the items below x; no text has more than 37 bytes
pub record Measured (table : List ℕ) (B x : ℕ) (e : Extent) : Type 0 where
  pub counted : e.count ≡ length (board_texts table B x)
  pub sized : e.bytes ≡ length (joined (board_texts table B x))
  pub few : e.count ≤ x
  pub short : e.bytes ≤ 37 * x

-- the pair of item x, if the board has it
unfoldable pub pair_on : List ℕ → ℕ → ℕ → ℕ → List ℕ
pair_on table B offset x = cond (bit B x) (pair_bytes offset (length (item_text table x))) []

-- the text of item x, if the board has it
unfoldable pub text_if : List ℕ → ℕ → ℕ → List ℕ
text_if table B x = cond (bit B x) (item_text table x) []

-- the sheet was written over the start of the buffer, or refused because there is no room for it
pub record Printed (made was is : List ℕ) (r : Result ℕ ℕ) : Type 0 where
  pub answer : r ≡ cond (ltb (length was) (length made)) (Err 16) (Ok (length made))
  pub bytes : is ≡ cond (ltb (length was) (length made)) was (over was 0 made)
