-- The lines of the report: fields one blank apart, numbers in decimal digits, and byte 10 at the end.
use Rattle.std.specs.Prelude.{ℕ, cond, List, [], ◌++◌}
use Rattle.base.specs.Bits.{bit}
use Rattle.text.specs.Wrote.{each}
use Rattle.text.specs.Decimal.{decimal, field}
use Rattle.figures.specs.declared.Totals.{Totals}
use Rattle.report.specs.Words.{peers, threshold, honest, refused, db, receipt, board, totals, newline}

-- what is refused: its number
unfoldable pub refused_line : ℕ → List ℕ
refused_line r = refused ++ field r ++ newline

-- peers, threshold and honest count
unfoldable pub head_line : ℕ → ℕ → ℕ → List ℕ
head_line n t h = peers ++ field n ++ threshold ++ field t ++ honest ++ field h ++ newline

-- a step's number and its answer
unfoldable pub step_line : ℕ → ℕ → List ℕ
step_line k a = decimal k ++ field a ++ newline

-- a peer's database: peer, period, item, number of signers
unfoldable pub db_line : ℕ → ℕ → ℕ → ℕ → List ℕ
db_line j p x signers = db ++ field j ++ field p ++ field x ++ field signers ++ newline

-- a receipt: period, item
unfoldable pub receipt_line : ℕ → ℕ → List ℕ
receipt_line p x = receipt ++ field p ++ field x ++ newline

-- item x, if the board has it
unfoldable pub board_item : ℕ → ℕ → List ℕ
board_item B x = cond (bit B x) (field x) []

-- a board: period, and those of m items that it has; one of no items shows its period only
unfoldable pub board_line : ℕ → ℕ → ℕ → List ℕ
board_line m p B = board ++ field p ++ each (board_item B) m ++ newline

-- the totals: items posted, receipts, items of all boards
unfoldable pub totals_line : Totals → List ℕ
totals_line f = totals ++ field f.posts ++ field f.receipts ++ field f.items ++ newline
