-- The receipts that a text shows: the lines `receipt P X` among its lines.
use Rattle.std.specs.Prelude.{ℕ, List, [], ◌∷◌, ◌++◌, ◌⊎◌, ◌≡◌}
use Rattle.text.specs.Decimal.{field}
use Rattle.report.specs.Words.{receipt}
use Rattle.reading.specs.Read.{lines_of}

-- a line stands among lines
abbrev pub Stands : List ℕ → List (List ℕ) → Type 0
Stands line [] = ⊥
Stands line (a ∷ lines) = (a ≡ line) ⊎ Stands line lines

-- the line of the receipt for item x in period p, without its byte 10
abbrev pub receipt_text : ℕ → ℕ → List ℕ
receipt_text p x = receipt ++ field p ++ field x

-- a text has the line of that receipt
abbrev pub ShowsReceipt : List ℕ → ℕ → ℕ → Type 0
ShowsReceipt text p x = Stands (receipt_text p x) (lines_of text)
