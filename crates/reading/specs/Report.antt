-- What is counted on the lines of a report, or of a part of it.
use Rattle.std.specs.Prelude.{ℕ, ◌-◌, List, [], ◌∷◌, ◌++◌, ◌≡◌}
use Rattle.figures.specs.declared.Totals.{Totals}
use Rattle.text.specs.Decimal.{field}
use Rattle.report.specs.Words.{receipt, board, totals}
use Rattle.reading.specs.Read.{lines_of, times_in, tally}

-- the lines that begin with `receipt`
unfoldable pub receipt_lines_in : List ℕ → ℕ
receipt_lines_in text = tally receipt (λ line. 1) (lines_of text)

-- the item fields of a board line: a blank stands before each, and one before its first field, the period
abbrev pub item_fields_of : List ℕ → ℕ
item_fields_of line = times_in 32 line - 1

-- those of the lines that begin with `board`
unfoldable pub item_fields_in : List ℕ → ℕ
item_fields_in text = tally board item_fields_of (lines_of text)

-- the two lines of a report's foot, each without its byte 10: the totals, and `end`
abbrev pub foot_lines : Totals → List (List ℕ)
foot_lines f =
    (totals ++ field f.posts ++ field f.receipts ++ field f.items) ∷ (101 ∷ 110 ∷ 100 ∷ []) ∷ []

-- the two last figures are those of the text's lines
pub record Agrees (text : List ℕ) (f : Totals) : Type 0 where
  pub receipt_lines_lem : receipt_lines_in text ≡ f.receipts
  pub item-fields : item_fields_in text ≡ f.items
