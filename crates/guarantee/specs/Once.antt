-- The slip posted on two days, of the bytes and of a report: about the very definitions that `step` and `rehearse`
-- promise.
use Rattle.std.specs.Prelude.{ℕ, true, List, ◌≡◌}
use Rattle.rules.specs.Table.{Table}
use Rattle.rules.specs.Once.{SharedOnce, ReceiptedOnce}
use Rattle.engine.specs.Engine.{rules_table}
use Rattle.report.specs.Words.{receipt}
use Rattle.reading.specs.Read.{lines_of, begins}
use Rattle.reading.specs.Receipts.{Stands, receipt_text, ShowsReceipt}
use Rattle.rehearsal.specs.Input.{table_in}
use Rattle.rehearsal.specs.Rehearsal.{report_of}
use Rattle.guarantee.specs.Demand3.{after_calls}
use Rattle.guarantee.specs.Rehearsed.{calls_in}

-- whatever the calls, of any bytes, after them an honest peer's receipt shares on one item are of one period
abbrev pub SharesOnceBy : Table → List ℕ → Type 0
SharesOnceBy T table = (calls : List (List ℕ)) → SharedOnce T (after_calls table calls).engine.shared

abbrev pub SharesOnce : List ℕ → Type 0
SharesOnce table = SharesOnceBy (rules_table table) table

-- and no item has receipts in two periods
abbrev pub ReceiptsOnce : List ℕ → Type 0
ReceiptsOnce table = (calls : List (List ℕ)) → ReceiptedOnce (after_calls table calls).engine.receipted

-- the lines of a report that begin with `receipt` are those of the receipts that are held after the input's own calls
pub record ReceiptsShown (input : List ℕ) : Type 0 where
  pub only : (line : List ℕ) → begins receipt line ≡ true → Stands line (lines_of (report_of input))
      → (p : ℕ) × ((x : ℕ) × (receipt_text p x ≡ line))
  pub held : (p x : ℕ) → ShowsReceipt (report_of input) p x
      → (after_calls (table_in input) (calls_in input)).engine.receipted p x ≡ true
  pub shown : (p x : ℕ) → (after_calls (table_in input) (calls_in input)).engine.receipted p x ≡ true
      → ShowsReceipt (report_of input) p x

-- no two of them name one item
abbrev pub ShownOnce : List ℕ → Type 0
ShownOnce input = (p q x : ℕ) → ShowsReceipt (report_of input) p x → ShowsReceipt (report_of input) q x → p ≡ q
