-- What hangs in the hall: where the honest peers weigh at least t, the sheet that the program `sheet` writes has the
-- ideal board's items of the period, and whoever has a receipt of the period finds the item on it.
use Rattle.std.specs.Prelude.{ℕ, ◌<◌, true, List, ◌≡◌}
use Rattle.header.specs.Header.{items_of}
use Rattle.rules.specs.Table.{Table}
use Rattle.rules.specs.Ideal.{Ideal, ideal, on_board}
use Rattle.engine.specs.Engine.{rules_table}
use Rattle.rehearsal.specs.Input.{table_in}
use Rattle.sheets.specs.Sheet.{period_on, sheet_ok}
use Rattle.printing.specs.ReadsBack.{OnSheet}
use Rattle.hall.specs.Hung.{period_asked, rehearsal_in, hung}
use Rattle.guarantee.specs.Demand3.{after_calls}
use Rattle.guarantee.specs.Rehearsed.{calls_in}

-- the ideal board of a table, fed with a rehearsal's own calls
abbrev pub ideal_by : Table → List ℕ → Ideal
ideal_by T input = ideal T (after_calls (table_in input) (calls_in input)).seen

abbrev pub ideal_of : List ℕ → Ideal
ideal_of input = ideal_by (rules_table (table_in input)) input

-- the program's input, and the output that is a sheet, where T is the table of the rules
pub record HungTrueBy (T : Table) (input : List ℕ) : Type 0 where
  pub ok : sheet_ok (hung input) ≡ true
  pub period : period_on (hung input) ≡ period_asked input
  -- an item of the table is on the sheet exactly if it is on the ideal board's board of the period
  pub on : (x : ℕ) → x < items_of (table_in (rehearsal_in input))
      → on_board (ideal_by T (rehearsal_in input)).boards (period_asked input) x ≡ true
      → OnSheet (table_in (rehearsal_in input)) (hung input) x
  pub only : (x : ℕ) → x < items_of (table_in (rehearsal_in input)) → OnSheet (table_in (rehearsal_in input)) (hung input) x
      → on_board (ideal_by T (rehearsal_in input)).boards (period_asked input) x ≡ true
  -- and so is every item receipted in the period
  pub receipted : (x : ℕ) → (ideal_by T (rehearsal_in input)).receipts (period_asked input) x ≡ true
      → OnSheet (table_in (rehearsal_in input)) (hung input) x

abbrev pub HungTrue : List ℕ → Type 0
HungTrue input = HungTrueBy (rules_table (table_in (rehearsal_in input))) input
