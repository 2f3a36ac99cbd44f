-- The totals: a report's foot says what the accepted steps made. There is no premise on honesty.
use Rattle.std.specs.Prelude.{ℕ, ◌^◌, ◌<◌, true, List, ◌++◌, ◌≡◌}
use Rattle.header.specs.Header.{head_of, periods_of, items_of}
use Rattle.rules.specs.Ideal.{Fed, is_there}
use Rattle.rules.specs.Outside.{posts_made, receipts_made, boards_made}
use Rattle.figures.specs.declared.Totals.{Totals}
use Rattle.figures.specs.Totals.{totals_in, outside_of, made_by}
use Rattle.report.specs.State.{foot}
use Rattle.reading.specs.Read.{lines_of}
use Rattle.reading.specs.Report.{foot_lines, Agrees}
use Rattle.rehearsal.specs.Input.{table_in}
use Rattle.rehearsal.specs.Rehearsal.{report_of}
use Rattle.guarantee.specs.Demand3.{after_calls}
use Rattle.guarantee.specs.Rehearsed.{calls_in}

-- the steps with their answers that a list of calls comes to, the last first: demand 3's ideal board is fed with them
abbrev pub fed_by : List ℕ → List (List ℕ) → List Fed
fed_by table calls = (after_calls table calls).seen

-- the totals of what such steps have made, counted from the steps alone, by a table's periods and items
abbrev pub totals_made : List ℕ → List Fed → Totals
totals_made table seen = totals_in (head_of table) (made_by seen)

-- after a list of calls; "so far" is every such list
pub record TotalsTrue (table : List ℕ) (calls : List (List ℕ)) : Type 0 where
  -- what is held has the totals of what the accepted calls made
  pub counted : totals_in (head_of table) (outside_of (after_calls table calls).engine)
      ≡ totals_made table (fed_by table calls)
  -- and of what they made nothing is left out: posts, receipts and boards are of the table's periods and items
  pub posts : (x : ℕ) → posts_made (fed_by table calls) x ≡ true → x < items_of table
  pub receipts : (p x : ℕ) → receipts_made (fed_by table calls) p x ≡ true
      → (p < periods_of table) × (x < items_of table)
  pub boards : (p B : ℕ) → is_there (boards_made (fed_by table calls)) p B ≡ true
      → (p < periods_of table) × (B < 2 ^ items_of table)

-- the totals of what an input's own calls made
abbrev pub totals_of_input : List ℕ → Totals
totals_of_input input = totals_made (table_in input) (fed_by (table_in input) (calls_in input))

-- the report of an input
pub record TotalsShown (input : List ℕ) : Type 0 where
  -- its bytes end with the line of these totals, and `end`
  pub above : List ℕ
  pub ends : report_of input ≡ above ++ foot (totals_of_input input)
  -- which are its last two lines: what stands above ends where a line ends
  pub last_lines : lines_of (report_of input) ≡ lines_of above ++ foot_lines (totals_of_input input)
  -- and the two last figures are those of the lines above, and of the whole report: the receipt lines, and the item
  -- fields of the board lines
  pub lines_above : Agrees above (totals_of_input input)
  pub all_lines : Agrees (report_of input) (totals_of_input input)
