-- Case R as the input of the program `sheet`: the premises of what is said of sheets are met.
use Rattle.std.specs.Prelude.{Ok, Err, ◌≤◌, ◌∷◌, ◌≡◌}
use Rattle.header.specs.Header.{head_of, threshold_of}
use Rattle.header.specs.Quorum.{honest_weight}
use Rattle.report.specs.Lines.{refused_line}
use Rattle.rehearsal.specs.Rehearsal.{last_state}
use Rattle.sheets.specs.Cases.{sheet_r}
use Rattle.printing.specs.Written.{written}
use Rattle.hall.specs.Hung.{hang_answer, hung}
use Rattle.edges.specs.Tables as tables
use Rattle.guarantee.specs.TotalsWorked.{input_r}

pub record SheetsWorked : Type 0 where
  -- period 0 has the one board: its sheet
  pub taken : hang_answer (0 ∷ input_r) ≡ 0
  pub honest : threshold_of tables.case_r ≤ honest_weight (head_of tables.case_r)
  pub hangs : hung (0 ∷ input_r) ≡ sheet_r
  -- the table has one period
  pub no_period_lem : hung (1 ∷ input_r) ≡ refused_line 6
  -- the writer on the table and on the state that the steps led to: with room for the sheet, and with a byte less
  pub writes : written tables.case_r (last_state input_r) 0 11 ≡ Ok 11
  pub short : written tables.case_r (last_state input_r) 0 10 ≡ Err 16
