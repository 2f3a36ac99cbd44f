-- Computed from the definitions.
use mathlib.Core.Path.{refl}
use Rattle.base.specs.Bytes.{number_at, part, same_bytes}
use Rattle.base.specs.Below.{every}
use Rattle.base.specs.Tab.{tab}
use Rattle.base.specs.Refusals.{first, judged}
use Rattle.pairs.specs.Pairs.{end_before, starts_at_end, pairs_fit, pairs_ok}
use Rattle.twins.specs.Twins.{differ, new_at, twinless}
use Rattle.ballot.specs.Item.{read_kind, read_item, is_item, item_at, all_items}
use Rattle.sheets.specs.Sheet.{sheet_ok}
use Rattle.sheets.specs.Made.{pairs_from, joined, sheet_of}
use Rattle.sheets.specs.Found.{sheet_answer, item_answer, found, handed_out}
use Rattle.sheets.specs.Cases.{SheetCases}

pub sheet_cases : SheetCases
unfolding sheet_answer item_answer found handed_out sheet_ok sheet_of pairs_from joined pairs_ok pairs_fit starts_at_end end_before
    all_items item_at is_item read_item read_kind twinless new_at differ first judged every tab number_at part same_bytes
sheet_cases = record {
  case_r_lem = refl;
  case_r_made = refl;
  case_r_item = refl;
  case_r_text = refl;
  case_r_past = refl;
  three-items = refl;
  three_made = refl;
  third-item = refl;
  placed-audit = refl;
  mixed-audits = refl;
  mixed_made = refl;
  mixed-item = refl;
  no_items = refl;
  no_items_tail = refl;
  no_items_item = refl;
  clashing = refl;
  no_bytes = refl;
  one_byte = refl;
  period_8 = refl;
  count_64 = refl;
  count_65 = refl;
  tail = refl;
  tables_offset = refl;
  kind_4 = refl;
  audit_of_7_bytes = refl;
  twins = refl;
  no_sheet_item = refl;
}
