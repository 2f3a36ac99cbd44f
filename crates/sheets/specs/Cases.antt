-- Sheets, and bytes that are none, by examples.
use Rattle.std.specs.Prelude.{Ok, Err, ℕ, List, [], ◌∷◌, ◌++◌, ◌≡◌}
use Rattle.base.specs.Tab.{tab}
use Rattle.sheets.specs.Made.{sheet_of}
use Rattle.sheets.specs.Found.{sheet_answer, found, handed_out}
use Rattle.base.specs.declared.refusal.Refusal.TheVariants.{Name, Sheet}

-- items of ballot 7: an audit, a cancellation, a vote of one preference
abbrev pub audit : List ℕ
audit = 0 ∷ 0 ∷ 0 ∷ 7 ∷ 2 ∷ []

-- an audit of ballot 7 from place 5
abbrev pub placed : List ℕ
placed = 0 ∷ 0 ∷ 0 ∷ 7 ∷ 2 ∷ 5 ∷ []

abbrev pub cancellation : List ℕ
cancellation = 0 ∷ 0 ∷ 0 ∷ 7 ∷ 3 ∷ []

abbrev pub vote : List ℕ
vote = 0 ∷ 0 ∷ 0 ∷ 7 ∷ 1 ∷ 9 ∷ []

-- the sheet of the board of document 01's case R: period 0, the one item, its pair, its text
abbrev pub sheet_r : List ℕ
sheet_r = 0 ∷ 1 ∷ 0 ∷ 6 ∷ 0 ∷ 5 ∷ audit

-- period 7 with three items
abbrev pub three : List ℕ
three = 7 ∷ 3 ∷ 0 ∷ 14 ∷ 0 ∷ 6 ∷ 0 ∷ 20 ∷ 0 ∷ 5 ∷ 0 ∷ 25 ∷ 0 ∷ 5 ∷ (vote ++ (audit ++ cancellation))

-- period 0 with two audits, one of which names its place
abbrev pub mixed : List ℕ
mixed = 0 ∷ 2 ∷ 0 ∷ 10 ∷ 0 ∷ 5 ∷ 0 ∷ 15 ∷ 0 ∷ 6 ∷ (audit ++ placed)

-- the sheet of period 0 with an audit of each of n ballots, 0 to n - 1: right in everything, but for how many they are
abbrev pub audits : ℕ → List ℕ
audits n = sheet_of 0 (tab n (λ k. 0 ∷ 0 ∷ 0 ∷ k ∷ 2 ∷ []))

pub record SheetCases : Type 0 where
  pub case_r_lem : sheet_answer sheet_r ≡ 0
  pub case_r_made : sheet_of 0 (audit ∷ []) ≡ sheet_r
  pub case_r_item : found sheet_r 0 ≡ Ok (record { offset = 6; length = 5 })
  pub case_r_text : handed_out sheet_r 0 ≡ audit
  pub case_r_past : found sheet_r 1 ≡ Err Name
  pub three-items : sheet_answer three ≡ 0
  pub three_made : sheet_of 7 (vote ∷ audit ∷ cancellation ∷ []) ≡ three
  pub third-item : found three 2 ≡ Ok (record { offset = 25; length = 5 })
  -- an audit with its place, alone and beside one without
  pub placed-audit : sheet_answer (0 ∷ 1 ∷ 0 ∷ 6 ∷ 0 ∷ 6 ∷ placed) ≡ 0
  pub mixed-audits : sheet_answer mixed ≡ 0
  pub mixed_made : sheet_of 0 (audit ∷ placed ∷ []) ≡ mixed
  pub mixed-item : handed_out mixed 1 ≡ placed
  -- a board of no items is two bytes, and no more
  pub no_items : sheet_answer (3 ∷ 0 ∷ []) ≡ 0
  pub no_items_tail : sheet_answer (3 ∷ 0 ∷ 0 ∷ []) ≡ 16
  pub no_items_item : found (3 ∷ 0 ∷ []) 0 ≡ Err Name
  -- neither clashes nor an order of the items are judged
  pub clashing : sheet_answer (0 ∷ 2 ∷ 0 ∷ 10 ∷ 0 ∷ 6 ∷ 0 ∷ 16 ∷ 0 ∷ 5 ∷ (vote ++ audit)) ≡ 0
  -- what is no sheet
  pub no_bytes : sheet_answer [] ≡ 16
  pub one_byte : sheet_answer (0 ∷ []) ≡ 16
  pub period_8 : sheet_answer (8 ∷ 0 ∷ []) ≡ 16
  -- 65 items, of which 64 would be a sheet
  pub count_64 : sheet_answer (audits 64) ≡ 0
  pub count_65 : sheet_answer (audits 65) ≡ 16
  pub tail : sheet_answer (sheet_r ++ (0 ∷ [])) ≡ 16
  pub tables_offset : sheet_answer (0 ∷ 1 ∷ 0 ∷ 10 ∷ 0 ∷ 5 ∷ 0 ∷ 0 ∷ 0 ∷ 0 ∷ audit) ≡ 16
  pub kind_4 : sheet_answer (0 ∷ 1 ∷ 0 ∷ 6 ∷ 0 ∷ 5 ∷ 0 ∷ 0 ∷ 0 ∷ 7 ∷ 4 ∷ []) ≡ 16
  pub audit_of_7_bytes : sheet_answer (0 ∷ 1 ∷ 0 ∷ 6 ∷ 0 ∷ 7 ∷ (placed ++ (0 ∷ []))) ≡ 16
  pub twins : sheet_answer (0 ∷ 2 ∷ 0 ∷ 10 ∷ 0 ∷ 5 ∷ 0 ∷ 15 ∷ 0 ∷ 5 ∷ (audit ++ audit)) ≡ 16
  pub no_sheet_item : found (8 ∷ 0 ∷ []) 0 ≡ Err Sheet
