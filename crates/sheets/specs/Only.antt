-- A sheet that reads is the only sheet of its period and list of items, and no sheet is longer than `sheet_most`.
use Rattle.std.specs.Prelude.{ℕ, ◌≤◌, true, List, ◌≡◌, length}
use Rattle.bits.specs.Row.{Bytes}
use Rattle.sheets.specs.Sheet.{sheet_most, period_on, texts_on, sheet_ok}
use Rattle.sheets.specs.Made.{sheet_of}

-- two byte lists that are sheets with the same period and the same list of items are equal
pub record OnlySheet : Type 0 where
  pub only : (a b : List ℕ) → Bytes a → Bytes b → sheet_ok a ≡ true → sheet_ok b ≡ true
      → period_on a ≡ period_on b → texts_on a ≡ texts_on b → a ≡ b
  -- namely the sheet made of these
  pub made : (s : List ℕ) → Bytes s → sheet_ok s ≡ true → s ≡ sheet_of (period_on s) (texts_on s)
  pub most : (s : List ℕ) → sheet_ok s ≡ true → length s ≤ sheet_most
