-- Texts that a sheet can have, and that the sheet made of them reads as them.
use Rattle.std.specs.Prelude.{ℕ, ◌≤◌, ◌<◌, true, List, [], ◌≡◌, length, get_or}
use Rattle.ballot.specs.declared.item.Audits.TheVariants.{Either}
use Rattle.ballot.specs.Item.{is_item}
use Rattle.sheets.specs.Sheet.{items_most, period_on, count_on, texts_on, sheet_ok}

-- few enough, each an item, no two the same
pub record Listed (texts : List (List ℕ)) : Type 0 where
  pub few : length texts ≤ items_most
  pub items : (k : ℕ) → k < length texts → is_item Either (get_or texts k []) ≡ true
  pub apart : (i j : ℕ) → i < j → j < length texts → get_or texts i [] ≡ get_or texts j [] → ⊥

-- the bytes read as this period and these texts
pub record Reads (period : ℕ) (texts : List (List ℕ)) (s : List ℕ) : Type 0 where
  pub ok : sheet_ok s ≡ true
  pub period_on_lem : period_on s ≡ period
  pub count_on_lem : count_on s ≡ length texts
  pub texts_on_lem : texts_on s ≡ texts
