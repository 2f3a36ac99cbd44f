-- What a sheet has passed, test by test.
use Prim.Native.Nat.{ℕ, ◌≤◌}
use mathlib.Core.Bool.{true}
use mathlib.Core.List.{List}
use mathlib.Core.Path.{◌≡◌}
use borrow.Author.Tests.{leb-true}
use Rattle.base.proofs.Truth.{and_l, and_r}
use Rattle.pairs.specs.Pairs.{pairs_ok}
use Rattle.ballot.specs.declared.item.Audits.TheVariants.{Either}
use Rattle.ballot.specs.Item.{all_items}
use Rattle.sheets.specs.Sheet.{items_most, pairs_at, count_on, sheet_ok}

pub record Passed (s : List ℕ) : Type 0 where
  pub count : count_on s ≤ items_most
  pub pairs : pairs_ok s pairs_at (count_on s) ≡ true
  pub items : all_items Either s pairs_at (count_on s) ≡ true

pub passed : (s : List ℕ) → sheet_ok s ≡ true → Passed s
unfolding sheet_ok
passed s ok = record {
  count = leb-true (count_on s) items_most (search (and_l, and_r) depth 9);
  pairs = search (and_l, and_r) depth 9;
  items = search (and_l, and_r) depth 9;
}
