-- How large the figures are at most.
use Prim.Native.Nat.{ℕ, ◌*◌, ◌≤◌}
use native.Mathlib.Omega.{arith}
use mathlib.Core.List.{List}
use lib.ListN.{length}
use Rattle.base.specs.Bits.{bit}
use Rattle.base.specs.Sums.{how_many}
use Rattle.base.proofs.Sums.{sum_most, how_many_most}
use Rattle.header.specs.declared.Head.{Head}
use Rattle.rules.specs.declared.Entry.{Entry}
use Rattle.rules.specs.Bag.{entry_at, boards_in}
use Rattle.rules.specs.State.{State}
use Rattle.figures.specs.declared.Totals.{Totals}
use Rattle.figures.specs.Totals.{receipt_count, items_on, totals_in, outside_of}
use Rattle.figures.specs.Entries.{published_by, entry_items}
use Rattle.figures.proofs.Counted.{bag_counted}

-- with 64 items, 8 periods and 256 entries
pub record Small (f : Totals) : Type 0 where
  pub posts : f.posts ≤ 64
  pub receipts : f.receipts ≤ 8 * 64
  pub items : f.items ≤ 256 * 64

items_most_lem : (m : ℕ) (bag : List Entry) → m ≤ 64 → length bag ≤ 256 → items_on m (boards_in bag) ≤ 256 * 64
items_most_lem m bag few short =
    omega (
      arith,
      bag_counted m bag,
      sum_most (λ e. entry_items m (entry_at bag e)) 64 (length bag) 256 short
          (λ e l. omega (arith, few, how_many_most m (bit (published_by (entry_at bag e))))),
    )

pub totals_most : (h : Head) (s : State) → h.periods ≤ 8 → h.items ≤ 64 → length s.bag ≤ 256 → Small (totals_in h (outside_of s))
unfolding totals_in receipt_count
totals_most h s periods few short = record {
  posts = omega (arith, few, how_many_most h.items s.posted);
  receipts = sum_most (λ p. how_many h.items (s.receipted p)) 64 h.periods 8 periods
      (λ p l. omega (arith, few, how_many_most h.items (s.receipted p)));
  items = items_most_lem h.items s.bag few short;
}
