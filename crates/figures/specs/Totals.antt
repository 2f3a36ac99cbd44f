-- The totals, counted from what there is outside: as a state holds it, or as accepted steps have made it.
use Rattle.std.specs.Prelude.{ℕ, ◌+◌, Bool, List, [], ◌∷◌}
use Rattle.base.specs.Bits.{bit}
use Rattle.base.specs.Sums.{sum, how_many}
use Rattle.header.specs.declared.Head.{Head}
use Rattle.rules.specs.Bag.{boards_in}
use Rattle.rules.specs.State.{State}
use Rattle.rules.specs.Ideal.{Fed}
use Rattle.rules.specs.Outside.{posts_made, receipts_made, boards_made}
use Rattle.figures.specs.declared.Totals.{Totals}

-- what is counted; sets are tests on their members
pub record Outside : Type 0 where
  -- the items posted
  pub posts : ℕ → Bool
  -- the receipts: period, item
  pub receipts : ℕ → ℕ → Bool
  -- the boards, each with its period
  pub boards : List (ℕ × ℕ)

-- the receipts of P periods and m items
unfoldable pub receipt_count : ℕ → ℕ → (ℕ → ℕ → Bool) → ℕ
receipt_count P m receipts = sum P (λ p. how_many m (receipts p))

-- the items below m of each board, summed over the boards
unfoldable pub items_on : ℕ → List (ℕ × ℕ) → ℕ
items_on m [] = 0
items_on m (b ∷ boards) = how_many m (bit b.1) + items_on m boards

-- the three figures, by the periods and items of a table
unfoldable pub totals_in : Head → Outside → Totals
totals_in h o = record {
  posts = how_many h.items o.posts;
  receipts = receipt_count h.periods h.items o.receipts;
  items = items_on h.items o.boards;
}

-- as a state holds it
abbrev pub outside_of : State → Outside
outside_of s = record { posts = s.posted; receipts = s.receipted; boards = boards_in s.bag }

-- as steps with their answers have made it, by those steps alone
abbrev pub made_by : List Fed → Outside
made_by seen = record { posts = posts_made seen; receipts = receipts_made seen; boards = boards_made seen }
