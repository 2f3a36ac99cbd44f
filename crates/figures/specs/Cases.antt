-- Totals by an example.
use Rattle.std.specs.Prelude.{[], ◌∷◌, ◌≡◌, eqb, leb}
use Rattle.header.specs.declared.Head.{Head}
use Rattle.figures.specs.Totals.{Outside, totals_in}

-- one peer, two periods, three items
abbrev pub head : Head
head = record { n = 1; t = 1; sets = 1; periods = 2; items = 3 }

-- all items posted; receipts of item 1 in both periods; in period 0 a board of items 0 and 1 and another of 1 and 2, in
-- period 1 one of item 1
abbrev pub outside : Outside
outside = record {
  posts = λ x. leb x 2;
  receipts = λ p x. eqb x 1;
  boards = (0, 3) ∷ (0, 6) ∷ (1, 2) ∷ [];
}

pub record TotalsCases : Type 0 where
  -- the items of each board count, also of a second one of a period, and an item as often as boards have it
  pub figures : totals_in head outside ≡ record { posts = 3; receipts = 2; items = 5 }
