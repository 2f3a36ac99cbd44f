-- The board of a period: the first of the period in the bag; and the texts of its items.
use Rattle.std.specs.Prelude.{Option, Some, None, ℕ, zero, suc, Bool, cond, List, [], ◌∷◌, ◌++◌, eqb}
use Rattle.base.specs.Bits.{bit}
use Rattle.ballot.specs.Table.{item_text}
use Rattle.rules.specs.declared.Entry.{Entry}
use Rattle.rules.specs.declared.Entry.TheVariants.{Hash, Backing, Board}
use Rattle.rules.specs.Bag.{boards_in}
use Rattle.rules.specs.Ideal.{has_board}
use Rattle.state.specs.Contents.{bag_on}

-- the boards that a state's bytes say, each with its period, in the bag's order
abbrev pub boards_on : List ℕ → List (ℕ × ℕ)
boards_on s = boards_in (bag_on s)

-- the first board of period p, as a set of items; where there is none, no items
unfoldable pub first_board : List (ℕ × ℕ) → ℕ → ℕ
first_board [] p = 0
first_board (b ∷ boards) p = cond (eqb b.0 p) b.1 (first_board boards p)

-- a board's items, if there is one
abbrev pub items_if : Bool → ℕ → Option ℕ
items_if there B = cond there (Some B) None

-- what period p has
unfoldable pub published : List (ℕ × ℕ) → ℕ → Option ℕ
published boards p = items_if (has_board boards p) (first_board boards p)

-- what an entry of the bag gives the period: a board of it
unfoldable pub published_in : Entry → ℕ → Option ℕ
published_in (Hash k q B) p = None
published_in (Backing k q B) p = None
published_in (Board q B) p = items_if (eqb q p) B

-- the texts of those items below n that the board has, in rising number
unfoldable pub board_texts : List ℕ → ℕ → ℕ → List (List ℕ)
board_texts table B zero = []
board_texts table B (suc x) = board_texts table B x ++ cond (bit B x) (item_text table x ∷ []) []
