-- How the bag grows along a list of calls: of which tables it is said, and what is counted.
use Rattle.std.specs.Prelude.{ℕ, ◌+◌, ◌≤◌, ◌<◌, Bool, true, ◌&&◌, not, List, [], ◌∷◌, eqb, ltb, length}
use Rattle.base.specs.Bits.{digit}
use Rattle.rules.specs.Table.{Table}
use Rattle.rules.specs.Run.{Engine}

-- a table within document 01's ranges: peers are bytes, and there are at most 8 periods
pub record Sized (T : Table) : Type 0 where
  pub peers : T.n < 256
  pub periods : T.periods ≤ 8

-- none of the answers is 13, full
unfoldable pub never_full : List ℕ → Bool
never_full [] = true
never_full (a ∷ answers) = not (eqb a 13) && never_full answers

-- how many of the calls lengthen the bag
module _ {X : Type 0} (E : Engine X) where
  unfoldable pub lengthened : X → List (List ℕ) → ℕ
  lengthened x [] = 0
  lengthened x (c ∷ calls) =
      digit (ltb (length (E.holds x).bag) (length (E.holds (E.leaves x c)).bag)) + lengthened (E.leaves x c) calls
