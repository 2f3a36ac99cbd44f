-- The union of the peers' databases of a period, and its board.
use Rattle.std.specs.Prelude.{ℕ, suc, Bool}
use Rattle.base.specs.Below.{any}
use Rattle.rules.specs.Table.{Table}
use Rattle.rules.specs.State.{State}
use Rattle.rules.specs.Rules.{board_from}

-- the union of the databases of the peers 1 to n, rows of signers by item: k is a signer of x in one of them
unfoldable pub union_of : ℕ → (ℕ → ℕ → ℕ → Bool) → ℕ → ℕ → Bool
union_of n databases x k = any n (λ i. databases (suc i) x k)

-- the union of all databases of period p
abbrev pub union : Table → State → ℕ → ℕ → ℕ → Bool
union T s p = union_of T.n (λ j. s.db j p)

-- its board: the items with t signers in it
abbrev pub union_board : Table → State → ℕ → ℕ
union_board T s p = board_from T (union T s p)
