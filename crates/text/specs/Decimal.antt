-- A number in decimal digits without leading zeros.
use Rattle.std.specs.Prelude.{ℕ, zero, suc, ◌+◌, ◌/◌, ◌%◌, cond, List, [], ◌∷◌, ◌++◌, ltb}

-- with at most k digits
unfoldable pub spelled : ℕ → ℕ → List ℕ
spelled zero n = []
spelled (suc k) n = cond (ltb n 10) ((48 + n) ∷ []) (spelled k (n / 10) ++ ((48 + n % 10) ∷ []))

-- with as many as it takes: n has fewer than n + 1 of them, or one
unfoldable pub decimal : ℕ → List ℕ
decimal n = spelled (n + 1) n

-- a blank and a number
unfoldable pub field : ℕ → List ℕ
field n = 32 ∷ decimal n
