-- Whether every honest peer has backed a period, which its counter c says and not the bag: what a clear asks.
use Rattle.std.specs.Prelude.{ℕ, ◌+◌, Bool, ◌&&◌, not, ltb}
use Rattle.base.specs.Below.{any}
use Rattle.rules.specs.Table.{Table}

-- a peer whose counter c is not above q has yet to back q
abbrev pub not_backed : ℕ → ℕ → Bool
not_backed c q = not (ltb q c)

-- some honest peer has yet to back period q
unfoldable pub unbacked : Table → (ℕ → ℕ) → ℕ → Bool
unbacked T to_back q = any T.n (λ k. T.honest (k + 1) && not_backed (to_back (k + 1)) q)
