-- Sums over the numbers below n, and how many of these are in a set.
use Rattle.std.specs.Prelude.{ℕ, zero, suc, ◌+◌, Bool}
use Rattle.base.specs.Bits.{digit}

-- f 0, f 1 and so on below n, summed
unfoldable pub sum : ℕ → (ℕ → ℕ) → ℕ
sum zero f = 0
sum (suc n) f = sum n f + f n

-- how many numbers below n are in S
unfoldable pub how_many : ℕ → (ℕ → Bool) → ℕ
how_many n S = sum n (λ k. digit (S k))
