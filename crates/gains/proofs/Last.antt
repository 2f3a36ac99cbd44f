-- Laws of the last number that passes a test.
use Prim.Native.Nat.{ℕ, zero, suc, ◌≤◌}
use native.Mathlib.Omega.{arith}
use mathlib.Core.Bool.{Bool, true, false, ◌||◌, not, or-true, or-false}
use mathlib.Core.Path.{◌≡◌, refl, sym, ap, ◌∙◌}
use mathlib.Core.Logic.{◌⊎◌, inl, inr}
use lib.Dec.{eqb}
use borrow.Author.Tests.{ne_eqb}
use Rattle.base.specs.Below.{any}
use Rattle.base.proofs.Truth.{either, is_false, split}
use Rattle.std.specs.Prelude.{Option, Some, None}
use Rattle.gains.specs.Chains.{last_where, below}

-- a number that is found, and none

unfoldable pub above : Option ℕ → ℕ
above None = 0
above (Some i) = suc i

pub above-below : (n : ℕ) → above (below n) ≡ n
unfolding above below
above-below zero = refl
above-below (suc i) = refl

module _ (f : ℕ → Bool) where
  -- k passes, or not

  pub last_hit : (k : ℕ) → f k ≡ true → last_where f (suc k) ≡ suc k
  unfolding last_where
  last_hit k e = rw e

  pub last_miss : (k : ℕ) → f k ≡ false → last_where f (suc k) ≡ last_where f k
  unfolding last_where
  last_miss k e = rw e

  pub last_low : (k : ℕ) → last_where f k ≤ k
  unfolding last_where
  last_low zero = omega arith
  last_low (suc k) = go (either (f k)) (last_low k)
    where
      go : (f k ≡ true) ⊎ (f k ≡ false) → last_where f k ≤ k → last_where f (suc k) ≤ suc k
      go (inl e) l = omega (arith, last_hit k e)
      go (inr e) l = omega (arith, last_miss k e)

  -- the one that it is passes

  pub last_passes : (k i : ℕ) → last_where f k ≡ suc i → f i ≡ true
  unfolding last_where
  last_passes zero i q = absurd (omega arith)
  last_passes (suc k) i q = go (either (f k)) (last_passes k i)
    where
      go : (f k ≡ true) ⊎ (f k ≡ false) → (last_where f k ≡ suc i → f i ≡ true) → f i ≡ true
      go (inl e) r =
          let here : k ≡ i = omega (arith, last_hit k e, q) in
          ap f (sym here) ∙ e
      go (inr e) r = r (sym (last_miss k e) ∙ q)

  -- it is 0 where none passes
  pub last_any : (k : ℕ) → eqb (last_where f k) 0 ≡ not (any k f)
  unfolding last_where any
  last_any zero = refl
  last_any (suc k) = go (either (f k)) (last_any k)
    where
      go : (f k ≡ true) ⊎ (f k ≡ false) → eqb (last_where f k) 0 ≡ not (any k f) → eqb (last_where f (suc k)) 0 ≡ not (any k f || f k)
      go (inl e) r = rw (last_hit k e, e, or-true (any k f)) (ne_eqb (suc k) 0 (λ z. omega arith))
      go (inr e) r = rw (last_miss k e, e, or-false (any k f)) r

-- the last that passes f is not past the last that passes g, where f asks for more than g
pub last_within : (f g : ℕ → Bool) → ((i : ℕ) → f i ≡ true → g i ≡ true) → (k : ℕ) → last_where f k ≡ last_where f (last_where g k)
unfolding last_where
last_within f g f-g zero = refl
last_within f g f-g (suc k) = go (either (g k)) (last_within f g f-g k)
  where
    go : (g k ≡ true) ⊎ (g k ≡ false) → last_where f k ≡ last_where f (last_where g k)
        → last_where f (suc k) ≡ last_where f (last_where g (suc k))
    go (inl e) r = ap (last_where f) (sym (last_hit g k e))
    go (inr e) r = last_miss f k (is_false (f k) (λ t. split (f-g k t) e)) ∙ r ∙ ap (last_where f) (sym (last_miss g k e))
