-- Passes end: each that drops a step leaves fewer, and they end at one choice of steps only.
use Prim.Native.Nat.{ℕ, zero, suc, ◌+◌, ◌≤◌, ◌<◌}
use native.Mathlib.Omega.{arith}
use native.Mathlib.Decide.{ℕ_discrete}
use mathlib.Core.Bool.{Bool, true, false, cond}
use mathlib.Core.Path.{◌≡◌, refl}
use mathlib.Core.Logic.{◌⊎◌, inl, inr}
use Rattle.base.specs.Bits.{digit}
use Rattle.base.specs.Sums.{sum, how_many}
use Rattle.base.proofs.Truth.{split, false_true, either, is_false}
use Rattle.dropping.specs.Kept.{Kept}
use Rattle.dropping.specs.Passes.{pass, drops, passes}
use Rattle.dropping.specs.Claims.{EndAt, rests, goes_on}
use Rattle.dropping.proofs.Passes.{lost-found, below_only}

-- a set within another has no more members, and fewer where it lacks one

digit_within : (a b : Bool) → (a ≡ true → b ≡ true) → digit a ≤ digit b
digit_within true true f = omega arith
digit_within true false f = false_true (f refl)
digit_within false b f = omega arith

module _ (A B : ℕ → Bool) (within : (k : ℕ) → A k ≡ true → B k ≡ true) where
  no_more : (n : ℕ) → how_many n A ≤ how_many n B
  unfolding how_many sum
  no_more zero = omega arith
  no_more (suc n) = omega (arith, no_more n, digit_within (A n) (B n) (within n))

  fewer : (n k : ℕ) → k < n → A k ≡ false → B k ≡ true → how_many n A < how_many n B
  unfolding how_many sum
  fewer zero k l a b = absurd (omega arith)
  fewer (suc n) k l a b = go (ℕ_discrete k n) (λ m. fewer n k m a b)
    where
      go : Dec (k ≡ n) → (k < n → how_many n A < how_many n B) → how_many n A + digit (A n) < how_many n B + digit (B n)
      go (yes q) below = rw (rw q at a, rw q at b) (omega (arith, no_more n))
      go (no d) below = omega (arith, below (omega arith), digit_within (A n) (B n) (within n))

module _ (answer : Kept → ℕ) (last : ℕ) where
  -- a pass that drops a step leaves fewer, and where none is left none is dropped

  pub fewer_left : (keep : Kept) → drops answer last keep ≡ true → how_many last (pass answer last keep) < how_many last keep
  fewer_left keep e =
      let (k, l, was, now) = lost-found last keep (pass answer last keep) e in
      fewer (pass answer last keep) keep (below_only answer last keep) last k l now was

  none_left : (keep : Kept) → how_many last keep ≤ 0 → drops answer last keep ≡ false
  none_left keep l = is_false _ (λ e. absurd (omega (arith, fewer_left keep e)))

  -- as many passes as there are steps before the last come to their end
  pub passes_end : (most : ℕ) (keep : Kept) → how_many last keep ≤ most → EndAt answer last (passes answer last most keep) keep
  unfolding passes
  passes_end zero keep l = rests (none_left keep l)
  passes_end (suc most) keep l = go (either (drops answer last keep)) (passes_end most (pass answer last keep))
    where
      later : Kept
      later = passes answer last most (pass answer last keep)

      go : (drops answer last keep ≡ true) ⊎ (drops answer last keep ≡ false)
          → (how_many last (pass answer last keep) ≤ most → EndAt answer last later (pass answer last keep))
          → EndAt answer last (cond (drops answer last keep) later keep) keep
      go (inl e) r = rw e (goes_on e (r (omega (arith, fewer_left keep e))))
      go (inr e) r = rw e (rests e)

  -- at that end a pass drops none, and there is one only

  pub end_rests : (end keep : Kept) → EndAt answer last end keep → drops answer last end ≡ false
  end_rests end keep (rests e) = e
  end_rests end keep (goes_on d l) = end_rests end _ l

  pub one_end : (end other keep : Kept) → EndAt answer last end keep → EndAt answer last other keep → end ≡ other
  one_end end other keep (rests e) (rests f) = refl
  one_end end other keep (rests e) (goes_on d l) = split d e
  one_end end other keep (goes_on d l) (rests e) = split d e
  one_end end other keep (goes_on d l) (goes_on c m) = one_end end other _ l m

  -- what each pass keeps holds at the end
  pub end_keeps : (C : Kept → Type 0) → ((keep : Kept) → C keep → C (pass answer last keep)) → (end keep : Kept)
      → EndAt answer last end keep → C keep → C end
  end_keeps C step end keep (rests e) c = c
  end_keeps C step end keep (goes_on {keep = k} d l) c = end_keeps C step end (pass answer last k) l (step k c)
