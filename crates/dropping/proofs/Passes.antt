-- A pass only drops steps that can be spared, and where it drops none no step can be.
use Prim.Native.Nat.{ℕ, zero, suc, ◌≤◌, ◌<◌}
use native.Mathlib.Omega.{arith}
use native.Mathlib.Decide.{ℕ_discrete, dec_lt}
use mathlib.Core.Bool.{true, false, cond, ◌&&◌, not}
use mathlib.Core.Path.{◌≡◌, refl, sym, ap, fun_ext, ◌∙◌}
use mathlib.Core.Logic.{◌⊎◌, inl, inr}
use borrow.Author.Tests.{eqb-true, eq-eqb, ne_eqb, not-true}
use Rattle.base.proofs.Below.{any_at, any_found}
use Rattle.base.proofs.Truth.{split, either, iff, is_false, and_i, and_l, and_r, eqb_self}
use Rattle.dropping.specs.Kept.{Kept, every_step, without, lost}
use Rattle.dropping.specs.Passes.{spare, tried, tried_below, pass, drops}

-- leaving a step out

pub without_here : (keep : Kept) (k : ℕ) → without keep k k ≡ false
unfolding without
without_here keep k = is_false _ (λ e. split (eqb_self k) (not-true _ (and_r (keep k) _ e)))

pub without_only : (keep : Kept) (k i : ℕ) → without keep k i ≡ true → keep i ≡ true
unfolding without
without_only keep k i e = and_l (keep i) _ e

pub without_other : (keep : Kept) (k i : ℕ) → (i ≡ k → ⊥) → without keep k i ≡ keep i
unfolding without
without_other keep k i d = iff _ _ (λ e. and_l (keep i) _ e) (λ e. and_i _ _ e (rw (ne_eqb i k d)))

-- steps lost

pub lost-at : (n : ℕ) (before now : Kept) (k : ℕ) → k < n → before k ≡ true → now k ≡ false → lost n before now ≡ true
unfolding lost
lost-at n before now k l b e = any_at (λ k. before k && not (now k)) k n l (and_i _ _ b (rw e))

pub lost-found : (n : ℕ) (before now : Kept) → lost n before now ≡ true → (k : ℕ) × (k < n) × (before k ≡ true) × (now k ≡ false)
unfolding lost
lost-found n before now e =
    let (k, l, found) = any_found n (λ k. before k && not (now k)) e in
    (k, l, and_l (before k) _ found, not-true _ (and_r (before k) _ found))

module _ (answer : Kept → ℕ) where
  -- a step tried is dropped, or all stays
  pub tried_cases : (C : Kept → Type 0) (keep : Kept) (k : ℕ)
      → (keep k ≡ true → spare answer keep k ≡ true → C (without keep k)) → C keep → C (tried answer keep k)
  unfolding tried
  tried_cases C keep k dropped stays = go (either (keep k && spare answer keep k))
    where
      go : (keep k && spare answer keep k ≡ true) ⊎ (keep k && spare answer keep k ≡ false)
          → C (cond (keep k && spare answer keep k) (without keep k) keep)
      go (inl e) = rw e (dropped (and_l (keep k) _ e) (and_r (keep k) _ e))
      go (inr e) = rw e stays

  -- what holds still when a step is left out that can be spared holds after a pass
  pub below_keeps : (C : Kept → Type 0) → ((keep : Kept) (k : ℕ) → C keep → spare answer keep k ≡ true → C (without keep k))
      → (k : ℕ) (keep : Kept) → C keep → C (tried_below answer keep k)
  unfolding tried_below
  below_keeps C step zero keep c = c
  below_keeps C step (suc k) keep c =
      below_keeps C step k (tried answer keep k) (tried_cases C keep k (λ t s. step keep k c s) c)

  -- steps are only dropped
  pub below_only : (k : ℕ) (keep : Kept) (i : ℕ) → tried_below answer keep k i ≡ true → keep i ≡ true
  below_only k keep i e =
      below_keeps (λ later. later i ≡ true → keep i ≡ true) (λ later j f s u. f (without_only later j i u)) k keep (λ u. u) e

  -- and none from k on
  pub above_stays : (k : ℕ) (keep : Kept) (i : ℕ) → k ≤ i → tried_below answer keep k i ≡ keep i
  unfolding tried_below
  above_stays zero keep i l = refl
  above_stays (suc k) keep i l =
      above_stays k (tried answer keep k) i (omega arith)
      ∙ tried_cases (λ later. later i ≡ keep i) keep k (λ t s. without_other keep k i (λ q. omega arith)) refl

  -- the last answer stays
  abbrev pub Same : Kept → Type 0
  Same keep = answer keep ≡ answer every_step

  spared : (keep : Kept) (k : ℕ) → spare answer keep k ≡ true → Same (without keep k)
  unfolding spare
  spared keep k e = eqb-true (answer (without keep k)) (answer every_step) e

  -- where the steps below k are all left, none of them can be spared
  unspared : (k : ℕ) (keep : Kept) → tried_below answer keep k ≡ keep → (i : ℕ) → i < k → keep i ≡ true
      → spare answer keep i ≡ false
  unfolding tried_below tried
  unspared zero keep e i l t = absurd (omega arith)
  unspared (suc k) keep e i l t = go (either (keep k && spare answer keep k)) (ℕ_discrete i k) (unspared k keep)
    where
      -- were step k dropped, it would not be there
      dropped : keep k && spare answer keep k ≡ true → keep k ≡ false
      dropped b =
          sym (ap (λ (f : Kept). f k) (rw b at e)) ∙ above_stays k (without keep k) k (omega arith) ∙ without_here keep k

      go : (keep k && spare answer keep k ≡ true) ⊎ (keep k && spare answer keep k ≡ false) → Dec (i ≡ k)
          → (tried_below answer keep k ≡ keep → (i : ℕ) → i < k → keep i ≡ true → spare answer keep i ≡ false)
          → spare answer keep i ≡ false
      go (inl b) d r = split (and_l (keep k) _ b) (dropped b)
      go (inr b) (yes q) r = rw q (is_false _ (λ u. split (and_i _ _ (rw q at t) u) b))
      go (inr b) (no d) r = r (rw b at e) i (omega arith) t

  -- a pass

  module _ (last : ℕ) where
    pub pass_same : (keep : Kept) → Same keep → Same (pass answer last keep)
    pass_same keep e = below_keeps Same (λ later k u s. spared later k s) last keep e

    -- a pass that drops none leaves all as it was
    module _ (keep : Kept) (rest : drops answer last keep ≡ false) where
      still_there : (i : ℕ) → keep i ≡ true → pass answer last keep i ≡ true
      still_there i t = go (dec_lt i last) (either (pass answer last keep i))
        where
          go : Dec (i < last) → (pass answer last keep i ≡ true) ⊎ (pass answer last keep i ≡ false) → pass answer last keep i ≡ true
          go d (inl e) = e
          go (yes l) (inr e) = split (lost-at last keep (pass answer last keep) i l t e) rest
          go (no d) (inr e) = above_stays last keep i (omega arith) ∙ t

      pub none_dropped : pass answer last keep ≡ keep
      none_dropped = fun_ext (λ i. iff _ _ (below_only last keep i) (still_there i))

    pub all-needed : (keep : Kept) → drops answer last keep ≡ false → (k : ℕ) → k < last → keep k ≡ true → Same (without keep k) → ⊥
    unfolding spare
    all-needed keep rest k l t same =
        split (eq-eqb (answer (without keep k)) (answer every_step) same) (unspared last keep (none_dropped keep rest) k l t)
