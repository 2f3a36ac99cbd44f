-- Rows of refusals that answer alike, unless the first answers 13; and what two steps that answer alike leave.
use Prim.Native.Nat.{ℕ}
use mathlib.Core.Bool.{Bool, true, false, cond, not}
use mathlib.Core.List.{[], ◌∷◌}
use mathlib.Core.Path.{◌≡◌, refl, ◌∙◌}
use mathlib.Core.Logic.{◌⊎◌, inl, inr}
use lib.Dec.{eqb}
use borrow.Author.Tests.{eqb-true}
use Rattle.base.specs.Refusals.{Row, first}
use Rattle.base.proofs.Truth.{true_false, either}
use Rattle.rules.specs.declared.Step.{Step}
use Rattle.rules.specs.Table.{Table}
use Rattle.rules.specs.State.{State}
use Rattle.rules.specs.Rules.{rule, answer, next}
use Rattle.rules.proofs.Answered.{Clear, answered}
use Rattle.cleared_runs.specs.Cleared.{Cleared}

pub record Alike (l m : Row) : Type 0 where
  pub same : eqb (first l) 13 ≡ false → first m ≡ first l

-- a test that both have; the others are then judged where it is passed
pub keep : {n : ℕ} {b : Bool} {l m : Row} → (b ≡ false → Alike l m) → Alike ((n, b) ∷ l) ((n, b) ∷ m)
unfolding first
keep {n} {b = true} f = record { same = λ e. refl }
keep {n} {b = false} f = record { same = (f refl).same }

-- a test that is the same by an equation
pub equal : {n : ℕ} {b c : Bool} {l m : Row} → c ≡ b → (b ≡ false → Alike l m) → Alike ((n, b) ∷ l) ((n, c) ∷ m)
equal {n} {b} {c} {l} {m} e f = rw e (keep f)

-- the bag of the second is not full where that of the first is not
pub ends : {b c : Bool} → (b ≡ false → c ≡ false) → Alike ((13, b) ∷ []) ((13, c) ∷ [])
unfolding first
ends {b = true} {c} f = record { same = true_false }
ends {b = false} {c} f = record { same = λ e. rw (f refl) }

-- a hear of a gone entry: unknown, where it was heard before
pub hear_gone : (x y z i p : Bool) → (x ≡ false → y ≡ false → i ≡ true → p ≡ false) → (rest : Row)
    → first ((6, x) ∷ (7, y) ∷ (8, z) ∷ (10, true) ∷ rest)
    ≡ cond (eqb (first ((6, x) ∷ (7, y) ∷ (8, z) ∷ (10, not i) ∷ (9, p) ∷ [])) 0) 10
    (first ((6, x) ∷ (7, y) ∷ (8, z) ∷ (10, not i) ∷ (9, p) ∷ []))
unfolding first
hear_gone true y z i p f rest = refl
hear_gone false true z i p f rest = refl
hear_gone false false true i p f rest = refl
hear_gone false false false false p f rest = refl
hear_gone false false false true p f rest = rw (f refl refl refl)

pub never_zero : (a : ℕ) → eqb (cond (eqb a 0) 10 a) 0 ≡ false
never_zero a = go (either (eqb a 0))
  where
    go : (eqb a 0 ≡ true) ⊎ (eqb a 0 ≡ false) → eqb (cond (eqb a 0) 10 a) 0 ≡ false
    go (inl e) = rw e
    go (inr e) = rw (e, e)

module _ (T : Table) (S : ℕ → Bool) where
  -- what a step of each run leaves, where both answer alike
  pub both : (u v : State) (st tr : Step) → Cleared T S u v → answer T v tr ≡ answer T u st
      → (Clear T u st → Clear T v tr → Cleared T S (rule T u st).effect (rule T v tr).effect)
      → Cleared T S (next T u st) (next T v tr)
  unfolding next
  both u v st tr L same f = go (either (eqb (answer T u st) 0))
    where
      go : (eqb (answer T u st) 0 ≡ true) ⊎ (eqb (answer T u st) 0 ≡ false) → Cleared T S (next T u st) (next T v tr)
      go (inl e) = let zero = eqb-true (answer T u st) 0 e in rw (same, e) (f (answered T u st zero) (answered T v tr (same ∙ zero)))
      go (inr e) = rw (same, e) L

  -- and where the second refuses
  pub first_only : (u v : State) (st tr : Step) → Cleared T S u v → eqb (answer T v tr) 0 ≡ false
      → (Clear T u st → Cleared T S (rule T u st).effect v) → Cleared T S (next T u st) (next T v tr)
  unfolding next
  first_only u v st tr L refused f = go (either (eqb (answer T u st) 0))
    where
      go : (eqb (answer T u st) 0 ≡ true) ⊎ (eqb (answer T u st) 0 ≡ false) → Cleared T S (next T u st) (next T v tr)
      go (inl e) = rw (refused, e) (f (answered T u st (eqb-true (answer T u st) 0 e)))
      go (inr e) = rw (refused, e) L
