-- A step that is refused can be spared: where such a step leaves the store as it was, the later ones do not notice that
-- it is gone. So each step that is left before the last is answered 0.
use Prim.Native.Nat.{ℕ, zero, suc, ◌≤◌, ◌<◌}
use native.Mathlib.Decide.{ℕ_discrete}
use native.Mathlib.Omega.{arith}
use mathlib.Core.Bool.{true, false}
use mathlib.Core.List.{List}
use mathlib.Core.Logic.{◌⊎◌, inl, inr}
use mathlib.Core.Path.{◌≡◌, refl, sym, ap, ◌∙◌}
use Rattle.base.proofs.Truth.{either}
use Rattle.rules.specs.Run.{Engine}
use Rattle.dropping.specs.Kept.{Kept, without, kept_calls}
use Rattle.dropping.specs.Runs.{last_answer}
use Rattle.dropping.specs.Claims.{Minimal, RefusedStays, AllTaken}
use Rattle.dropping.proofs.Passes.{without_here, without_other}
use Rattle.dropping.proofs.Running.{before, step_kept, step_skipped}

module _ {X : Type 0} (E : Engine X) (stays : RefusedStays E) (call : ℕ → List ℕ) where
  -- choices that agree on a step lead from the same store to the same store
  step_same : (a b : Kept) (k : ℕ) → a k ≡ b k → before E call a k ≡ before E call b k
      → before E call a (suc k) ≡ before E call b (suc k)
  step_same a b k e same = go (either (b k))
    where
      go : (b k ≡ true) ⊎ (b k ≡ false) → before E call a (suc k) ≡ before E call b (suc k)
      go (inl t) = step_kept E call a k (e ∙ t) ∙ ap (λ (x : X). E.leaves x (call k)) same ∙ sym (step_kept E call b k t)
      go (inr f) = step_skipped E call a k (e ∙ f) ∙ same ∙ sym (step_skipped E call b k f)

  module _ (keep : Kept) (k : ℕ) where
    earlier : (n : ℕ) → n ≤ k → before E call (without keep k) n ≡ before E call keep n
    unfolding kept_calls
    earlier zero l = refl
    earlier (suc n) l =
        step_same (without keep k) keep n (without_other keep k n (λ e. omega arith)) (earlier n (omega arith))

    -- step k is kept and refused
    module _ (there : keep k ≡ true) (refused : E.answers (before E call keep k) (call k) ≡ 0 → ⊥) where
      later : (n : ℕ) → k < n → before E call (without keep k) n ≡ before E call keep n
      later zero l = absurd (omega arith)
      later (suc n) l = go (ℕ_discrete n k) (later n)
        where
          here : before E call (without keep k) (suc k) ≡ before E call keep (suc k)
          here =
              step_skipped E call (without keep k) k (without_here keep k) ∙ earlier k (omega arith)
              ∙ sym (step_kept E call keep k there ∙ stays (before E call keep k) (call k) refused)

          go : Dec (n ≡ k) → (k < n → before E call (without keep k) n ≡ before E call keep n)
              → before E call (without keep k) (suc n) ≡ before E call keep (suc n)
          go (yes e) at_n = rw e here
          go (no d) at_n = step_same (without keep k) keep n (without_other keep k n d) (at_n (omega arith))

  pub all_taken : (last : ℕ) (keep : Kept) → Minimal (last_answer E call last) last keep → AllTaken E call last keep
  unfolding last_answer
  all_taken last keep M k l there = go (ℕ_discrete (E.answers (before E call keep k) (call k)) 0)
    where
      go : Dec (E.answers (before E call keep k) (call k) ≡ 0) → E.answers (before E call keep k) (call k) ≡ 0
      go (yes taken) = taken
      go (no refused) =
          let gone = ap (λ (x : X). E.answers x (call last)) (later keep k there refused last l) in
          absurd (M.needed k l there (gone ∙ M.same_answer))
