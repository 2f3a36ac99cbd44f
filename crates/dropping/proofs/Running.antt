-- A run of the kept steps, as a loop: none yet; one more, kept or not.
use Prim.Native.Nat.{ℕ, suc, ◌+◌}
use native.Mathlib.Omega.{arith}
use mathlib.Core.Bool.{true, false}
use mathlib.Core.List.{List}
use mathlib.Core.Path.{◌≡◌, refl, sym, ap, ◌∙◌}
use Rattle.rules.specs.Run.{Engine, store_from, store_after}
use Rattle.dropping.specs.Kept.{Kept, kept_calls}
use Rattle.dropping.proofs.Replay.{store_more, calls-kept, calls_skipped}

module _ {X : Type 0} (E : Engine X) (call : ℕ → List ℕ) (keep : Kept) where
  -- the store before step k
  abbrev pub before : ℕ → X
  before k = store_after E (kept_calls call keep k)

  pub run_none : E.starts ≡ before 0
  unfolding kept_calls store_from
  run_none = refl

  pub step_kept : (k : ℕ) → keep k ≡ true → before (suc k) ≡ E.leaves (before k) (call k)
  step_kept k t = ap (store_after E) (calls-kept call keep k t) ∙ store_more E E.starts (kept_calls call keep k) (call k)

  pub step_skipped : (k : ℕ) → keep k ≡ false → before (suc k) ≡ before k
  step_skipped k f = ap (store_after E) (calls_skipped call keep k f)

  -- as code counts
  next : (k : ℕ) → before (suc k) ≡ before (k + 1)
  next k = ap before {x = suc k} {y = k + 1} (omega arith)

  pub run-kept : (k : ℕ) (x y : X) → keep k ≡ true → x ≡ before k → y ≡ E.leaves x (call k) → y ≡ before (k + 1)
  run-kept k x y t e f = f ∙ ap (λ (z : X). E.leaves z (call k)) e ∙ sym (step_kept k t) ∙ next k

  pub run_skipped : (k : ℕ) (x : X) → keep k ≡ false → x ≡ before k → x ≡ before (k + 1)
  run_skipped k x f e = e ∙ sym (step_skipped k f) ∙ next k
