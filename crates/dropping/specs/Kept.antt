-- Steps of which some are kept. They count from 0.
use Rattle.std.specs.Prelude.{ℕ, zero, suc, Bool, true, cond, ◌&&◌, not, List, [], ◌∷◌, ◌++◌, eqb}
use Rattle.base.specs.Below.{any}

-- which steps are kept
abbrev pub Kept : Type 0
Kept = ℕ → Bool

-- every step
abbrev pub every_step : Kept
every_step k = true

-- those that are kept but step k
unfoldable pub without : Kept → ℕ → Kept
without keep k i = keep i && not (eqb i k)

-- of the steps below n one that was kept before is not kept now
unfoldable pub lost : ℕ → Kept → Kept → Bool
lost n before now = any n (λ k. before k && not (now k))

-- of the first n steps those that are kept, in their order: the calls that they are
unfoldable pub kept_calls : (ℕ → List ℕ) → Kept → ℕ → List (List ℕ)
kept_calls call keep zero = []
kept_calls call keep (suc k) = kept_calls call keep k ++ cond (keep k) (call k ∷ []) []
