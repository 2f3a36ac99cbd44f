-- The last answer of a rehearsal by any engine, where of the steps before the last those that are kept have run.
use Rattle.std.specs.Prelude.{ℕ, List, [], ◌∷◌}
use Rattle.rules.specs.Run.{Engine, store_after}
use Rattle.dropping.specs.Kept.{Kept, kept_calls}

-- the kept calls are run as a list of their own, from the engine's start
unfoldable pub last_answer : {X : Type 0} → Engine X → (ℕ → List ℕ) → ℕ → Kept → ℕ
last_answer E call last keep = E.answers (store_after E (kept_calls call keep last)) (call last)

-- the last of some numbers; 0 if there are none
unfoldable pub last_of : List ℕ → ℕ
last_of [] = 0
last_of (a ∷ []) = a
last_of (a ∷ b ∷ rest) = last_of (b ∷ rest)
