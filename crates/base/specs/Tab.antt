-- Lists from functions on their places.
use Rattle.std.specs.Prelude.{ℕ, zero, suc, ◌<◌, List, [], ◌∷◌, ◌≡◌, length, get_or}

-- the list of f 0, f 1, .., f (n - 1)
unfoldable pub tab : {A : Type 0} → ℕ → (ℕ → A) → List A
tab zero f = []
tab (suc n) f = f 0 ∷ tab n (λ k. f (suc k))

-- a list of m places, of which the first n are filled with f 0, f 1, ..; d stands past its end
pub record FilledTo {A : Type 0} (d : A) (m : ℕ) (f : ℕ → A) (n : ℕ) (l : List A) : Type 0 where
  pub long : length l ≡ m
  pub each : (k : ℕ) → k < n → get_or l k d ≡ f k
