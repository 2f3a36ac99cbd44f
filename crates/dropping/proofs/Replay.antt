-- The kept calls as a list of their own: with the last step kept it is the last of them, and gets the last answer.
use Prim.Native.Nat.{ℕ, suc}
use mathlib.Core.Bool.{true, false}
use mathlib.Core.List.{List, [], ◌∷◌, ◌++◌, append-nil}
use mathlib.Core.Path.{◌≡◌, refl, ap}
use Rattle.rules.specs.Run.{Engine, store_from, answers_from}
use Rattle.dropping.specs.Kept.{Kept, kept_calls}
use Rattle.dropping.specs.Runs.{last_answer, last_of}
use Rattle.dropping.specs.Claims.{Replays}

-- the last of numbers with one more at their end
last_more : (l : List ℕ) (a : ℕ) → last_of (l ++ (a ∷ [])) ≡ a
unfolding last_of
last_more [] a = refl
last_more (b ∷ []) a = refl
last_more (b ∷ c ∷ l) a = last_more (c ∷ l) a

-- a list of calls with one more at its end: the store after it, and the answers
module _ {X : Type 0} (E : Engine X) where
  pub store_more : (x : X) (l : List (List ℕ)) (c : List ℕ) → store_from E x (l ++ (c ∷ [])) ≡ E.leaves (store_from E x l) c
  unfolding store_from
  store_more x [] c = refl
  store_more x (d ∷ l) c = store_more (E.leaves x d) l c

  pub answers_more : (x : X) (l : List (List ℕ)) (c : List ℕ)
      → answers_from E x (l ++ (c ∷ [])) ≡ answers_from E x l ++ (E.answers (store_from E x l) c ∷ [])
  unfolding answers_from store_from
  answers_more x [] c = refl
  answers_more x (d ∷ l) c = ap (λ (r : List ℕ). E.answers x d ∷ r) (answers_more (E.leaves x d) l c)

-- one more step: kept, or not

module _ (call : ℕ → List ℕ) (keep : Kept) (k : ℕ) where
  pub calls-kept : keep k ≡ true → kept_calls call keep (suc k) ≡ kept_calls call keep k ++ (call k ∷ [])
  unfolding kept_calls
  calls-kept e = rw e

  pub calls_skipped : keep k ≡ false → kept_calls call keep (suc k) ≡ kept_calls call keep k
  unfolding kept_calls
  calls_skipped e = rw e (append-nil (kept_calls call keep k))

pub replays : {X : Type 0} (E : Engine X) (call : ℕ → List ℕ) (last : ℕ) (keep : Kept) → keep last ≡ true → Replays E call last keep
unfolding last_answer
replays E call last keep e =
    let before = kept_calls call keep last in
    record {
      ends = calls-kept call keep last e;
      answered = rw (calls-kept call keep last e, answers_more E E.starts before (call last), last_more);
    }
