-- What is promised of the steps that are left.
use Rattle.std.specs.Prelude.{ℕ, suc, ◌≤◌, ◌<◌, true, false, List, [], ◌∷◌, ◌++◌, ◌≡◌}
use Rattle.rules.specs.Run.{Engine, store_after, answers_from}
use Rattle.dropping.specs.Kept.{Kept, every_step, without, kept_calls}
use Rattle.dropping.specs.Passes.{pass, drops, passes, left}
use Rattle.dropping.specs.Runs.{last_answer, last_of}

module _ (answer : Kept → ℕ) (last : ℕ) where
  -- where passes end that start from what is kept, with no bound on them: at the first of which a pass drops none
  pub data EndAt (end : Kept) : Kept → Type 0 where
    rests : drops answer last end ≡ false → EndAt end end
    goes_on : {keep : Kept} → drops answer last keep ≡ true → EndAt end (pass answer last keep) → EndAt end keep

  -- passes from every step on end here, a pass drops none of it, and no bound on the passes shows
  pub record Settled (keep : Kept) : Type 0 where
    pub ends : EndAt keep every_step
    pub none_dropped : pass answer last keep ≡ keep
    pub no_bound : (most : ℕ) → last ≤ most → passes answer last most every_step ≡ keep

  -- what is kept refuses as before, and no step but the last can be left out of it: it is 1-minimal, as it is said of
  -- failing inputs
  pub record Minimal (keep : Kept) : Type 0 where
    -- the last step is kept
    pub keeps_last : keep last ≡ true
    -- the last answer is the same number
    pub same_answer : answer keep ≡ answer every_step
    -- leaving out any single other step changes it
    pub needed : (k : ℕ) → k < last → keep k ≡ true → answer (without keep k) ≡ answer every_step → ⊥

-- kept steps with the last among them, by any engine: run as a list of calls of their own from the engine's start, they
-- end with the last step, and the last of their answers is the last answer
pub record Replays {X : Type 0} (E : Engine X) (call : ℕ → List ℕ) (last : ℕ) (keep : Kept) : Type 0 where
  pub ends : kept_calls call keep (suc last) ≡ kept_calls call keep last ++ (call last ∷ [])
  pub answered : last_of (answers_from E E.starts (kept_calls call keep (suc last))) ≡ last_answer E call last keep

-- a call that is refused leaves the store as it was
abbrev pub RefusedStays : {X : Type 0} → Engine X → Type 0
RefusedStays {X} E = (x : X) (c : List ℕ) → (E.answers x c ≡ 0 → ⊥) → E.leaves x c ≡ x

-- each kept step before the last is answered 0
abbrev pub AllTaken : {X : Type 0} → Engine X → (ℕ → List ℕ) → ℕ → Kept → Type 0
AllTaken E call last keep =
    (k : ℕ) → k < last → keep k ≡ true → E.answers (store_after E (kept_calls call keep k)) (call k) ≡ 0

-- all of it, of a rehearsal by any engine
pub record Shrinks {X : Type 0} (E : Engine X) (call : ℕ → List ℕ) (last : ℕ) : Type 0 where
  pub settled : Settled (last_answer E call last) last (left (last_answer E call last) last)
  pub minimal : Minimal (last_answer E call last) last (left (last_answer E call last) last)
  pub replayed : Replays E call last (left (last_answer E call last) last)
  pub all_taken : RefusedStays E → AllTaken E call last (left (last_answer E call last) last)
