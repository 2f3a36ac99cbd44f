-- What those outside see of an engine, and the places of a list of calls that it is given.
use Rattle.std.specs.Prelude.{ℕ, List, [], ◌++◌, get_or, take}
use Rattle.rules.specs.Form.{Call}
use Rattle.rules.specs.State.{State}
use Rattle.rules.specs.Form.{read}
use Rattle.rules.specs.Run.{Engine, after, store_from, store_after}

-- what is held after a list of calls, and the answer that the next call gets
pub record Behaviour : Type 0 where
  pub held : List (List ℕ) → State
  pub answers : List (List ℕ) → List ℕ → ℕ

-- from the fresh state
abbrev pub behaviour : {X : Type 0} → Engine X → Behaviour
behaviour E = record {
  held = λ calls. (after E calls).engine;
  answers = λ calls c. E.answers (store_after E calls) c;
}

-- from any store, lent to it
abbrev pub behaviour_from : {X : Type 0} → Engine X → X → Behaviour
behaviour_from E x = record {
  held = λ calls. E.holds (store_from E x calls);
  answers = λ calls c. E.answers (store_from E x calls) c;
}

-- the call at place i of a list, counted from 0; past its end stands one of no bytes, which is no step
abbrev pub call_at : List (List ℕ) → ℕ → List ℕ
call_at calls i = get_or calls i []

-- what it says
abbrev pub step_at : List (List ℕ) → ℕ → Call
step_at calls i = read (call_at calls i)

-- what is held before the call at place i of `later`, which follows `earlier`; past its end, what is held after all
abbrev pub held_at : Behaviour → List (List ℕ) → List (List ℕ) → ℕ → State
held_at E earlier later i = E.held (earlier ++ take i later)

-- the answer that this call gets
abbrev pub answer_at : Behaviour → List (List ℕ) → List (List ℕ) → ℕ → ℕ
answer_at E earlier later i = E.answers (earlier ++ take i later) (call_at later i)
