-- Engines that follow the rules: the rules do, and what such an engine answers and holds after calls is what the rules do.
use Prim.Native.Nat.{ℕ}
use mathlib.Core.List.{List, [], ◌∷◌}
use mathlib.Core.Path.{◌≡◌, refl, ap, ap₂, fun_ext, ◌∙◌}
use Rattle.rules.specs.Form.{Call}
use Rattle.rules.specs.Table.{Table}
use Rattle.rules.specs.State.{State, fresh}
use Rattle.rules.specs.Form.{read}
use Rattle.rules.specs.Rules.{reply, leave}
use Rattle.rules.specs.Ideal.{Fed}
use Rattle.rules.specs.Run.{World, Engine, seen_with, run_from, after, store_from, store_after, answers_from, by_rules, run}
use Rattle.rules.specs.Follows.{Follows}
use Rattle.rules.specs.Valid.{Valid}
use Rattle.rules.proofs.Answered.{by_call}
use Rattle.rules.proofs.Runs.{ruled}
use Rattle.rules.proofs.Valid.{keeps_valid, fresh_valid}

module _ (T : Table) where
  leaves_valid : (s : State) → Valid T s → (c : Call) → Valid T (leave T s c)
  leaves_valid s G c = by_call T (Valid T) s G c (λ st e a clear. keeps_valid T s G st clear)

  pub rules_follow : Follows T (by_rules T) (Valid T)
  rules_follow = record {
    starts_ready = fresh_valid T;
    starts_fresh = refl;
    valid = λ s G. G;
    answers = λ s G c. refl;
    leaves = λ s G c. refl;
    stays_ready = λ s G c. leaves_valid s G (read c);
  }

module _ {T : Table} {X : Type 0} {E : Engine X} {Ready : X → Type 0} (F : Follows T E Ready) where
  -- from any ready store
  pub ruled_from : (calls : List (List ℕ)) (x : X) (seen : List Fed) → Ready x → run_from E x seen calls ≡ ruled T (E.holds x) seen calls
  unfolding run_from
  ruled_from [] x seen R = refl
  ruled_from (c ∷ calls) x seen R =
      ruled_from calls (E.leaves x c) (seen_with seen (E.holds x).bag (read c) (E.answers x c)) (F.stays_ready x R c)
      ∙ ap₂ (λ (t : State) (a : ℕ). ruled T t (seen_with seen (E.holds x).bag (read c) a) calls) (F.leaves x R c) (F.answers x R c)

  pub answered_from : (calls : List (List ℕ)) (x : X) → Ready x → answers_from E x calls ≡ answers_from (by_rules T) (E.holds x) calls
  unfolding answers_from
  answered_from [] x R = refl
  answered_from (c ∷ calls) x R =
      ap₂ (λ (a : ℕ) (later : List ℕ). a ∷ later) (F.answers x R c)
      (answered_from calls (E.leaves x c) (F.stays_ready x R c) ∙ ap (λ (t : State). answers_from (by_rules T) t calls) (F.leaves x R c))

  -- from the start
  pub as_ruled : after E ≡ run T
  unfolding after
  as_ruled = fun_ext (λ calls. ruled_from calls E.starts [] F.starts_ready ∙ ap (λ (s : State). ruled T s [] calls) F.starts_fresh)

  pub answered_as_ruled : (calls : List (List ℕ)) → answers_from E E.starts calls ≡ answers_from (by_rules T) fresh calls
  answered_as_ruled calls = answered_from calls E.starts F.starts_ready ∙ ap (λ (s : State). answers_from (by_rules T) s calls)
      F.starts_fresh

  -- the store after a list of calls is ready, and holds what is held then
  pub store-from : (calls : List (List ℕ)) (x : X) (seen : List Fed) → Ready x
      → Ready (store_from E x calls) × (E.holds (store_from E x calls) ≡ (run_from E x seen calls).engine)
  unfolding run_from store_from
  store-from [] x seen R = (R, refl)
  store-from (c ∷ calls) x seen R =
      store-from calls (E.leaves x c) (seen_with seen (E.holds x).bag (read c) (E.answers x c)) (F.stays_ready x R c)

  -- so the next call is answered as the rules answer it
  pub next_answer : (calls : List (List ℕ)) (c : List ℕ) → E.answers (store_after E calls) c ≡ reply T (run T calls).engine (read c)
  unfolding after
  next_answer calls c =
      let left = store-from calls E.starts [] F.starts_ready in
      F.answers (store_after E calls) left.0 c
      ∙ ap (λ (s : State). reply T s (read c)) (left.1 ∙ ap (λ (w : List (List ℕ) → World). (w calls).engine) as_ruled)
