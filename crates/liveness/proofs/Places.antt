-- From place to place of a list of calls, by the rules: what one call does, and what holds at every place.
use Prim.Native.Nat.{ℕ, zero, suc, ◌≤◌, ◌<◌}
use native.Mathlib.Decide.{dec_le, dec_lt}
use native.Mathlib.Omega.{arith}
use mathlib.Core.List.{List, [], ◌∷◌, ◌++◌, append-nil, append_assoc}
use mathlib.Core.Path.{◌≡◌, refl, sym, ap, subst, fun_ext, ◌∙◌}
use lib.ListN.{length, take}
use lib.Seq.{take-suc, take_all}
use Rattle.rules.specs.declared.Step.{Step}
use Rattle.std.specs.Prelude.{Some}
use Rattle.rules.specs.Table.{Table}
use Rattle.rules.specs.State.{State}
use Rattle.rules.specs.Form.{read}
use Rattle.rules.specs.Rules.{rule, answer, next, reply, leave}
use Rattle.rules.specs.Run.{Engine, run_from, store_from, by_rules, run}
use Rattle.rules.specs.Follows.{Follows}
use Rattle.rules.specs.Valid.{Valid}
use Rattle.rules.proofs.Answered.{Clear, done, by_call}
use Rattle.rules.proofs.Runs.{run-append}
use Rattle.rules.proofs.Follows.{as_ruled, next_answer}
use Rattle.rules.proofs.Valid.{always_valid}
use Rattle.rules.proofs.Grow.{Grows, same, then, grows_step}
use Rattle.liveness.specs.Places.{Behaviour, behaviour, behaviour_from, call_at, step_at, held_at, answer_at}
use Rattle.liveness.proofs.Keeps.{Keeps, of_growth}

-- a call that says a step stands within the list
pub in_list : (calls : List (List ℕ)) (i : ℕ) (st : Step) → step_at calls i ≡ Some st → i < length calls
unfolding read
in_list [] i st e = absurd (let z : ◌≡◌ {A = ℕ} 0 1 = cc in omega arith)
in_list (c ∷ calls) zero st e = omega arith
in_list (c ∷ calls) (suc i) st e = omega (arith, in_list calls i st e)

-- Seen from outside, wherever it started: what is held is valid, and each call is answered and leaves what the rules say.
pub record Obeys (T : Table) (E : Behaviour) : Type 0 where
  pub valid : (calls : List (List ℕ)) → Valid T (E.held calls)
  pub answers : (calls : List (List ℕ)) (c : List ℕ) → E.answers calls c ≡ reply T (E.held calls) (read c)
  pub one_more : (calls : List (List ℕ)) (c : List ℕ) → E.held (calls ++ (c ∷ [])) ≡ leave T (E.held calls) (read c)

-- what the rules do from the fresh state, as those outside see it
abbrev pub ruled : Table → Behaviour
ruled T = record { held = λ calls. (run T calls).engine; answers = λ calls c. reply T (run T calls).engine (read c) }

-- every engine that follows the rules does the same
pub as_rules : {T : Table} {X : Type 0} {E : Engine X} {Ready : X → Type 0} → Follows T E Ready → behaviour E ≡ ruled T
as_rules F = λ i. record {
  held = λ calls. (as_ruled F i calls).engine;
  answers = fun_ext (λ calls. fun_ext (λ c. next_answer F calls c)) i;
}

pub obeys : (T : Table) → Obeys T (ruled T)
unfolding run_from
obeys T = record { valid = always_valid T; answers = λ calls c. refl; one_more = λ calls c. rw (run-append T calls (c ∷ [])) }

-- and so does each of them from any ready store
module _ {T : Table} {X : Type 0} {E : Engine X} {Ready : X → Type 0} (F : Follows T E Ready) where
  ready_from : (calls : List (List ℕ)) (x : X) → Ready x → Ready (store_from E x calls)
  unfolding store_from
  ready_from [] x R = R
  ready_from (c ∷ calls) x R = ready_from calls (E.leaves x c) (F.stays_ready x R c)

  holds_from : (calls : List (List ℕ)) (x : X) → Ready x → E.holds (store_from E x calls) ≡ store_from (by_rules T) (E.holds x) calls
  unfolding store_from
  holds_from [] x R = refl
  holds_from (c ∷ calls) x R =
      holds_from calls (E.leaves x c) (F.stays_ready x R c)
      ∙ ap (λ (s : State). store_from (by_rules T) s calls) (F.leaves x R c)

  -- it does what the rules do from what the store holds
  pub as_rules_from : (x : X) → Ready x → behaviour_from E x ≡ behaviour_from (by_rules T) (E.holds x)
  as_rules_from x R = λ i. record {
    held = fun_ext (λ calls. holds_from calls x R) i;
    answers = fun_ext (λ calls. fun_ext (λ c. F.answers (store_from E x calls) (ready_from calls x R) c
        ∙ ap (λ (s : State). reply T s (read c)) (holds_from calls x R))) i;
  }

  store_more : (calls : List (List ℕ)) (x : X) (c : List ℕ) → store_from E x (calls ++ (c ∷ [])) ≡ E.leaves (store_from E x calls) c
  unfolding store_from
  store_more [] x c = refl
  store_more (d ∷ calls) x c = store_more calls (E.leaves x d) c

  pub obeys_from : (x : X) → Ready x → Obeys T (behaviour_from E x)
  obeys_from x R = record {
    valid = λ calls. F.valid (store_from E x calls) (ready_from calls x R);
    answers = λ calls c. F.answers (store_from E x calls) (ready_from calls x R) c;
    one_more = λ calls c. ap E.holds (store_more calls x c) ∙ F.leaves (store_from E x calls) (ready_from calls x R) c;
  }

module _ {T : Table} {E : Behaviour} (O : Obeys T E) (earlier later : List (List ℕ)) where
  abbrev now : ℕ → State
  now i = held_at E earlier later i

  pub at-start : now 0 ≡ E.held earlier
  at-start = ap (λ (l : List (List ℕ)). E.held l) (append-nil earlier)

  pub at-end : (i : ℕ) → length later ≤ i → now i ≡ E.held (earlier ++ later)
  at-end i l = ap (λ (k : List (List ℕ)). E.held (earlier ++ k)) (take_all i later l)

  pub now_next : (i : ℕ) → i < length later → now (suc i) ≡ leave T (now i) (step_at later i)
  now_next i l =
      ap (λ (k : List (List ℕ)). E.held k)
      (ap (λ (k : List (List ℕ)). earlier ++ k) (take-suc later i [] l)
      ∙ sym (append_assoc earlier (take i later) (call_at later i ∷ [])))
      ∙ O.one_more (earlier ++ take i later) (call_at later i)

  -- the step at place i: its answer, what it leaves, and so where it is answered 0
  pub its_answer : (i : ℕ) (st : Step) → step_at later i ≡ Some st → answer_at E earlier later i ≡ answer T (now i) st
  unfolding reply
  its_answer i st e = O.answers (earlier ++ take i later) (call_at later i) ∙ ap (reply T (now i)) e

  pub now_step : (i : ℕ) (st : Step) → step_at later i ≡ Some st → now (suc i) ≡ next T (now i) st
  unfolding leave
  now_step i st e = now_next i (in_list later i st e) ∙ ap (leave T (now i)) e

  pub now_done : (i : ℕ) (st : Step) → step_at later i ≡ Some st → answer T (now i) st ≡ 0 → now (suc i) ≡ (rule T (now i) st).effect
  now_done i st e a = now_step i st e ∙ done T (now i) st a

  -- what holds at a place, and is kept by the step there where it is not refused, holds at the next
  one_on : (P : State → Type 0) (i : ℕ) → P (now i)
      → ((st : Step) → step_at later i ≡ Some st → answer T (now i) st ≡ 0 → Clear T (now i) st → P (rule T (now i) st).effect)
      → P (now (suc i))
  one_on P i q f = go (dec_lt i (length later))
    where
      go : Dec (i < length later) → P (now (suc i))
      go (yes l) = subst P (sym (now_next i l)) (by_call T P (now i) q (step_at later i) f)
      go (no l) = subst P (at-end i (omega arith) ∙ sym (at-end (suc i) (omega arith))) q

  -- what holds at the start, and is kept by each step that is not refused, holds at every place
  pub along : (P : State → Type 0) → P (E.held earlier)
      → ((i : ℕ) (st : Step) → step_at later i ≡ Some st → answer T (now i) st ≡ 0 → Clear T (now i) st → P (now i)
      → P (rule T (now i) st).effect) → (i : ℕ) → P (now i)
  along P p f zero = subst P (sym at-start) p
  along P p f (suc i) = one_on P i (along P p f i) (λ st e a c. f i st e a c (along P p f i))

  -- what is held grows from place to place
  grows : (i k : ℕ) → i ≤ k → Grows T (now i) (now k)
  grows i zero l = subst (λ (m : ℕ). Grows T (now m) (now 0)) {x = 0} {y = i} (omega arith) (same T (now 0))
  grows i (suc k) l = go (dec_le i k) (grows i k)
    where
      go : Dec (i ≤ k) → (i ≤ k → Grows T (now i) (now k)) → Grows T (now i) (now (suc k))
      go (yes m) before = one_on (Grows T (now i)) k (before m)
          (λ st e a c. then T (now i) (now k) (rule T (now k) st).effect (before m) (grows_step T (now k) st c))
      go (no m) before = subst (λ (m : ℕ). Grows T (now m) (now (suc k))) {x = suc k} {y = i} (omega arith) (same T (now (suc k)))

  pub keeps : (i k : ℕ) → i ≤ k → Keeps T (now i) (now k)
  keeps i k l = of_growth (grows i k l)

  pub since : (i : ℕ) → Keeps T (E.held earlier) (now i)
  since i = subst (λ (v : State). Keeps T v (now i)) at-start (keeps 0 i (omega arith))
