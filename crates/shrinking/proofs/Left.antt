-- What is proved of any engine holds of the engine on bytes, and its last answer is that of the report.
use Prim.Native.Nat.{ℕ, zero, suc}
use native.Mathlib.Omega.{arith}
use mathlib.Core.List.{List}
use mathlib.Core.Path.{◌≡◌, refl, sym, ap, ◌∙◌}
use lib.Dec.{eqb}
use borrow.Author.Tests.{eq-eqb, ne_eqb}
use Rattle.base.proofs.Truth.{split, or_false_l, or_false_r}
use Rattle.rules.specs.Run.{store_after, answers_from}
use Rattle.engine.specs.Engine.{step_answer, step_bytes, fresh_state}
use Rattle.rehearsal.specs.Input.{table_in, step_count, call_at}
use Rattle.rehearsal.specs.Rehearsal.{state_at}
use Rattle.rehearsal.proofs.Taking.{taken}
use Rattle.guarantee.specs.Demand3.{by_bytes}
use Rattle.guarantee.proofs.Demand3.{bytes_follow}
use Rattle.dropping.specs.Kept.{every_step, kept_calls}
use Rattle.dropping.specs.Runs.{last_answer, last_of}
use Rattle.dropping.specs.Claims.{RefusedStays}
use Rattle.dropping.proofs.Left.{shrinks}
use Rattle.dropping.proofs.Rules.{left_ruled}
use Rattle.dropping.proofs.Running.{run_none, step_kept}
use Rattle.shrinking.proofs.Judged.{input_passed, not-clean, then_left}
use Rattle.trials.specs.Answers.{last_step, answer_in, steps_left}
use Rattle.shrinking.specs.Shrunk.{clean, shrink_refusal}
use Rattle.shrinking.specs.Left.{StillRefuses}

-- a refused call alters nothing
refused_stays : (table : List ℕ) → RefusedStays (by_bytes table)
unfolding step_bytes
refused_stays table s step refused = rw (ne_eqb (step_answer table s step) 0 refused)

module _ (input : List ℕ) where
  -- with every step kept, the states are the report's
  states : (k : ℕ) → store_after (by_bytes (table_in input)) (kept_calls (call_at input) every_step k) ≡ state_at input k
  unfolding state_at
  states zero = sym (run_none (by_bytes (table_in input)) (call_at input) every_step)
  states (suc k) =
      step_kept (by_bytes (table_in input)) (call_at input) every_step k refl
      ∙ ap (λ (s : List ℕ). step_bytes (table_in input) s (call_at input k)) (states k)

  last_reported : answer_in input every_step ≡ step_answer (table_in input) (state_at input (last_step input)) (call_at input (last_step input))
  unfolding answer_in last_answer
  last_reported = ap (λ (s : List ℕ). step_answer (table_in input) s (call_at input (last_step input))) (states (last_step input))

module _ (input : List ℕ) (zero : shrink_refusal input ≡ 0) where
  abbrev last : ℕ
  last = last_step input

  some_step : step_count input ≡ 0 → ⊥
  unfolding clean
  some_step e = split (eq-eqb (step_count input) 0 e) (or_false_l (eqb (step_count input) 0) _ (not-clean input zero))

  last_refused : answer_in input every_step ≡ 0 → ⊥
  unfolding clean
  last_refused e = split (eq-eqb (answer_in input every_step) 0 e) (or_false_r (eqb (step_count input) 0) _ (not-clean input zero))

  pub counted : step_count input ≡ suc last
  counted = omega (arith, some_step)

  pub still_refuses : StillRefuses input
  unfolding answer_in steps_left
  still_refuses =
      let E = by_bytes (table_in input) in
      let S = shrinks E (call_at input) last in
      let table = (taken input (input_passed input zero)).table in
      record {
        some = omega (arith, some_step);
        reported = last_reported input;
        refuses = last_refused;
        settled = S.settled;
        minimal = S.minimal;
        ends = ap (kept_calls (call_at input) (steps_left input)) counted ∙ S.replayed.ends;
        replayed = ap (λ (n : ℕ). last_of (answers_from E fresh_state (kept_calls (call_at input) (steps_left input) n))) counted
            ∙ S.replayed.answered ∙ S.minimal.same_answer;
        all_taken = S.all_taken (refused_stays (table_in input));
        printed = sym (then_left input (input_passed input zero) (not-clean input zero));
        by_rules_lem = left_ruled (bytes_follow (table_in input) table) (call_at input) last;
      }
