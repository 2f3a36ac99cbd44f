-- Demand 3 of what a report shows: for every input that is not refused and whose table has honest weight of at least t.
use Prim.Native.Nat.{ℕ, zero, suc, ◌+◌, ◌≤◌}
use native.Mathlib.Omega.{arith}
use mathlib.Core.List.{List, []}
use mathlib.Core.Path.{◌≡◌, sym, ap, ap₂, ◌∙◌}
use Rattle.header.specs.Header.{head_of, threshold_of}
use Rattle.header.specs.Quorum.{honest_weight}
use Rattle.rules.specs.Form.{read}
use Rattle.rules.specs.Ideal.{Fed}
use Rattle.rules.specs.Run.{World, seen_with, run_from, after}
use Rattle.base.specs.Tab.{tab}
use Rattle.state.specs.Contents.{contents}
use Rattle.base.proofs.Tab.{tab_ext}
use Rattle.view.specs.View.{state_of}
use Rattle.engine.specs.Engine.{step_answer, step_bytes, fresh_state}
use Rattle.rehearsal.specs.Input.{table_in, input_refusal, step_count, call_at}
use Rattle.rehearsal.specs.Rehearsal.{state_at, last_state}
use Rattle.rehearsal.proofs.Taking.{taken}
use Rattle.guarantee.specs.Demand3.{by_bytes, after_calls}
use Rattle.guarantee.specs.Rehearsed.{calls_in, ShownSafe}
use Rattle.guarantee.proofs.Demand3.{demand_3_on_bytes}

module _ (input : List ℕ) where
  abbrev table : List ℕ
  table = table_in input

  abbrev run : List ℕ → List Fed → List (List ℕ) → World
  run = run_from (by_bytes table)

  -- n steps from step k on
  leads : (n k : ℕ) (seen : List Fed)
      → (run (state_at input k) seen (tab n (λ i. call_at input (i + k)))).engine ≡ state_of (contents (state_at input (n + k)))
  unfolding run_from tab state_at
  leads zero k seen = ap (λ (i : ℕ). state_of (contents (state_at input i))) {x = k} {y = 0 + k} (omega arith)
  leads (suc n) k seen =
      let c = call_at input k in
      let later = seen_with seen (contents (state_at input k)).bag (read c) (step_answer table (state_at input k) c) in
      ap₂ (λ (d : List ℕ) (rest : List (List ℕ)). (run (step_bytes table (state_at input k) d)
      (seen_with seen (contents (state_at input k)).bag (read d) (step_answer table (state_at input k) d)) rest).engine)
      (ap (call_at input) {x = 0 + k} {y = k} (omega arith))
      (tab_ext n (λ i. call_at input (suc i + k)) (λ i. call_at input (i + suc k))
      (λ i l. ap (call_at input) {x = suc i + k} {y = i + suc k} (omega arith)))
      ∙ leads n (suc k) later
      ∙ ap (λ (i : ℕ). state_of (contents (state_at input i))) {x = n + suc k} {y = suc n + k} (omega arith)

  pub shown : state_of (contents (last_state input)) ≡ (after_calls table (calls_in input)).engine
  unfolding last_state after state_at
  shown =
      sym (ap (λ (calls : List (List ℕ)). (run fresh_state [] calls).engine)
      (tab_ext (step_count input) (call_at input) (λ i. call_at input (i + 0)) (λ i l. ap (call_at input) {x = i} {y = i + 0} (omega arith)))
      ∙ leads (step_count input) 0 []
      ∙ ap (λ (i : ℕ). state_of (contents (state_at input i))) {x = step_count input + 0} {y = step_count input} (omega arith))

  pub demand_3_shown : input_refusal input ≡ 0 → threshold_of table ≤ honest_weight (head_of table) → ShownSafe input
  demand_3_shown fit enough = record {
    shown = shown;
    safe = demand_3_on_bytes table (record { taken = (taken input fit).table; honest = enough }) (calls_in input);
  }
