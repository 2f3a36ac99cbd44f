-- A run of the kept steps on the state's bytes: the states are ready, and each kept step leads from one to the next.
use Prim.Native.Nat.{ℕ, ◌+◌, ◌-◌, ◌^◌, ◌≤◌, ◌<◌}
use native.Mathlib.Nat.{le_antisymm}
use native.Mathlib.Omega.{arith}
use mathlib.Core.Bool.{Bool, true, false}
use mathlib.Core.List.{List, [], ◌∷◌}
use mathlib.Core.Path.{◌≡◌, sym, ap, subst, ◌∙◌}
use lib.ListN.{length, replicate, drop, length-take}
use Rattle.base.specs.Bytes.{part}
use Rattle.header.specs.declared.Head.{Head}
use Rattle.header.specs.Header.{head_of}
use Rattle.ballot.specs.Table.{refusal}
use Rattle.clash.specs.Clash.{clash_rows}
use Rattle.rules.specs.Run.{store_from, store_after}
use Rattle.state.specs.Layout.{size}
use Rattle.view.specs.Ready.{Ready}
use Rattle.engine.specs.Engine.{step_answer, step_bytes, fresh_state}
use Rattle.rehearsal.specs.Input.{input_most, table_end, table_in, input_refusal, step_count, call_at}
use Rattle.rehearsal.specs.Running.{Taken, Made}
use Rattle.rehearsal.proofs.Taking.{taken}
use Rattle.rehearsal.proofs.Playing.{made}
use Rattle.guarantee.specs.Demand3.{by_bytes}
use Rattle.guarantee.proofs.Demand3.{bytes_follow}
use Rattle.dropping.specs.Kept.{Kept, kept_calls}
use Rattle.dropping.specs.Passes.{left}
use Rattle.dropping.specs.Runs.{last_answer}
use Rattle.dropping.proofs.Running.{run_none, run-kept, run_skipped}
use Rattle.trials.specs.Answers.{last_step, answer_in, steps_left}
use Rattle.trials.specs.Running.{Fixed, Stands}

-- the table's length is where it ends, and the steps start

pub table_long : {input : List ℕ} → Taken input → length (table_in input) ≡ table_end input
unfolding table_in part
table_long {input} T = length-take (table_end input) (drop 0 input) ∙ omega (arith, T.there)

module _ {input table : List ℕ} {h : Head} {rows : List ℕ} (M : Made input table h rows) where
  pub table_ends : length table ≡ table_end input
  table_ends = ap length M.cut ∙ table_long M.taken

  pub table_few : length table ≤ input_most
  table_few = omega (arith, table_ends, M.taken.there, M.taken.few)

-- the state after any calls is ready
module _ (table : List ℕ) (fit : refusal table ≡ 0) where
  ready_from : (calls : List (List ℕ)) (s : List ℕ) → Ready (head_of table) s → Ready (head_of table) (store_from (by_bytes table) s calls)
  unfolding store_from
  ready_from [] s R = R
  ready_from (c ∷ calls) s R = ready_from calls (step_bytes table s c) ((bytes_follow table fit).stays_ready s R c)

  ready_after : (calls : List (List ℕ)) → Ready (head_of table) (store_after (by_bytes table) calls)
  ready_after calls = ready_from calls fresh_state (bytes_follow table fit).starts_ready

-- so is the state before a step

module _ {input : List ℕ} (T : Taken input) {keep : Kept} {k : ℕ} {s : List ℕ} (now : Stands input keep k s) where
  ready_now : Ready (head_of (table_in input)) s
  ready_now =
      let after = ready_after (table_in input) T.table (kept_calls (call_at input) keep k) in
      subst (Ready (head_of (table_in input))) (sym now.state) after

  pub state_long : length s ≡ size
  state_long = ready_now.canon.long

pub same_long : {input s : List ℕ} (t : List ℕ) {keep : Kept} {k : ℕ} → Taken input → length t ≡ size → Stands input keep k s
    → length s ≡ length t
same_long t T long now = state_long T now ∙ sym long

module _ {input table : List ℕ} {h : Head} {rows : List ℕ} (M : Made input table h rows) {keep : Kept} {k : ℕ} {s : List ℕ}
    (now : Stands input keep k s) where
  pub can_run : Ready h s
  can_run = subst (λ g. Ready g s) (sym (M.prepared.head ∙ ap head_of M.cut)) (ready_now M.taken now)

  -- a kept step was run
  pub step_ran : {step t : List ℕ} {b : Bool} → b ≡ keep k → b ≡ true → step ≡ call_at input k
      → t ≡ step_bytes table s step → Stands input keep (k + 1) t
  step_ran {step} {t} e b c done = record {
    state = run-kept (by_bytes (table_in input)) (call_at input) keep k s t (sym e ∙ b) now.state (done ∙ rw (M.cut, c));
  }

  -- one that is not kept was left out
  pub step_skipped : {b : Bool} → b ≡ keep k → b ≡ false → Stands input keep (k + 1) s
  step_skipped e b = record { state = run_skipped (by_bytes (table_in input)) (call_at input) keep k s (sym e ∙ b) now.state }

-- the loop: none yet, and all

pub none_ran : {input t : List ℕ} {keep : Kept} {n : ℕ} → n ≡ size → t ≡ replicate n 0 → Stands input keep 0 t
unfolding fresh_state
none_ran {input} {t} {keep} long zeros = record {
  state = zeros ∙ ap (λ (k : ℕ). replicate k 0) long ∙ run_none (by_bytes (table_in input)) (call_at input) keep;
}

pub all_ran : {input s : List ℕ} {keep : Kept} {k n : ℕ} → Stands input keep k s → k ≤ n → n ≤ k → Stands input keep n s
all_ran {input} {s} {keep} e a b = subst (λ (i : ℕ). Stands input keep i s) (le_antisymm a b) e

-- the last step's answer

module _ {input table : List ℕ} {last : ℕ} {h : Head} {rows : List ℕ} (F : Fixed input table h rows last) where
  pub is_last : last ≡ last_step input
  is_last = omega (arith, F.counted)

  -- there are no more steps than bytes in the longest input
  pub count_few : last + 1 ≤ input_most
  unfolding step_count
  count_few = omega (arith, F.counted, F.made.taken.few)

  pub last_few : last ≤ input_most
  last_few = omega (arith, count_few)

  pub step_few : (k : ℕ) → k < last → k < input_most
  step_few k l = omega (arith, count_few)

  pub last_ran : {keep : Kept} {s step : List ℕ} {a : ℕ} → Stands input keep last s → step ≡ call_at input last
      → a ≡ step_answer table s step → a ≡ answer_in input keep
  unfolding answer_in last_answer
  last_ran now c done = done ∙ rw (F.made.cut, c, now.state, is_last)

  -- what passes leave
  pub steps_left_lem : {keep : Kept} → keep ≡ left (answer_in input) last → keep ≡ steps_left input
  unfolding steps_left
  steps_left_lem e = e ∙ ap (left (answer_in input)) is_last

-- what the trials have in common, and room for a flag for each step

pub fixed : {input table : List ℕ} {n : ℕ} {h : Head} {rows : List ℕ} → input_refusal input ≡ 0 → table ≡ table_in input → h ≡ head_of table
    → rows ≡ clash_rows table → n ≡ step_count input → (n ≡ 0 → ⊥) → Fixed input table h rows (n - 1)
fixed {input} good cut head rows count some = record {
  made = made (taken input good) cut head rows;
  counted = omega (arith, count, some);
}
