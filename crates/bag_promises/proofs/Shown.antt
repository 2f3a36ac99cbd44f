-- Where the gain of a rehearsal's steps is at most 256 no line of its report says 13.
use Prim.Native.Nat.{ℕ, zero, suc, ◌+◌, ◌-◌, ◌*◌, ◌/◌, ◌%◌, ◌<◌}
use native.Mathlib.Decide.{ℕ_discrete}
use native.Mathlib.Nat.{not-suc-le-zero}
use native.Mathlib.Omega.{arith}
use mathlib.Core.Bool.{true, false, not}
use mathlib.Core.List.{List, [], ◌∷◌, ◌++◌, append_assoc}
use mathlib.Core.Path.{◌≡◌, refl, sym, ap, ap₂, subst, ◌∙◌}
use mathlib.Core.Logic.{◌⊎◌, inl, inr}
use lib.Dec.{eqb}
use lib.ListN.{length, take, drop, length-take, length-drop}
use lib.Seq.{drop-drop}
use borrow.Author.Tests.{eq-eqb, ne_eqb, not-true}
use Rattle.base.specs.Bytes.{part}
use Rattle.base.specs.Tab.{tab}
use Rattle.base.proofs.Tab.{tab_ext, tab_more}
use Rattle.base.proofs.Truth.{split, and_l, and_r}
use Rattle.header.specs.Header.{head_of, peers_of, threshold_of, honest_count}
use Rattle.rules.specs.Run.{store_from, answers_from}
use Rattle.gains.specs.Gain.{gain}
use Rattle.gains.specs.File.{file_call, calls_to, file_calls}
use Rattle.growth.specs.Growth.{never_full}
use Rattle.growth.proofs.Tail.{tail_gains_none}
use Rattle.state.specs.Contents.{contents}
use Rattle.figures.specs.declared.Totals.{Totals}
use Rattle.text.specs.Wrote.{each}
use Rattle.report.specs.Lines.{head_line, step_line}
use Rattle.report.specs.State.{totals_on, shown_lines, foot, state_lines}
use Rattle.engine.specs.Engine.{fresh_state, step_answer, step_bytes}
use Rattle.dropping.proofs.Replay.{store_more, answers_more}
use Rattle.reading.specs.Steps.{ShowsAnswer}
use Rattle.reading.proofs.Steps.{answer_shown}
use Rattle.rehearsal.specs.Input.{table_end, table_in, input_refusal, step_count, call_at}
use Rattle.rehearsal.specs.Rehearsal.{state_at, step_at, last_state, report_of}
use Rattle.rehearsal.proofs.Taking.{taken}
use Rattle.guarantee.specs.Demand3.{by_bytes}
use Rattle.guarantee.specs.Rehearsed.{calls_in}
use Rattle.bag_promises.specs.Gains.{steps_in, NeverShownFull}
use Rattle.bag_promises.proofs.Gains.{gains_on_bytes}

-- none of answers is 13 where they are never full
never_13 : (answers : ℕ → ℕ) (n : ℕ) → never_full (tab n answers) ≡ true → (i : ℕ) → i < n → answers i ≡ 13 → ⊥
unfolding never_full tab
never_13 answers zero h i l e = absurd (not-suc-le-zero l)
never_13 answers (suc n) h zero l e = split (eq-eqb (answers 0) 13 e) (not-true _ (and_l (not (eqb (answers 0) 13)) _ h))
never_13 answers (suc n) h (suc i) l e = never_13 (λ k. answers (suc k)) n (and_r (not (eqb (answers 0) 13)) _ h) i (omega arith) e

module _ (input : List ℕ) where
  abbrev steps : List ℕ
  steps = steps_in input

  abbrev whole : ℕ
  whole = length steps / 13

  -- the steps of the rehearsal are those of the file, and a short tail

  same_call : (k : ℕ) → call_at input k ≡ file_call steps k
  unfolding call_at file_call part
  same_call k = ap (take 13) (sym (drop-drop (13 * k) (table_end input) input))

  first-calls : tab whole (call_at input) ≡ file_calls steps
  unfolding calls_to
  first-calls = tab_ext whole (call_at input) (file_call steps) (λ k l. same_call k)

  long : length steps ≡ length input - table_end input
  long = length-drop (table_end input) input

  tail_short : eqb (length (call_at input whole)) 13 ≡ false
  unfolding file_call part
  tail_short = ne_eqb (length (call_at input whole)) 13 (λ e. omega (
    arith,
    e,
    ap length (same_call whole),
    length-take 13 (drop (13 * whole) steps),
    length-drop (13 * whole) steps,
  ))

  counted : (step_count input ≡ whole) ⊎ (step_count input ≡ suc whole)
  unfolding step_count
  counted = go (ℕ_discrete (length steps % 13) 0)
    where
      go : Dec (length steps % 13 ≡ 0)
          → ((length input - table_end input + 12) / 13 ≡ whole) ⊎ ((length input - table_end input + 12) / 13 ≡ suc whole)
      go (yes e) = inl (omega (arith, e, long))
      go (no d) = inr (omega (arith, d, long))

  pub same_gain : gain (calls_in input) ≡ gain (file_calls steps)
  same_gain = go counted
    where
      go : (step_count input ≡ whole) ⊎ (step_count input ≡ suc whole) → gain (calls_in input) ≡ gain (file_calls steps)
      go (inl e) = ap gain (ap (λ (n : ℕ). tab n (call_at input)) e ∙ first-calls)
      go (inr e) =
          ap gain (ap (λ (n : ℕ). tab n (call_at input)) e ∙ tab_more whole (call_at input))
          ∙ tail_gains_none (tab whole (call_at input)) (call_at input whole) tail_short ∙ ap gain first-calls

  -- the answers to the rehearsal's calls are those of its lines

  abbrev answer_at : ℕ → ℕ
  answer_at k = step_answer (table_in input) (state_at input k) (call_at input k)

  stored : (k : ℕ) → store_from (by_bytes (table_in input)) fresh_state (tab k (call_at input)) ≡ state_at input k
  unfolding store_from state_at tab
  stored zero = refl
  stored (suc k) =
      ap (store_from (by_bytes (table_in input)) fresh_state) (tab_more k (call_at input))
      ∙ store_more (by_bytes (table_in input)) fresh_state (tab k (call_at input)) (call_at input k)
      ∙ ap (λ (s : List ℕ). step_bytes (table_in input) s (call_at input k)) (stored k)

  answered : (k : ℕ) → answers_from (by_bytes (table_in input)) fresh_state (tab k (call_at input)) ≡ tab k answer_at
  unfolding answers_from tab
  answered zero = refl
  answered (suc k) =
      ap (answers_from (by_bytes (table_in input)) fresh_state) (tab_more k (call_at input))
      ∙ answers_more (by_bytes (table_in input)) fresh_state (tab k (call_at input)) (call_at input k)
      ∙ ap₂ (λ (l : List ℕ) (s : List ℕ). l ++ (step_answer (table_in input) s (call_at input k) ∷ [])) (answered k) (stored k)
      ∙ sym (tab_more k answer_at)

  -- the report, in its parts

  abbrev front : List ℕ
  front = head_line (peers_of (table_in input)) (threshold_of (table_in input)) (honest_count (head_of (table_in input)))
      ++ each (λ i. step_line (i + 1) (answer_at i)) (step_count input)

  abbrev shown : List ℕ
  shown = shown_lines (head_of (table_in input)) (contents (last_state input))

  abbrev totals : Totals
  totals = totals_on (head_of (table_in input)) (contents (last_state input))

  parts : report_of input ≡ front ++ shown ++ foot totals
  unfolding report_of step_at state_lines
  parts = sym (append_assoc front shown (foot totals))

  pub never_shown_full : input_refusal input ≡ 0 → NeverShownFull input
  never_shown_full fit small k s =
      let table = table_in input in
      let room = (gains_on_bytes table (taken input fit).table).fresh-room (calls_in input) (omega (arith, small, same_gain)) in
      let (i, l, at, full) = answer_shown (step_count input) answer_at (peers_of table) (threshold_of table) (honest_count (head_of table))
      (head_of table) (contents (last_state input)) totals k 13
      (subst (λ (text : List ℕ). ShowsAnswer text k 13) parts s) in
      never_13 answer_at (step_count input)
      (subst (λ (answers : List ℕ). never_full answers ≡ true) (answered (step_count input)) room) i l full
