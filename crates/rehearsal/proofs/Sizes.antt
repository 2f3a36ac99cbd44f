-- No rehearsal's output is longer than `report_most`.
use Prim.Native.Nat.{ℕ, ◌+◌, ◌*◌, ◌≤◌, ◌<◌}
use native.Mathlib.Omega.{arith}
use mathlib.Core.Bool.{Bool, true, false, cond}
use mathlib.Core.List.{List}
use mathlib.Core.Logic.{◌⊎◌, inl, inr}
use mathlib.Core.Path.{◌≡◌}
use lib.Dec.{eqb}
use lib.ListN.{length, length-append}
use borrow.Author.Tests.{eqb-true}
use Rattle.base.specs.Refusals.{numbered, first}
use Rattle.base.proofs.Refusals.{first_small}
use Rattle.base.proofs.Truth.{either}
use Rattle.header.specs.Header.{head_of, peers_of, threshold_of, honest_count}
use Rattle.clash.specs.Clash.{clash_in}
use Rattle.header.proofs.Fields.{honest_most}
use Rattle.ballot.proofs.Sound.{sound}
use Rattle.rules.specs.Form.{Call}
use Rattle.std.specs.Prelude.{Some, None}
use Rattle.rules.specs.Table.{Table}
use Rattle.rules.specs.State.{State}
use Rattle.rules.specs.Form.{read}
use Rattle.rules.specs.Rules.{rule, answer, reply}
use Rattle.state.specs.Layout.{size}
use Rattle.state.specs.Contents.{contents}
use Rattle.view.specs.View.{state_of}
use Rattle.engine.specs.Engine.{rules_table, step_answer}
use Rattle.engine.proofs.Fits.{good_fits}
use Rattle.engine.proofs.Steps.{step_answers}
use Rattle.text.specs.Wrote.{each}
use Rattle.report.specs.Lines.{refused_line, head_line}
use Rattle.report.specs.State.{state_lines}
use Rattle.report.proofs.Sizes.{each_most, refused_most, head_most, step_most, state_most}
use Rattle.rehearsal.specs.Input.{table_in, input_refusals, input_refusal, step_count, call_at}
use Rattle.rehearsal.specs.Rehearsal.{state_at, step_at, last_state, report_of, lent_refusal, reported, report_most}
use Rattle.rehearsal.specs.Running.{Taken}
use Rattle.rehearsal.proofs.Taking.{taken, both_passed}
use Rattle.rehearsal.proofs.States.{state_ready}

module _ (T : Table) (s : State) where
  reply_small : (c : Call) → reply T s c < 100
  unfolding reply answer
  reply_small (Some st) = first_small (rule T s st).refusals
  reply_small None = omega arith

refusal_small : (input s : List ℕ) → lent_refusal input s < 100
unfolding input_refusal lent_refusal
refusal_small input s = go (eqb (first (numbered (input_refusals input))) 0) (eqb (length s) size)
  where
    go : (taken long : Bool) → cond taken (cond long 0 14) (first (numbered (input_refusals input))) < 100
    go true true = omega arith
    go true false = omega arith
    go false long = first_small (input_refusals input)

module _ (input : List ℕ) (T : Taken input) where
  abbrev table : List ℕ
  table = table_in input

  lines_most : length (each (step_at input) (step_count input)) ≤ 5042 * 8
  unfolding step_at step_count
  lines_most =
      each_most (step_at input) 8 (step_count input) 5042 (omega (arith, T.few)) (λ k l.
      step_most (k + 1) (step_answer table (state_at input k) (call_at input k)) (omega (arith, T.few, l))
      (rw (step_answers table T.table (state_at input k) (state_ready input T k) (call_at input k))
      (reply_small (rules_table table) (state_of (contents (state_at input k))) (read (call_at input k)))))

  shown_most : length (state_lines (head_of table) (contents (last_state input))) ≤ 181272
  unfolding last_state
  shown_most =
      let R = state_ready input T (step_count input) in
      let fits = good_fits (head_of table) (clash_in table) R.room (contents (state_at input (step_count input)))
      (R.good (clash_in table)) in
      state_most (head_of table) R.room.peers R.room.periods R.room.items (contents (state_at input (step_count input)))
      fits.counted (λ e l. omega (arith, (fits.entry e l).period))

  first_line_most : length (head_line (peers_of table) (threshold_of table) (honest_count (head_of table))) ≤ 32
  first_line_most =
      let S = sound table T.table in
      head_most (peers_of table) (threshold_of table) (honest_count (head_of table)) (omega (arith, S.peers_most))
      (omega (arith, S.total_most, S.threshold_most))
      (omega (arith, S.peers_most, honest_most (head_of table)))

  report_most_lem : length (report_of input) ≤ report_most
  unfolding report_of
  report_most_lem = simp length-append (omega (arith, first_line_most, lines_most, shown_most))

pub reported_most : (input s : List ℕ) → length (reported input s) ≤ report_most
unfolding reported
reported_most input s = go (either (eqb (lent_refusal input s) 0))
  where
    go : (eqb (lent_refusal input s) 0 ≡ true) ⊎ (eqb (lent_refusal input s) 0 ≡ false)
        → length (cond (eqb (lent_refusal input s) 0) (report_of input) (refused_line (lent_refusal input s))) ≤ report_most
    go (inl e) = rw e (report_most_lem input (taken input (both_passed input s (eqb-true _ 0 e)).0))
    go (inr e) = rw e (omega (arith, refused_most (lent_refusal input s) (refusal_small input s)))
