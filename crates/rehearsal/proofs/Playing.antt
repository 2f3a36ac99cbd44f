-- The report from its parts, and the two ways in which a rehearsal ends.
use Prim.Native.Nat.{ℕ, ◌≤◌}
use native.Mathlib.Omega.{arith}
use mathlib.Core.List.{List}
use mathlib.Core.Path.{◌≡◌, ap, ◌∙◌}
use lib.ListN.{length, replicate}
use borrow.Author.Tests.{ne_eqb}
use Rattle.header.specs.Header.{head_of, peers_of, threshold_of, honest_count}
use Rattle.clash.specs.Clash.{clash_rows}
use Rattle.clash.proofs.Made.{all_rows}
use Rattle.ballot.specs.Table.{refusal}
use Rattle.state.specs.Layout.{size}
use Rattle.state.specs.Contents.{contents, Canon}
use Rattle.header.specs.declared.Head.{Head}
use Rattle.engine.specs.Engine.{fresh_state}
use Rattle.text.specs.declared.Printer.{Printer}
use Rattle.text.specs.Wrote.{Put}
use Rattle.text.proofs.Puts.{◌▷◌, renamed}
use Rattle.report.specs.Lines.{refused_line, head_line}
use Rattle.report.specs.State.{state_lines}
use Rattle.std.specs.Prelude.{Result, Ok, Err}
use Rattle.base.specs.declared.refusal.Refusal.{Refusal}
use Rattle.base.specs.Refusals.{number_of, answer_of}
use Rattle.base.proofs.Refusals.{refused_ne0}
use Rattle.rehearsal.specs.Input.{table_in, step_count}
use Rattle.rehearsal.specs.Rehearsal.{state_at, last_state, report_of, lent_refusal, reported, state_left, report_most}
use Rattle.rehearsal.specs.Running.{Taken, Made, Ran}
use Rattle.rehearsal.proofs.States.{ready_now}
use Rattle.rehearsal.proofs.Sizes.{reported_most}

pub cleared : (input t : List ℕ) (n : ℕ) → n ≡ size → t ≡ replicate n 0 → t ≡ state_at input 0
unfolding state_at fresh_state
cleared input t n long zeros = zeros ∙ ap (λ (k : ℕ). replicate k 0) long

pub made : {input table : List ℕ} {h : Head} {rows : List ℕ} → Taken input → table ≡ table_in input → h ≡ head_of table
    → rows ≡ clash_rows table
    → Made input table h rows
made T cut head rows =
    record { taken = T; cut = cut; prepared = record { taken = ap refusal cut ∙ T.table; head = head; clashes = all_rows rows } }

-- the steps were run
module _ {input table : List ℕ} {h : Head} {rows : List ℕ} (M : Made input table h rows) {s : List ℕ} {mid more : Printer}
    (ran : Ran input (step_count input) s mid more) where
  pub showable : Canon s × (h.n ≤ 16) × (h.items ≤ 64)
  showable = let R = ready_now M (step_count input) ran.state in (R.canon, R.room.peers, R.room.items)

  first_line : (n : ℕ) → n ≡ honest_count h
      → head_line h.n h.t n ≡ head_line (peers_of (table_in input)) (threshold_of (table_in input)) (honest_count (head_of (table_in input)))
  first_line n honest = rw (honest, M.prepared.head, M.cut)

  state_shown : state_lines h (contents s) ≡ state_lines (head_of (table_in input)) (contents (state_at input (step_count input)))
  state_shown = rw (M.prepared.head, M.cut, ran.state)

  pub whole_report : {n : ℕ} {out is : Printer} → n ≡ honest_count h → Put out (head_line h.n h.t n) mid
      → Put more (state_lines h (contents s)) is → (s ≡ last_state input) × Put out (report_of input) is
  unfolding last_state report_of
  whole_report {n} honest first shown = (ran.state, renamed (first_line n honest) first ▷ ran.lines ▷ renamed state_shown shown)

-- the two ways in which a rehearsal ends
module _ (input s : List ℕ) {t : List ℕ} {out is : Printer} (a : Result Unit Refusal) (judged : answer_of a ≡ lent_refusal input s) where
  pub refused : (r : Refusal) → a ≡ Err r → Put out (refused_line (number_of r)) is → t ≡ s
      → Put out (reported input s) is × (t ≡ state_left input s)
  unfolding reported state_left
  refused r e w same = rw (← judged, e, ne_eqb (number_of r) 0 (refused_ne0 r)) (w, same)

  pub reports : (u : Unit) → a ≡ Ok u → (t ≡ last_state input) × Put out (report_of input) is
      → Put out (reported input s) is × (t ≡ state_left input s)
  unfolding reported state_left
  reports u e p = rw (← judged, e) (p.1, p.0)

-- the length of what was written from the start of a buffer on
pub long : (input s : List ℕ) {p q : Printer} → p.at ≡ 0 → Put p (reported input s) q
    → (q.at ≡ length (reported input s)) × (q.at ≤ report_most)
long input s e w =
    let small = reported_most input s in
    (omega (arith, w.wrote.place, small, e), omega (arith, w.wrote.place, small, e))
