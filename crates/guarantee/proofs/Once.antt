-- An honest peer's receipt shares on one item are of one period: over table bytes and lists of byte lists, for every
-- table, a refused one too. Where the honest peers weigh at least t no item has receipts in two periods, nor lines in a
-- report.
use Prim.Native.Nat.{ℕ, ◌≤◌}
use native.Mathlib.Decide.{ℕ_discrete}
use native.Mathlib.Omega.{arith}
use mathlib.Core.List.{List, [], ◌∷◌, ◌++◌}
use mathlib.Core.Path.{◌≡◌, refl, sym, ap, subst, ◌∙◌}
use borrow.Author.Tests.{ne_eqb}
use Rattle.base.proofs.Truth.{false_true}
use Rattle.header.specs.Header.{head_of, threshold_of}
use Rattle.header.specs.Quorum.{honest_weight}
use Rattle.ballot.specs.Table.{refusal}
use Rattle.rules.specs.Form.{read}
use Rattle.rules.specs.Ideal.{Fed}
use Rattle.rules.specs.State.{State, fresh}
use Rattle.rules.specs.Run.{World, seen_with, run_from, after}
use Rattle.rules.specs.Once.{SharedOnce}
use Rattle.rules.proofs.Once.{shared_once, receipted_once}
use Rattle.state.specs.declared.Fact.TheVariants.{Receipted}
use Rattle.state.specs.Contents.{Contents, contents}
use Rattle.view.specs.View.{state_of}
use Rattle.engine.specs.Engine.{rules_table, step_answer, step_bytes, fresh_state}
use Rattle.engine.proofs.Start.{fresh_state_lem}
use Rattle.report.specs.Words.{receipt}
use Rattle.report.specs.State.{shown_lines, foot}
use Rattle.reading.specs.Read.{lines_of}
use Rattle.reading.specs.Receipts.{Stands, ShowsReceipt}
use Rattle.reading.proofs.Read.{Adds}
use Rattle.reading.proofs.Receipts.{line_held, receipt_held, held_shown}
use Rattle.rehearsal.specs.Input.{table_in, input_refusal}
use Rattle.rehearsal.specs.Rehearsal.{last_state, report_of}
use Rattle.rehearsal.proofs.Taking.{taken}
use Rattle.guarantee.specs.Demand3.{HonestEnough, by_bytes, after_calls}
use Rattle.guarantee.specs.Rehearsed.{calls_in}
use Rattle.guarantee.specs.Totals.{totals_of_input}
use Rattle.guarantee.specs.Once.{SharesOnce, ReceiptsOnce, ReceiptsShown, ShownOnce}
use Rattle.guarantee.proofs.Demand3.{bytes_follow, premise}
use Rattle.guarantee.proofs.Rehearsals.{shown}
use Rattle.guarantee.proofs.Totals.{made_and_valid, front, front_adds, ends}

-- on a table that is refused every call is: what is held stays as it was
module _ (table : List ℕ) (refused : refusal table ≡ 0 → ⊥) where
  alters_nothing : (s step : List ℕ) → step_bytes table s step ≡ s
  unfolding step_answer step_bytes
  alters_nothing s step = rw (ne_eqb (refusal table) 0 refused, ne_eqb (refusal table) 0 refused)

  stays : (calls : List (List ℕ)) (s : List ℕ) (seen : List Fed) → (run_from (by_bytes table) s seen calls).engine ≡ state_of (contents s)
  unfolding run_from
  stays [] s seen = refl
  stays (c ∷ calls) s seen =
      stays calls (step_bytes table s c) (seen_with seen (contents s).bag (read c) (step_answer table s c))
      ∙ ap (λ (t : List ℕ). state_of (contents t)) (alters_nothing s c)

  stays_fresh : (calls : List (List ℕ)) → (after_calls table calls).engine ≡ fresh
  unfolding after
  stays_fresh calls = stays calls fresh_state [] ∙ fresh_state_lem

pub shares_once : (table : List ℕ) → SharesOnce table
shares_once table calls = go (ℕ_discrete (refusal table) 0)
  where
    go : Dec (refusal table ≡ 0) → SharedOnce (rules_table table) (after_calls table calls).engine.shared
    go (yes fit) = shared_once (bytes_follow table fit) calls
    go (no refused) = rw (stays_fresh table refused calls) (λ j p q x h a b. false_true a)

pub receipts_once : (table : List ℕ) → HonestEnough table → ReceiptsOnce table
receipts_once table H calls = receipted_once (bytes_follow table H.taken) calls (premise table H.taken H.honest)

-- what a report shows
module _ (input : List ℕ) (fit : input_refusal input ≡ 0) where
  abbrev table : List ℕ
  table = table_in input

  abbrev held : Contents
  held = contents (last_state input)

  abbrev world : World
  world = after_calls table (calls_in input)

  -- the head line and the step lines are no receipts
  none : (v : List ℕ → ℕ) → Adds receipt v (front input fit) 0
  none v = front_adds input fit refl refl (omega arith)

  -- the report is these, the lines of what is held, and the foot
  parts : report_of input ≡ front input fit ++ shown_lines (head_of table) held ++ foot (totals_of_input input)
  parts = ends input fit

  -- what is held is what the calls led to
  same : (p x : ℕ) → held.has (Receipted p x) ≡ world.engine.receipted p x
  same p x = ap (λ (s : State). s.receipted p x) (shown input)

  pub receipts_shown : ReceiptsShown input
  receipts_shown = record {
    only = λ line b s.
        let (p, (x, e, alike)) = line_held (head_of table) held none (totals_of_input input) line b
        (subst (λ (text : List ℕ). Stands line (lines_of text)) parts s) in
        (p, (x, alike));
    held = λ p x s. sym (same p x) ∙ receipt_held (head_of table) held none (totals_of_input input) p x
        (subst (λ (text : List ℕ). ShowsReceipt text p x) parts s);
    shown = λ p x e.
        let cell = (made_and_valid (bytes_follow table (taken input fit).table) (calls_in input)).1.sets.receipts p x e in
        subst (λ (text : List ℕ). ShowsReceipt text p x) (sym parts)
        (held_shown (head_of table) held none (totals_of_input input) p x cell.0 cell.1 (same p x ∙ e));
  }

  pub shown_once : threshold_of table ≤ honest_weight (head_of table) → ShownOnce input
  shown_once enough p q x a b =
      receipts_once table (record { taken = (taken input fit).table; honest = enough }) (calls_in input) p q x
      (receipts_shown.held p x a) (receipts_shown.held q x b)
