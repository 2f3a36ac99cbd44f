-- The totals are what the accepted steps made: of every engine that follows the rules, of the bytes, and of what a report shows.
use Prim.Native.Nat.{ℕ, ◌+◌, ◌≤◌}
use native.Mathlib.Omega.{arith}
use mathlib.Core.Bool.{false}
use mathlib.Core.List.{List, ◌∷◌, ◌++◌, append_assoc}
use mathlib.Core.Path.{◌≡◌, refl, sym, ap, subst, subst₂, ◌∙◌}
use lib.Dec.{eqb}
use Rattle.header.specs.Header.{head_of, peers_of, threshold_of, honest_count}
use Rattle.ballot.specs.Table.{refusal}
use Rattle.rules.specs.Table.{Table}
use Rattle.rules.specs.Ideal.{Fed, is_there}
use Rattle.rules.specs.State.{State}
use Rattle.rules.specs.Run.{World, Engine, after}
use Rattle.rules.specs.Follows.{Follows}
use Rattle.rules.specs.Valid.{Valid}
use Rattle.rules.specs.declared.Entry.TheVariants.{Board}
use Rattle.rules.proofs.Bag.{there_stands}
use Rattle.rules.proofs.Outside.{Made, outside_made}
use Rattle.rules.proofs.Follows.{as_ruled}
use Rattle.rules.proofs.Valid.{always_valid}
use Rattle.state.specs.Contents.{Contents, contents}
use Rattle.figures.specs.declared.Totals.{Totals}
use Rattle.figures.specs.Totals.{totals_in, outside_of, made_by}
use Rattle.text.specs.Wrote.{each}
use Rattle.report.specs.Lines.{head_line}
use Rattle.report.specs.State.{shown_lines, foot, totals_on, state_lines}
use Rattle.reading.specs.Read.{lines_of}
use Rattle.reading.specs.Report.{foot_lines, Agrees}
use Rattle.reading.proofs.Read.{Adds, ◌▹◌, Closed, ◌then◌, closed_each}
use Rattle.reading.proofs.Closed.{head_closed, step_closed, shown_closed, foot_lines_lem}
use Rattle.reading.proofs.Lines.{AddsReceipts, AddsItems, head-adds, step_adds, each_none, above_agrees, whole_agrees}
use Rattle.rehearsal.specs.Input.{table_in, input_refusal, step_count}
use Rattle.rehearsal.specs.Rehearsal.{step_at, last_state, report_of}
use Rattle.rehearsal.proofs.Taking.{taken}
use Rattle.guarantee.specs.Demand3.{after_calls}
use Rattle.guarantee.specs.Rehearsed.{calls_in}
use Rattle.guarantee.specs.Totals.{TotalsTrue, totals_of_input, TotalsShown}
use Rattle.guarantee.proofs.Demand3.{bytes_follow}
use Rattle.guarantee.proofs.Rehearsals.{shown}

-- what is held outside is what was made, part by part
same_outside : (s : State) (seen : List Fed) → Made s seen → outside_of s ≡ made_by seen
same_outside s seen M = λ i. record { posts = M.posts i; receipts = M.receipts i; boards = M.boards i }

-- of an engine that follows the rules, after any list of calls
pub made_and_valid : {T : Table} {X : Type 0} {E : Engine X} {Ready : X → Type 0} → Follows T E Ready → (calls : List (List ℕ))
    → Made (after E calls).engine (after E calls).seen × Valid T (after E calls).engine
made_and_valid {T} F calls =
    subst (λ (w : World). Made w.engine w.seen × Valid T w.engine) (sym (ap (λ f. f calls) (as_ruled F)))
    (outside_made T calls, always_valid T calls)

pub totals_true : (table : List ℕ) → refusal table ≡ 0 → (calls : List (List ℕ)) → TotalsTrue table calls
totals_true table fit calls =
    let w = after_calls table calls in
    let both = made_and_valid (bytes_follow table fit) calls in
    let made = both.0 in
    let valid = both.1 in
    record {
      counted = ap (totals_in (head_of table)) (same_outside w.engine w.seen made);
      posts = λ x e. valid.sets.posts x (ap (λ S. S x) made.posts ∙ e);
      receipts = λ p x e. valid.sets.receipts p x (ap (λ S. S p x) made.receipts ∙ e);
      boards = λ p B e.
          valid.bag.entries (Board p B) (sym (there_stands p B w.engine.bag) ∙ ap (λ l. is_there l p B) made.boards ∙ e);
    }

module _ (input : List ℕ) (fit : input_refusal input ≡ 0) where
  abbrev table : List ℕ
  table = table_in input

  abbrev held : Contents
  held = contents (last_state input)

  -- the figures of what is shown at the end are those of what the input's calls made
  figures : totals_on (head_of table) held ≡ totals_of_input input
  figures =
      ap (λ (s : State). totals_in (head_of table) (outside_of s)) (shown input)
      ∙ (totals_true table (taken input fit).table (calls_in input)).counted

  abbrev pub front : List ℕ
  front = head_line (peers_of table) (threshold_of table) (honest_count (head_of table)) ++ each (step_at input) (step_count input)

  pub front_adds : {b : ℕ} {rest : List ℕ} {v : List ℕ → ℕ} → eqb 112 b ≡ false → eqb 100 b ≡ false → 58 ≤ b → Adds (b ∷ rest) v front 0
  unfolding step_at
  front_adds p d letter =
      head-adds p d letter _ _ _ ▹ each_none (step_at input) (step_count input) (λ k _. step_adds p d letter (k + 1) _)

  no_receipts : AddsReceipts front 0
  no_receipts = front_adds refl refl (omega arith)

  no_boards : AddsItems front 0
  no_boards = front_adds refl refl (omega arith)

  abbrev above : List ℕ
  above = front ++ shown_lines (head_of table) held

  pub ends : report_of input ≡ above ++ foot (totals_of_input input)
  unfolding report_of state_lines
  ends =
      sym (append_assoc front (shown_lines (head_of table) held) (foot (totals_on (head_of table) held)))
      ∙ ap (λ (f : Totals). above ++ foot f) figures

  above_closed : Closed above
  unfolding step_at
  above_closed =
      head_closed _ _ _ then closed_each (step_at input) (step_count input) (λ k. step_closed (k + 1) _)
      then shown_closed (head_of table) held

  last_lines : lines_of (report_of input) ≡ lines_of above ++ foot_lines (totals_of_input input)
  last_lines =
      ap lines_of ends ∙ above_closed.apart (foot (totals_of_input input))
      ∙ ap (λ (l : List (List ℕ)). lines_of above ++ l) (foot_lines_lem (totals_of_input input))

  pub totals-shown : TotalsShown input
  totals-shown = record {
    above = above;
    ends = ends;
    last_lines = last_lines;
    lines_above = subst (λ (f : Totals). Agrees above f) figures (above_agrees (head_of table) held no_receipts no_boards);
    all_lines = subst₂ (λ (t : List ℕ) (f : Totals). Agrees t f) (sym ends) figures
        (whole_agrees (head_of table) held no_receipts no_boards (totals_of_input input));
  }
