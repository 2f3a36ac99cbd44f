-- Weights that are all 1 change nothing, in what `fresh`, `write_sheet`, `rehearse` and `hang` answer and leave.
use Prim.Native.Nat.{ℕ, zero, suc, ◌+◌, ◌≤◌}
use native.Mathlib.Decide.{ℕ_discrete}
use native.Mathlib.Omega.{arith}
use mathlib.Core.Bool.{true, false, cond, not}
use mathlib.Core.List.{List, [], ◌∷◌, ◌++◌}
use mathlib.Core.Path.{◌≡◌, refl, sym, ap, ap₂, fun_ext, ◌∙◌}
use lib.Dec.{eqb, leb}
use lib.ListN.{length, length-drop}
use borrow.Author.Tests.{ne_eqb}
use Rattle.base.specs.Refusals.{name, unknown, numbered, first}
use Rattle.base.proofs.Truth.{and_l}
use Rattle.header.specs.declared.Head.{Head}
use Rattle.header.specs.Season.{zero_then}
use Rattle.header.specs.Header.{peers_of, weight_in, head_of, honest_count}
use Rattle.ballot.specs.Table.{refusal, item_text}
use Rattle.text.specs.Wrote.{each}
use Rattle.report.specs.Lines.{refused_line, head_line, step_line}
use Rattle.report.specs.State.{state_lines}
use Rattle.state.specs.Contents.{contents}
use Rattle.engine.specs.Engine.{step_answer, step_bytes}
use Rattle.rules.specs.Ideal.{has_board}
use Rattle.rehearsal.specs.Input.{input_most, table_in, table_there, input_refusal, step_count, call_at}
use Rattle.rehearsal.specs.Rehearsal.{state_at, step_at, last_state, report_of, lent_refusal, reported, state_left}
use Rattle.rehearsal.proofs.Taking as rehearsed
use Rattle.printing.specs.Board.{boards_on}
use Rattle.printing.specs.Written.{sheet_for, written, sheet_left}
use Rattle.hall.specs.Hung.{period_asked, rehearsal_in, asked_answer, period_answer, hung}
use Rattle.hall.proofs.Hanging.{of_rehearsal}
use Rattle.edges.specs.Weights.{SameButOnes, AsSecond, unweighed}
use Rattle.edges.proofs.AllOnes.{all_ones}
use Rattle.edges.proofs.Unweighed.{unweighed_fits}
use Rattle.guarantee.specs.Seasons.{StepsAsSecond}
use Rattle.guarantee.specs.Seeing.{sheet_seeing, written_seeing, sheet_left_seeing}
use Rattle.guarantee.specs.Ones.{CallsAsSecond, RehearsedAsSecond}
use Rattle.guarantee.proofs.Seasons.{steps_as_second}
use Rattle.guarantee.proofs.Seeing.{fresh_answers, fresh_leaves, sheet_seen, written_seen, left_seen, in_turn}
use Rattle.guarantee.proofs.Inputs.{tables_same, inputs_alike, count_alike, call_alike, not_too_long, right_there}

-- fresh and write_sheet

module _ (table other : List ℕ) (A : AsSecond table other) where
  -- what looks at a table's refusal, its header and its texts, and where it is refused at nothing else, is the same
  looked_alike : {B : Type 0} (f : ℕ → Head → (ℕ → List ℕ) → B)
      → ((r : ℕ) (h g : Head) (a b : ℕ → List ℕ) → (r ≡ 0 → ⊥) → f r h a ≡ f r g b)
      → f (refusal table) (head_of table) (item_text table) ≡ f (refusal other) (head_of other) (item_text other)
  looked_alike {B} f refused = go (ℕ_discrete (refusal other) 0)
    where
      go : Dec (refusal other ≡ 0) → f (refusal table) (head_of table) (item_text table) ≡ f (refusal other) (head_of other) (item_text other)
      go (yes taken) = λ i. f (A.judged i) (A.head i) (λ k. A.text taken k i)
      go (no n) =
          ap (λ (r : ℕ). f r (head_of table) (item_text table)) A.judged
          ∙ refused (refusal other) (head_of table) (head_of other) (item_text table) (item_text other) n

  module _ (s : List ℕ) (period : ℕ) where
    same_written : (room : ℕ) → written table s period room ≡ written other s period room
    same_written room =
        written_seen table s period room
        ∙ looked_alike (λ r h text. written_seeing r h text s period room) (λ r h g a b n. rw (ne_eqb r 0 n, ne_eqb r 0 n))
        ∙ sym (written_seen other s period room)

    same_left : (buffer : List ℕ) → sheet_left table s period buffer ≡ sheet_left other s period buffer
    same_left buffer =
        left_seen table s period buffer
        ∙ looked_alike (λ r h text. sheet_left_seeing r h text s period buffer) (λ r h g a b n. rw (ne_eqb r 0 n, ne_eqb r 0 n))
        ∙ sym (left_seen other s period buffer)

pub calls_as_second : (table other : List ℕ) → SameButOnes table other → CallsAsSecond table other
calls_as_second table other R =
    let A = all_ones table other R in
    record {
      fresh_answers = λ s. fresh_answers table s A.judged ∙ sym (fresh_answers other s refl);
      fresh_leaves = λ s. fresh_leaves table s A.judged ∙ sym (fresh_leaves other s refl);
      writes_answers = λ s period room. same_written table other A s period room;
      writes_leaves = λ s buffer period. same_left table other A s period buffer;
    }

-- rehearse

-- two inputs that are not refused, with such tables and the same steps
pub record SameSteps (input other : List ℕ) : Type 0 where
  pub tables : SameButOnes (table_in input) (table_in other)
  pub count : step_count input ≡ step_count other
  pub calls : (k : ℕ) → call_at input k ≡ call_at other k

module _ (input other : List ℕ) (S : SameSteps input other) where
  pub both : AsSecond (table_in input) (table_in other)
  both = all_ones (table_in input) (table_in other) S.tables

  pub steps_alike : StepsAsSecond (table_in input) (table_in other)
  steps_alike = steps_as_second (table_in input) (table_in other) S.tables

  states_alike : (k : ℕ) → state_at input k ≡ state_at other k
  unfolding state_at
  states_alike zero = refl
  states_alike (suc k) =
      ap₂ (step_bytes (table_in input)) (states_alike k) (S.calls k) ∙ steps_alike.leaves (state_at other k) (call_at other k)

  lines_alike : (k : ℕ) → step_at input k ≡ step_at other k
  unfolding step_at
  lines_alike k =
      ap (step_line (k + 1))
      (ap₂ (step_answer (table_in input)) (states_alike k) (S.calls k) ∙ steps_alike.answers (state_at other k) (call_at other k))

  pub last_alike : last_state input ≡ last_state other
  unfolding last_state
  last_alike = states_alike (step_count input) ∙ ap (state_at other) S.count

  reports_alike : report_of input ≡ report_of other
  unfolding report_of
  reports_alike = λ i.
      head_line (both.head i).n (both.head i).t (honest_count (both.head i))
      ++ each (fun_ext lines_alike i) (S.count i)
      ++ state_lines (both.head i) (contents (last_alike i))

module _ (input other : List ℕ) (R : SameButOnes input other) (few : length input ≤ input_most) where
  pub same_steps : input_refusal other ≡ 0 → SameSteps input other
  same_steps taken = let (ok, there) = right_there other taken in record {
    tables = tables_same input other R ok there;
    count = count_alike input other R ok there;
    calls = call_alike input other R ok there;
  }

  lent_alike : (s : List ℕ) → lent_refusal input s ≡ lent_refusal other s
  unfolding lent_refusal
  lent_alike s = rw (inputs_alike input other R few)

  -- an input that is refused is reported as refused, and leaves what was lent
  refused_lent : (input_refusal other ≡ 0 → ⊥) → (s : List ℕ) → eqb (lent_refusal other s) 0 ≡ false
  unfolding lent_refusal
  refused_lent n s = rw (ne_eqb (input_refusal other) 0 n, ne_eqb (input_refusal other) 0 n)

  reported_alike : (s : List ℕ) → Dec (input_refusal other ≡ 0) → reported input s ≡ reported other s
  unfolding reported
  reported_alike s (yes taken) =
      let same = reports_alike input other (same_steps taken) in
      λ i. cond (eqb (lent_alike s i) 0) (same i) (refused_line (lent_alike s i))
  reported_alike s (no n) = rw (lent_alike s, refused_lent n s)

  left_alike : (s : List ℕ) → Dec (input_refusal other ≡ 0) → state_left input s ≡ state_left other s
  unfolding state_left
  left_alike s (yes taken) = λ i. cond (eqb (lent_alike s i) 0) (last_alike input other (same_steps taken) i) s
  left_alike s (no n) = rw (lent_alike s, refused_lent n s)

  pub rehearsed_as_second : RehearsedAsSecond input other
  rehearsed_as_second =
      let judged = ℕ_discrete (input_refusal other) 0 in
      record { reports = λ s. reported_alike s judged; leaves = λ s. left_alike s judged }

-- hang, where the same period is asked for
module _ (input other : List ℕ) (asked : period_asked input ≡ period_asked other) (R : SameButOnes (rehearsal_in input) (rehearsal_in other))
    (few : length input ≤ input_most) where
  few_in : length (rehearsal_in input) ≤ input_most
  few_in = omega (arith, length-drop 1 input, few)

  asked_other : input_refusal (rehearsal_in other) ≡ asked_answer other
  asked_other =
      of_rehearsal other (omega (arith, few, R.rest.longer, length-drop 1 input, length-drop 1 other)) refl

  asked_alike : asked_answer input ≡ asked_answer other
  asked_alike = sym (of_rehearsal input few refl) ∙ inputs_alike (rehearsal_in input) (rehearsal_in other) R few_in ∙ asked_other

  -- the rehearsals are not refused
  module _ (taken : input_refusal (rehearsal_in other) ≡ 0) where
    S : SameSteps (rehearsal_in input) (rehearsal_in other)
    S = same_steps (rehearsal_in input) (rehearsal_in other) R few_in taken

    A : AsSecond (table_in (rehearsal_in input)) (table_in (rehearsal_in other))
    A = both (rehearsal_in input) (rehearsal_in other) S

    own_taken : refusal (table_in (rehearsal_in other)) ≡ 0
    own_taken = (rehearsed.taken (rehearsal_in other) taken).table

    then_alike : last_state (rehearsal_in input) ≡ last_state (rehearsal_in other)
    then_alike = last_alike (rehearsal_in input) (rehearsal_in other) S

    period_alike : period_answer (table_in (rehearsal_in input)) (last_state (rehearsal_in input)) (period_asked input)
        ≡ period_answer (table_in (rehearsal_in other)) (last_state (rehearsal_in other)) (period_asked other)
    unfolding period_answer
    period_alike = λ i. first (numbered (
        (name, leb (A.head i).periods (asked i))
        ∷ (unknown, not (has_board (boards_on (then_alike i)) (asked i)))
        ∷ []))

    sheet_alike : sheet_for (table_in (rehearsal_in input)) (last_state (rehearsal_in input)) (period_asked input)
        ≡ sheet_for (table_in (rehearsal_in other)) (last_state (rehearsal_in other)) (period_asked other)
    sheet_alike =
        sheet_seen (table_in (rehearsal_in input)) (last_state (rehearsal_in input)) (period_asked input)
        ∙ (λ i. sheet_seeing (A.judged i) (A.head i) (λ k. A.text own_taken k i) (then_alike i) (asked i))
        ∙ sym (sheet_seen (table_in (rehearsal_in other)) (last_state (rehearsal_in other)) (period_asked other))

  pub hung_as_second : hung input ≡ hung other
  unfolding hung
  hung_as_second = go (ℕ_discrete (input_refusal (rehearsal_in other)) 0)
    where
      go : Dec (input_refusal (rehearsal_in other) ≡ 0) → hung input ≡ hung other
      go (yes taken) = rw (in_turn input, in_turn other, asked_alike, period_alike taken, sheet_alike taken)
      go (no n) = rw (
        in_turn input,
        in_turn other,
        asked_alike,
        ← asked_other,
        ne_eqb (input_refusal (rehearsal_in other)) 0 n,
        ne_eqb (input_refusal (rehearsal_in other)) 0 n,
      )

-- and every input that is not refused and has no weight but 1 has one of the second season beside it: `unweighed`, made
-- of its own bytes
module _ (input : List ℕ) (fit : input_refusal input ≡ 0) (third : zero_then input 3 ≡ true)
    (ones : (k : ℕ) → 1 ≤ k → k ≤ peers_of input → weight_in input k ≡ 1) where
  pub unweighed_input : SameButOnes input (unweighed input)
  unfolding table_there
  unweighed_input = let (ok, there) = right_there input fit in unweighed_fits input ok (and_l _ _ there) third ones

  pub rehearsed_as_unweighed : RehearsedAsSecond input (unweighed input)
  rehearsed_as_unweighed = rehearsed_as_second input (unweighed input) unweighed_input (not_too_long input fit)
