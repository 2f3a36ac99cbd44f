-- What `fresh`, `write_sheet`, `rehearse` and `hang` see of a table is its refusal, its header, its texts and its clashes: where
-- these are what they were, so are the answers, and what is left.
use Prim.Native.Nat.{ℕ, zero, suc, ◌<◌}
use native.Mathlib.Decide.{ℕ_discrete}
use native.Mathlib.Omega.{arith}
use mathlib.Core.Bool.{true, false, cond, ◌&&◌}
use mathlib.Core.List.{List, [], ◌∷◌, ◌++◌}
use mathlib.Core.Logic.{◌⊎◌, inl, inr}
use mathlib.Core.Path.{◌≡◌, refl, sym, ap, ap₂, fun_ext, ◌∙◌}
use lib.Dec.{eqb, leb, ltb}
use lib.ListN.{length, length-drop}
use borrow.Author.Tests.{ne_eqb, eqb-true, le-ltb, ltb-false}
use Rattle.base.specs.Bits.{bit}
use Rattle.base.specs.Bytes.{byte_at, part}
use Rattle.base.specs.Refusals.{Refusals, numbered, first}
use Rattle.base.proofs.Refusals.{first_passed, first_given}
use Rattle.base.proofs.Truth.{either, and_l, and_r, and_false}
use Rattle.header.specs.Header.{header_size, items_of, head_of, header_ok}
use Rattle.pairs.specs.Pairs.{pairs_fit, last_end}
use Rattle.ballot.specs.Table.{refusal, item_text, table_refusals}
use Rattle.report.specs.Lines.{refused_line}
use Rattle.engine.specs.Engine.{fresh_answer, fresh_bytes, step_answer, step_bytes}
use Rattle.rehearsal.specs.Input.{input_most, table_in, table_there, input_refusal, step_count, call_at}
use Rattle.rehearsal.specs.Rehearsal.{state_at, step_at, last_state, report_of, lent_refusal, reported, state_left}
use Rattle.printing.specs.Board.{boards_on, first_board, board_texts}
use Rattle.printing.specs.Written.{sheet_for, board_refusals, write_answer, written, sheet_left}
use Rattle.hall.specs.Hung.{period_asked, rehearsal_in, asked_refusals, period_refusals, asked_answer, period_answer, hang_answer, hung}
use Rattle.edges.specs.Seasons.{Seen, AsBefore, Older, first_engine, second_engine, StartsWith0, StartsWith03}
use Rattle.edges.specs.SecondSeason as two
use Rattle.edges.proofs.Seasons.{season_edges}
use Rattle.guarantee.specs.Seeing.{this_engine, fresh_seeing, fresh_left, texts_seen, sheet_seeing, write_seeing, written_seeing, sheet_left_seeing, Looks, table_by, looks_by, table_seen, refusal_seen, state_seen, line_seen, report_seen, reported_seen, state_left_seen, asked_seen, state_then, hang_seen, hung_seen, OldCalls, OldEnginesCalls}
use Rattle.guarantee.proofs.Inputs.{end_most, byte_in_lem}

-- the first refusal of a row, and where none of it applies that of the next
first_in_turn : (row next : Refusals)
    → first (numbered (row ++ next)) ≡ cond (eqb (first (numbered row)) 0) (first (numbered next)) (first (numbered row))
first_in_turn row next = go (ℕ_discrete (first (numbered row)) 0)
  where
    go : Dec (first (numbered row) ≡ 0)
        → first (numbered (row ++ next)) ≡ cond (eqb (first (numbered row)) 0) (first (numbered next)) (first (numbered row))
    go (yes e) = first_passed row next e ∙ rw e refl
    go (no n) = first_given row next n ∙ rw (ne_eqb _ 0 n) refl

-- write_sheet

texts_seen_lem : (table : List ℕ) (B n : ℕ) → board_texts table B n ≡ texts_seen (item_text table) B n
unfolding board_texts texts_seen
texts_seen_lem table B zero = refl
texts_seen_lem table B (suc x) = ap (λ (l : List (List ℕ)). l ++ cond (bit B x) (item_text table x ∷ []) []) (texts_seen_lem table B x)

module _ (table s : List ℕ) (period : ℕ) where
  pub sheet_seen : sheet_for table s period ≡ sheet_seeing (refusal table) (head_of table) (item_text table) s period
  unfolding sheet_for
  sheet_seen = rw (texts_seen_lem table (first_board (boards_on s) period) (items_of table))

  write_seen : (room : ℕ) → write_answer table s period room ≡ write_seeing (refusal table) (head_of table) (item_text table) s period room
  unfolding write_answer refusal
  write_seen room = rw (← sheet_seen) (first_in_turn (table_refusals table) (board_refusals table s period room))

  pub written_seen : (room : ℕ) → written table s period room ≡ written_seeing (refusal table) (head_of table) (item_text table) s period room
  unfolding written
  written_seen room = rw (write_seen room, sheet_seen)

  pub left_seen : (buffer : List ℕ) → sheet_left table s period buffer
      ≡ sheet_left_seeing (refusal table) (head_of table) (item_text table) s period buffer
  unfolding sheet_left
  left_seen buffer = rw (write_seen (length buffer), sheet_seen)

-- rehearse

module _ (input : List ℕ) where
  abbrev now : Looks
  now = looks_by this_engine input

  pub refusal_seen_lem : input_refusal input ≡ refusal_seen now input
  unfolding input_refusal refusal first table_there table_in
  refusal_seen_lem = refl

  state_seen_lem : (k : ℕ) → state_at input k ≡ state_seen now input k
  unfolding state_at state_seen step_bytes step_answer table_in call_at
  state_seen_lem zero = refl
  state_seen_lem (suc k) = ap (λ (v : List ℕ). step_bytes (table_in input) v (call_at input k)) (state_seen_lem k)

  line_seen_lem : (k : ℕ) → step_at input k ≡ line_seen now input k
  unfolding step_at line_seen step_answer table_in call_at
  line_seen_lem k = rw (state_seen_lem k)

  report_seen_lem : report_of input ≡ report_seen now input
  unfolding report_of last_state step_count table_in
  report_seen_lem = rw (fun_ext line_seen_lem, state_seen_lem (step_count input))

  reported_seen_lem : (s : List ℕ) → reported input s ≡ reported_seen now input s
  unfolding reported lent_refusal
  reported_seen_lem s = rw (refusal_seen_lem, report_seen_lem)

  state_left_seen_lem : (s : List ℕ) → state_left input s ≡ state_left_seen now input s
  unfolding state_left lent_refusal last_state step_count
  state_left_seen_lem s = rw (refusal_seen_lem, state_seen_lem (step_count input))

-- hang

module _ (input : List ℕ) where
  abbrev looked : Looks
  looked = looks_by this_engine (rehearsal_in input)

  asked_seen_lem : asked_answer input ≡ asked_seen looked input
  unfolding asked_answer input_refusal refusal first table_there table_in
  asked_seen_lem = refl

  -- the input's refusals, then those of the period
  pub in_turn : hang_answer input ≡ cond (eqb (asked_answer input) 0)
      (period_answer (table_in (rehearsal_in input)) (last_state (rehearsal_in input)) (period_asked input)) (asked_answer input)
  unfolding hang_answer asked_answer period_answer
  in_turn = first_in_turn (asked_refusals input)
      (period_refusals (table_in (rehearsal_in input)) (last_state (rehearsal_in input)) (period_asked input))

  then_seen : last_state (rehearsal_in input) ≡ state_then looked input
  unfolding last_state step_count
  then_seen = state_seen_lem (rehearsal_in input) (step_count (rehearsal_in input))

  hang_seen_lem : hang_answer input ≡ hang_seen looked input
  unfolding period_answer table_in
  hang_seen_lem = in_turn ∙ rw (asked_seen_lem, then_seen)

  hung_seen_lem : hung input ≡ hung_seen looked input
  unfolding hung table_in
  hung_seen_lem =
      rw hang_seen_lem
      (ap (λ (l : List ℕ). cond (eqb (hang_seen looked input) 0) l (refused_line (hang_seen looked input)))
      (sheet_seen (table_in (rehearsal_in input)) (last_state (rehearsal_in input)) (period_asked input)
      ∙ ap (λ (s : List ℕ). sheet_seeing looked.refused looked.head looked.text s (period_asked input)) then_seen))

-- fresh

module _ (table s : List ℕ) {r : ℕ} (judged : refusal table ≡ r) where
  pub fresh_answers : fresh_answer table s ≡ fresh_seeing r s
  unfolding fresh_answer
  fresh_answers = ap (λ (r : ℕ). fresh_seeing r s) judged

  pub fresh_leaves : fresh_bytes table s ≡ fresh_left r s
  unfolding fresh_bytes fresh_answer
  fresh_leaves = ap (λ (r : ℕ). fresh_left r s) judged

-- the same is seen of the input, whatever is seen of its table
pub record Halves (L M : Looks) : Type 0 where
  pub ok : L.ok ≡ M.ok
  pub long : L.long ≡ M.long
  pub items : L.items ≡ M.items

-- where the input has no table, nothing of one is looked at
module _ (input s : List ℕ) (L M : Looks) (H : Halves L M) (none : table_seen L input ≡ false) where
  there_alike : table_seen M input ≡ false
  there_alike =
      sym (λ i. pairs_fit input (H.long i) (H.items i) && leb (last_end input (H.long i) (H.items i)) (length input)) ∙ none

  pub refused_alike : (refusal_seen L input ≡ refusal_seen M input) × (eqb (refusal_seen M input) 0 ≡ false)
  refused_alike = go (either (ltb input_most (length input))) (either M.ok)
    where
      go : (ltb input_most (length input) ≡ true) ⊎ (ltb input_most (length input) ≡ false) → (M.ok ≡ true) ⊎ (M.ok ≡ false)
          → (refusal_seen L input ≡ refusal_seen M input) × (eqb (refusal_seen M input) 0 ≡ false)
      go (inl e) o = rw e (refl, refl)
      go (inr e) (inr o) = rw (e, H.ok, o) (refl, refl)
      go (inr e) (inl o) = rw (e, H.ok, o, none, there_alike) (refl, refl)

  reports_none : reported_seen L input s ≡ reported_seen M input s
  reports_none = rw (refused_alike.0, refused_alike.1, refused_alike.1)

  leaves_none : state_left_seen L input s ≡ state_left_seen M input s
  leaves_none = rw (refused_alike.0, refused_alike.1, refused_alike.1)

hangs_none : (input : List ℕ) (L M : Looks) → Halves L M → table_seen L (rehearsal_in input) ≡ false → hung_seen L input ≡ hung_seen M input
hangs_none input L M H none = go (either (ltb input_most (length input)))
  where
    go : (ltb input_most (length input) ≡ true) ⊎ (ltb input_most (length input) ≡ false) → hung_seen L input ≡ hung_seen M input
    go (inl e) = rw e
    go (inr e) =
        let same = refused_alike (rehearsal_in input) (rehearsal_in input) L M H none in
        rw (e, same.0, same.1, same.1)

-- where it has one, the table starts as the input does
starts_alike : (input : List ℕ) → pairs_fit input (header_size input) (items_of input) ≡ true → (i : ℕ) → i < 6
    → byte_at (table_by this_engine input) i ≡ byte_at input i
unfolding header_size table_in
starts_alike input fit i l = byte_in_lem input i (omega (arith, l, end_most input fit))

module _ {old : Seen} {Newer : List ℕ → Type 0} (O : Older old Newer)
    (by-start : (a b : List ℕ) → byte_at a 0 ≡ byte_at b 0 → byte_at a 1 ≡ byte_at b 1 → Newer a → Newer b)
    (by_header : (a : List ℕ) → Newer a → old.header_ok a ≡ false) where
  module _ (input : List ℕ) (other : Newer input → ⊥) where
    A : AsBefore old input
    A = O.as_before input other

    same_table : table_by this_engine input ≡ table_by old input
    same_table = λ i. part input 0 (last_end input (A.size i) (A.head i).items)

    -- the table is none that is newer
    looks_same : (Newer (table_by this_engine input) → ⊥) → looks_by this_engine input ≡ looks_by old input
    looks_same n = let B = O.as_before (table_by this_engine input) n in λ i. record {
      ok = A.header_ok_lem i;
      long = A.size i;
      items = (A.head i).items;
      refused = (B.judged ∙ ap old.refusal same_table) i;
      head = (B.head ∙ ap old.head_of same_table) i;
      clash = λ x y. (B.clashing x y ∙ ap (λ (t : List ℕ). old.clash_in t x y) same_table) i;
      text = λ k. (B.text k ∙ ap (λ (t : List ℕ). old.item_text t k) same_table) i;
    }

    -- what is seen of the input alone is the same in any case
    half : Looks
    half = record {
      ok = header_ok input;
      long = header_size input;
      items = items_of input;
      refused = old.refusal (table_by old input);
      head = old.head_of (table_by old input);
      clash = old.clash_in (table_by old input);
      text = old.item_text (table_by old input);
    }

    half_same : half ≡ looks_by old input
    unfolding half
    half_same = λ i. record {
      ok = A.header_ok_lem i;
      long = A.size i;
      items = (A.head i).items;
      refused = old.refusal (table_by old input);
      head = old.head_of (table_by old input);
      clash = old.clash_in (table_by old input);
      text = old.item_text (table_by old input);
    }

    -- so is all that looks at no table where there is none
    pub alike : {B : Type 0} (f : Looks → B)
        → ((L M : Looks) → Halves L M → (table_seen L input ≡ false) → f L ≡ f M)
        → f (looks_by this_engine input) ≡ f (looks_by old input)
    unfolding half
    alike f none = go (either (pairs_fit input (header_size input) (items_of input)))
      where
        go : (pairs_fit input (header_size input) (items_of input) ≡ true) ⊎ (pairs_fit input (header_size input) (items_of input) ≡ false)
            → f (looks_by this_engine input) ≡ f (looks_by old input)
        go (inl fit) =
            let starts = starts_alike input fit in
            ap f (looks_same (λ n. other (by-start (table_by this_engine input) input (starts 0 (omega arith)) (starts 1 (omega arith)) n)))
        go (inr cut) =
            none (looks_by this_engine input) half (record { ok = refl; long = refl; items = refl }) (rw cut) ∙ ap f half_same

  refused_header : (input s : List ℕ) → Newer input
      → reported_seen (looks_by old input) input s ≡ refused_line (cond (ltb input_most (length input)) 15 1)
  refused_header input s newer = go (either (ltb input_most (length input)))
    where
      go : (ltb input_most (length input) ≡ true) ⊎ (ltb input_most (length input) ≡ false)
          → reported_seen (looks_by old input) input s ≡ refused_line (cond (ltb input_most (length input)) 15 1)
      go (inl e) = rw e
      go (inr e) = rw (e, by_header input newer)

  hung_header : (input : List ℕ) → Newer (rehearsal_in input)
      → hung_seen (looks_by old (rehearsal_in input)) input ≡ refused_line (cond (ltb input_most (length input)) 15 1)
  hung_header input newer = go (either (ltb input_most (length input)))
    where
      go : (ltb input_most (length input) ≡ true) ⊎ (ltb input_most (length input) ≡ false)
          → hung_seen (looks_by old (rehearsal_in input)) input ≡ refused_line (cond (ltb input_most (length input)) 15 1)
      go (inl e) = rw e
      go (inr e) =
          let few = le-ltb input_most (length (rehearsal_in input))
          (omega (arith, length-drop 1 input, ltb-false input_most (length input) e)) in
          rw (e, few, by_header (rehearsal_in input) newer)

  pub old_calls : OldCalls old Newer
  old_calls = record {
    fresh_refuses = λ table s newer. rw (O.refuses table newer);
    writes_refuses = λ table s period room newer. rw (O.refuses table newer);
    rehearse_refuses = refused_header;
    hang_refuses = hung_header;
    fresh_answers = λ table s other. fresh_answers table s (O.as_before table other).judged;
    fresh_leaves = λ table s other. fresh_leaves table s (O.as_before table other).judged;
    writes_answers = λ table s period room other. let A = O.as_before table other in
        written_seen table s period room ∙ (λ i. written_seeing (A.judged i) (A.head i) (λ k. A.text k i) s period room);
    writes_leaves = λ table s buffer period other. let A = O.as_before table other in
        left_seen table s period buffer ∙ (λ i. sheet_left_seeing (A.judged i) (A.head i) (λ k. A.text k i) s period buffer);
    rehearse_reports = λ input s other. reported_seen_lem input s ∙ alike input other (λ L. reported_seen L input s) (reports_none input s);
    rehearse_leaves = λ input s other. state_left_seen_lem input s ∙ alike input other (λ L. state_left_seen L input s) (leaves_none input s);
    hangs = λ input other. hung_seen_lem input ∙ alike (rehearsal_in input) other (λ L. hung_seen L input) (hangs_none input);
  }

pub no_first_header : (s : List ℕ) → StartsWith0 s → first_engine.header_ok s ≡ false
no_first_header s zero-first = rw (zero-first, and_false)

pub no_second_header : (s : List ℕ) → StartsWith03 s → second_engine.header_ok s ≡ false
no_second_header s newer =
    let zero-first = eqb-true (byte_at s 0) 0 (and_l (eqb (byte_at s 0) 0) _ newer) in
    let three-next = eqb-true (byte_at s 1) 3 (and_r (eqb (byte_at s 0) 0) _ newer) in
    let not-two : two.zero_two s ≡ false = rw (three-next, and_false) in
    rw (not-two, zero-first, and_false)

pub old_engines_calls : OldEnginesCalls
old_engines_calls = record {
  first = old_calls season_edges.first (λ a b e u n. sym e ∙ n) no_first_header;
  second = old_calls season_edges.second (λ a b e u n. ap₂ (λ (x y : ℕ). eqb x 0 && eqb y 3) (sym e) (sym u) ∙ n) no_second_header;
}
