-- What `fresh`, `write_sheet`, `rehearse` and `hang` answer and leave, by what an engine sees of a table: an engine
-- that reads tables as an older one did, and this one on tables that are not newer than it.
use Rattle.std.specs.Prelude.{Result, Ok, Err, ℕ, zero, suc, ◌+◌, ◌-◌, ◌*◌, ◌/◌, Bool, cond, not, ◌&&◌, List, [], ◌∷◌, ◌++◌, ◌≡◌, eqb, leb, ltb, length}
use Rattle.base.specs.Bits.{bit}
use Rattle.base.specs.Bytes.{part}
use Rattle.base.specs.Refusals.{header, pairs, state, name, unknown, sheet, number_of, numbered, first}
use Rattle.base.specs.Refusals as word
use Rattle.header.specs.declared.Head.{Head}
use Rattle.header.specs.Header.{header_size, head_of, header_ok, honest_count}
use Rattle.pairs.specs.Pairs.{pairs_fit, last_end}
use Rattle.ballot.specs.Table.{refusal, item_text}
use Rattle.clash.specs.Clash.{clash_in}
use Rattle.rules.specs.Ideal.{has_board}
use Rattle.state.specs.Layout.{size}
use Rattle.state.specs.Contents.{contents}
use Rattle.text.specs.Wrote.{each, over}
use Rattle.report.specs.Lines.{refused_line, head_line, step_line}
use Rattle.report.specs.State.{state_lines}
use Rattle.valid.specs.StateOk.{state_ok}
use Rattle.engine.specs.Engine.{fresh_state, fresh_answer, fresh_bytes}
use Rattle.rehearsal.specs.Input.{input_most, step_size}
use Rattle.rehearsal.specs.Rehearsal.{reported, state_left}
use Rattle.sheets.specs.Made.{sheet_of}
use Rattle.printing.specs.Board.{boards_on, first_board}
use Rattle.printing.specs.Written.{written, sheet_left}
use Rattle.hall.specs.Hung.{period_asked, rehearsal_in, hung}
use Rattle.edges.specs.Seasons.{Seen, first_engine, second_engine, StartsWith0, StartsWith03}
use Rattle.guarantee.specs.Seasons.{answer_seeing, bytes_seeing}

-- this engine
abbrev pub this_engine : Seen
this_engine = record {
  refusal = refusal;
  header_ok = header_ok;
  head_of = head_of;
  header_size = header_size;
  item_text = item_text;
  clash_in = clash_in;
}

-- fresh: a table's refusal is all that is seen of it

abbrev pub fresh_seeing : ℕ → List ℕ → ℕ
fresh_seeing refused s = cond (eqb refused 0) (cond (eqb (length s) size) 0 (number_of state)) refused

abbrev pub fresh_left : ℕ → List ℕ → List ℕ
fresh_left refused s = cond (eqb (fresh_seeing refused s) 0) fresh_state s

-- write_sheet: its refusal, its header and its texts

unfoldable pub texts_seen : (ℕ → List ℕ) → ℕ → ℕ → List (List ℕ)
texts_seen text B zero = []
texts_seen text B (suc x) = texts_seen text B x ++ cond (bit B x) (text x ∷ []) []

module _ (refused : ℕ) (h : Head) (text : ℕ → List ℕ) (s : List ℕ) (period : ℕ) where
  abbrev pub sheet_seeing : List ℕ
  sheet_seeing = sheet_of period (texts_seen text (first_board (boards_on s) period) h.items)

  abbrev pub write_seeing : ℕ → ℕ
  write_seeing room = cond (eqb refused 0)
      (first (numbered (
      (state, not (state_ok h s))
      ∷ (name, leb h.periods period)
      ∷ (unknown, not (has_board (boards_on s) period))
      ∷ (sheet, ltb room (length sheet_seeing))
      ∷ [])))
      refused

  abbrev pub written_seeing : ℕ → Result ℕ ℕ
  written_seeing room = cond (eqb (write_seeing room) 0) (Ok (length sheet_seeing)) (Err (write_seeing room))

  abbrev pub sheet_left_seeing : List ℕ → List ℕ
  sheet_left_seeing buffer = cond (eqb (write_seeing (length buffer)) 0) (over buffer 0 sheet_seeing) buffer

-- rehearse: of the input whether its header is right, that header's length and how many items it has; of the table that
-- these mark out, its refusal, its header, its clashes and its texts
pub record Looks : Type 0 where
  pub ok : Bool
  pub long : ℕ
  pub items : ℕ
  pub refused : ℕ
  pub head : Head
  pub clash : ℕ → ℕ → Bool
  pub text : ℕ → List ℕ

-- what an engine sees of an input
abbrev pub table_by : Seen → List ℕ → List ℕ
table_by e input = part input 0 (last_end input (e.header_size input) (e.head_of input).items)

abbrev pub looks_by : Seen → List ℕ → Looks
looks_by e input = record {
  ok = e.header_ok input;
  long = e.header_size input;
  items = (e.head_of input).items;
  refused = e.refusal (table_by e input);
  head = e.head_of (table_by e input);
  clash = e.clash_in (table_by e input);
  text = e.item_text (table_by e input);
}

module _ (L : Looks) (input : List ℕ) where
  abbrev pub end_seen : ℕ
  end_seen = last_end input L.long L.items

  -- there is a table
  abbrev pub table_seen : Bool
  table_seen = pairs_fit input L.long L.items && leb end_seen (length input)

  -- 15, then 1 and 2 of the input, then the table's own
  abbrev pub refusal_seen : ℕ
  refusal_seen =
      cond (ltb input_most (length input)) (number_of word.input)
      (cond (not L.ok) (number_of header)
      (cond (not table_seen) (number_of pairs)
      L.refused))

  abbrev pub count_seen : ℕ
  count_seen = (length input - end_seen + (step_size - 1)) / step_size

  abbrev pub call_seen : ℕ → List ℕ
  call_seen k = part input (end_seen + step_size * k) step_size

  unfoldable pub state_seen : ℕ → List ℕ
  state_seen zero = fresh_state
  state_seen (suc k) = bytes_seeing L.refused L.head L.clash (state_seen k) (call_seen k)

  unfoldable pub line_seen : ℕ → List ℕ
  line_seen k = step_line (k + 1) (answer_seeing L.refused L.head L.clash (state_seen k) (call_seen k))

  abbrev pub report_seen : List ℕ
  report_seen =
      head_line L.head.n L.head.t (honest_count L.head)
      ++ each line_seen count_seen
      ++ state_lines L.head (contents (state_seen count_seen))

  abbrev pub lent_seen : List ℕ → ℕ
  lent_seen s = cond (eqb refusal_seen 0) (cond (eqb (length s) size) 0 (number_of state)) refusal_seen

  abbrev pub reported_seen : List ℕ → List ℕ
  reported_seen s = cond (eqb (lent_seen s) 0) report_seen (refused_line (lent_seen s))

  abbrev pub state_left_seen : List ℕ → List ℕ
  state_left_seen s = cond (eqb (lent_seen s) 0) (state_seen count_seen) s

-- hang: of the rehearsal after the period's byte the same
module _ (L : Looks) (input : List ℕ) where
  abbrev pub asked_seen : ℕ
  asked_seen = cond (ltb input_most (length input)) (number_of word.input) (refusal_seen L (rehearsal_in input))

  abbrev pub state_then : List ℕ
  state_then = state_seen L (rehearsal_in input) (count_seen L (rehearsal_in input))

  abbrev pub period_seen : ℕ
  period_seen = first (numbered (
      (name, leb L.head.periods (period_asked input))
      ∷ (unknown, not (has_board (boards_on state_then) (period_asked input)))
      ∷ []))

  abbrev pub hang_seen : ℕ
  hang_seen = cond (eqb asked_seen 0) period_seen asked_seen

  abbrev pub hung_seen : List ℕ
  hung_seen =
      cond (eqb hang_seen 0)
      (sheet_seeing L.refused L.head L.text state_then (period_asked input))
      (refused_line hang_seen)

-- an engine that sees tables as an older one did, and what is newer than it
pub record OldCalls (old : Seen) (Newer : List ℕ → Type 0) : Type 0 where
  -- a newer table is answered 1, header, and a newer input is refused with it, unless it is too long
  pub fresh_refuses : (table s : List ℕ) → Newer table → fresh_seeing (old.refusal table) s ≡ 1
  pub writes_refuses : (table s : List ℕ) (period room : ℕ) → Newer table
      → written_seeing (old.refusal table) (old.head_of table) (old.item_text table) s period room ≡ Err 1
  pub rehearse_refuses : (input s : List ℕ) → Newer input
      → reported_seen (looks_by old input) input s ≡ refused_line (cond (ltb input_most (length input)) 15 1)
  pub hang_refuses : (input : List ℕ) → Newer (rehearsal_in input)
      → hung_seen (looks_by old (rehearsal_in input)) input ≡ refused_line (cond (ltb input_most (length input)) 15 1)
  -- and on every other table and input the answers, and what is left, are those of that engine
  pub fresh_answers : (table s : List ℕ) → (Newer table → ⊥) → fresh_answer table s ≡ fresh_seeing (old.refusal table) s
  pub fresh_leaves : (table s : List ℕ) → (Newer table → ⊥) → fresh_bytes table s ≡ fresh_left (old.refusal table) s
  pub writes_answers : (table s : List ℕ) (period room : ℕ) → (Newer table → ⊥)
      → written table s period room
      ≡ written_seeing (old.refusal table) (old.head_of table) (old.item_text table) s period room
  pub writes_leaves : (table s buffer : List ℕ) (period : ℕ) → (Newer table → ⊥)
      → sheet_left table s period buffer
      ≡ sheet_left_seeing (old.refusal table) (old.head_of table) (old.item_text table) s period buffer
  pub rehearse_reports : (input s : List ℕ) → (Newer input → ⊥)
      → reported input s ≡ reported_seen (looks_by old input) input s
  pub rehearse_leaves : (input s : List ℕ) → (Newer input → ⊥)
      → state_left input s ≡ state_left_seen (looks_by old input) input s
  pub hangs : (input : List ℕ) → (Newer (rehearsal_in input) → ⊥)
      → hung input ≡ hung_seen (looks_by old (rehearsal_in input)) input

pub record OldEnginesCalls : Type 0 where
  pub first : OldCalls first_engine StartsWith0
  pub second : OldCalls second_engine StartsWith03
