-- The calls on bytes: what is answered, left and sent, of any table, peer, state and bytes.
use Rattle.std.specs.Prelude.{ℕ, Bool, true, cond, ◌&&◌, List, eqb, length}
use Rattle.base.specs.Refusals.{state, number_of}
use Rattle.header.specs.Header.{head_of}
use Rattle.ballot.specs.Table.{refusal}
use Rattle.engine.specs.Engine.{rules_table}
use Rattle.field_rules.specs.Rules.{Handled}
use Rattle.field_rules.specs.MessageBytes.{Reading, read_message, read_step, sent_bytes, handle_reading}
use Rattle.field_state.specs.Holding.{box_of}
use Rattle.field_state.specs.Encode.{encode}
use Rattle.field_valid.specs.BoxOk.{box_ok}

-- a call: the table's refusals 1 to 4, then 14, for the state or the output, then as what the bytes say is handled
module _ (table : List ℕ) (j : ℕ) (s : List ℕ) (room : Bool) (L : Reading) where
  abbrev pub handled : Handled
  handled = handle_reading (rules_table table) j (box_of s) L

  unfoldable pub call_answer : ℕ
  call_answer =
      cond (eqb (refusal table) 0) (cond (box_ok (head_of table) s && room) handled.answer (number_of state))
      (refusal table)

  -- a refused call alters nothing
  unfoldable pub call_bytes : List ℕ
  call_bytes = cond (eqb call_answer 0) (encode handled.after) s

  unfoldable pub call_sent : List ℕ → List ℕ
  call_sent out = cond (eqb call_answer 0) (sent_bytes j handled.sent) out

-- field_message, of any table, peer j, state s and message: its answer, and the state that it leaves
module _ (table : List ℕ) (j : ℕ) (s message : List ℕ) where
  abbrev pub message_answer : ℕ
  message_answer = call_answer table j s true (read_message message)

  abbrev pub message_leaves : List ℕ
  message_leaves = call_bytes table j s true (read_message message)

-- field_step, of any table, peer j, state s, step and output: its answer, the state and the output that it leaves
module _ (table : List ℕ) (j : ℕ) (s step out : List ℕ) where
  abbrev pub own_answer : ℕ
  own_answer = call_answer table j s (eqb (length out) 13) (read_step step)

  abbrev pub own_leaves : List ℕ
  own_leaves = call_bytes table j s (eqb (length out) 13) (read_step step)

  abbrev pub own_sends : List ℕ
  own_sends = call_sent table j s (eqb (length out) 13) (read_step step) out
