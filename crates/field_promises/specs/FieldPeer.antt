-- What document 02 asks of one peer for the field, on bytes: board_step beside field_message and field_step, both from
-- their fresh states.
use Rattle.std.specs.Prelude.{ℕ, ◌<◌, true, false, List, ◌≡◌}
use Rattle.std.proofs.Math.Option.{none, some}
use Rattle.base.specs.Bytes.{byte_at}
use Rattle.header.specs.Header.{head_of}
use Rattle.rules.specs.Form.{read}
use Rattle.rules.specs.Run.{store_after}
use Rattle.engine.specs.Engine.{rules_table, fresh_state, step_answer, step_bytes}
use Rattle.engine.specs.States.{StateOf}
use Rattle.guarantee.specs.Demand3.{by_bytes}
use Rattle.field_rules.specs.Box.{fresh_box}
use Rattle.field_rules.specs.Message.{Message}
use Rattle.field_rules.specs.Rules.{repeats}
use Rattle.field_rules.specs.MessageBytes.{message_bytes, is_filled}
use Rattle.field_rules.specs.Replies.{box_after}
use Rattle.field_runs.specs.Beside.{passes, sends, messages, all_sent, always_below, Part, SamePart}
use Rattle.field_runs.specs.Delivered.{outside, delivered, is_call_of, InItsName}
use Rattle.field_state.specs.Holding.{box_of, Holds}
use Rattle.field_valid.specs.BoxOk.{box_ok}
use Rattle.field_promises.specs.Fed.{BoxOf, shown, field_answer, field_bytes, field_sent, field_after, field_replies, room_on, neither_full_on, board_replies}

-- What holds of the board's state bytes y and the box's s that stand beside each other, and of any call c that comes
-- next.
pub record FieldInStep (table : List ℕ) (j : ℕ) (out y s : List ℕ) : Type 0 where
  -- row 14 takes the box's bytes, and they say exactly peer j's part of the board's state
  pub taken : box_ok (head_of table) s ≡ true
  pub part : Part ((by_bytes table).holds y) j (box_of s)
  -- where a message passes, and neither side answers 13 to it: the box's answer is board_step's, and what it sends is
  -- what j sends
  pub answers : (c : List ℕ) (m : Message) → passes (rules_table table) j (by_bytes table) y c ≡ some m
      → room_on table j out s (step_answer table y c) (some m) ≡ true → field_answer table j out s m ≡ step_answer table y c
  pub sent : (c : List ℕ) (m : Message) → passes (rules_table table) j (by_bytes table) y c ≡ some m
      → room_on table j out s (step_answer table y c) (some m) ≡ true
      → field_sent table j out s m ≡ shown j out m (step_answer table y c)
      (sends (rules_table table) j (by_bytes table) y c)
  -- where none passes, j sends nothing
  pub silent : (c : List ℕ) → passes (rules_table table) j (by_bytes table) y c ≡ none
      → sends (rules_table table) j (by_bytes table) y c ≡ none

-- What two lists of calls from the fresh state have in common, if they pass peer j the same messages, whatever else
-- differs: the box's bytes, its answers and outputs, board_step's answers to these calls and what j sends with them,
-- all that j sends, and j's part of the board's state.
pub record SameOnBytes (table : List ℕ) (j : ℕ) (zeros out : List ℕ) (calls others : List (List ℕ)) : Type 0 where
  pub boxes : field_after table j out zeros (messages (rules_table table) j (by_bytes table) fresh_state calls)
      ≡ field_after table j out zeros (messages (rules_table table) j (by_bytes table) fresh_state others)
  pub boxes_reply : field_replies table j out zeros (messages (rules_table table) j (by_bytes table) fresh_state calls)
      ≡ field_replies table j out zeros (messages (rules_table table) j (by_bytes table) fresh_state others)
  pub replies : board_replies table j out fresh_state calls ≡ board_replies table j out fresh_state others
  pub sent : all_sent (rules_table table) j (by_bytes table) fresh_state calls
      ≡ all_sent (rules_table table) j (by_bytes table) fresh_state others
  pub parts : SamePart ((by_bytes table).holds (store_after (by_bytes table) calls))
      ((by_bytes table).holds (store_after (by_bytes table) others)) j

-- Of a message that was answered 0, once more: it is answered 0, sends the same, and changes nothing.
pub record Again (table : List ℕ) (j : ℕ) (out s : List ℕ) (m : Message) : Type 0 where
  pub answers : field_answer table j out (field_bytes table j out s m) m ≡ 0
  pub sends : field_sent table j out (field_bytes table j out s m) m ≡ field_sent table j out s m
  pub leaves : field_bytes table j out (field_bytes table j out s m) m ≡ field_bytes table j out s m

-- zeros are the box's fresh bytes; out is the output, of 13 bytes, that each call gets
pub record FieldPeer (table : List ℕ) (j : ℕ) (zeros out : List ℕ) : Type 0 where
  -- 1. in step: after any calls, while neither store is full
  pub in_step : (calls : List (List ℕ)) → neither_full_on table j out fresh_state zeros calls ≡ true
      → FieldInStep table j out (store_after (by_bytes table) calls)
      (field_after table j out zeros (messages (rules_table table) j (by_bytes table) fresh_state calls))
  -- and of the list as a whole: each answer and each output is the board's
  pub replies : (calls : List (List ℕ)) → neither_full_on table j out fresh_state zeros calls ≡ true
      → field_replies table j out zeros (messages (rules_table table) j (by_bytes table) fresh_state calls)
      ≡ board_replies table j out fresh_state calls
  -- full or not, the box's bytes say the box that the messages lead to
  pub box : (calls : List (List ℕ))
      → Holds (field_after table j out zeros (messages (rules_table table) j (by_bytes table) fresh_state calls))
      (box_after (rules_table table) j fresh_box (messages (rules_table table) j (by_bytes table) fresh_state calls))
  -- 2. delivered: in every state that row 14 passes a call of j's adds to the outside what j sends, and nothing else
  pub delivers : (y : List ℕ) → StateOf table y → (c : List ℕ) → is_call_of j (read c) ≡ true
      → outside ((by_bytes table).holds (step_bytes table y c))
      ≡ delivered j (sends (rules_table table) j (by_bytes table) y c) (outside ((by_bytes table).holds y))
  -- and whoever's call it is, nothing goes out in j's name but what j sends
  pub in_its_name : (y : List ℕ) → StateOf table y → (c : List ℕ)
      → InItsName j (outside ((by_bytes table).holds (step_bytes table y c)))
      (delivered j (sends (rules_table table) j (by_bytes table) y c) (outside ((by_bytes table).holds y)))
  -- 3. room: both stores below 256 at every place is room enough
  pub room : (calls : List (List ℕ)) → always_below (rules_table table) j (by_bytes table) fresh_state fresh_box calls ≡ true
      → neither_full_on table j out fresh_state zeros calls ≡ true
  -- 4. only messages: lists that pass j the same messages
  pub only_messages : (calls others : List (List ℕ))
      → messages (rules_table table) j (by_bytes table) fresh_state calls
      ≡ messages (rules_table table) j (by_bytes table) fresh_state others
      → neither_full_on table j out fresh_state zeros calls ≡ true
      → neither_full_on table j out fresh_state zeros others ≡ true
      → SameOnBytes table j zeros out calls others
  -- 5. a repeat answered 0 sends again, in every state that row 14 takes
  pub again : (s : List ℕ) → BoxOf table s → (m : Message) → repeats m ≡ true → field_answer table j out s m ≡ 0
      → Again table j out s m
  -- a call that points at nothing outside passes its own bytes
  pub as_it_is : (y c : List ℕ) → ((i : ℕ) → byte_at c i < 256) → (m : Message)
      → passes (rules_table table) j (by_bytes table) y c ≡ some m → is_filled m ≡ false → message_bytes j m ≡ c
