-- The box on bytes as C feeds it: each message is written, and brought by field_message or done by field_step.
use Rattle.std.specs.Prelude.{ℕ, Bool, true, cond, ◌&&◌, List, [], ◌∷◌, ◌≡◌, eqb, length}
use Rattle.std.proofs.Math.Option.{Option, none, some}
use Rattle.base.specs.Bytes.{byte_at}
use Rattle.bits.specs.Row.{Bytes}
use Rattle.header.specs.Header.{head_of}
use Rattle.engine.specs.Engine.{rules_table, step_answer, step_bytes}
use Rattle.guarantee.specs.Demand3.{by_bytes}
use Rattle.field_rules.specs.Message.{Message, Sent}
use Rattle.field_rules.specs.MessageBytes.{message_bytes, is_brought, sent_bytes}
use Rattle.field_runs.specs.Beside.{not_full, passes, sends}
use Rattle.field_state.specs.Layout.{size}
use Rattle.field_valid.specs.BoxOk.{box_ok}
use Rattle.field.specs.Calls.{message_answer, message_leaves, own_answer, own_leaves, own_sends}

-- the bytes of a box that row 14 takes
pub record BoxOf (table s : List ℕ) : Type 0 where
  pub bytes : Bytes s
  pub ok : box_ok (head_of table) s ≡ true

-- the box's fresh state: as many bytes as the layout has, all 0
pub record Zeros (s : List ℕ) : Type 0 where
  pub long : length s ≡ size
  pub zero : (i : ℕ) → byte_at s i ≡ 0

-- what an act of the peer's own leaves in the output: what is sent where it is accepted, else what was there; a message
-- that is brought has none
unfoldable pub shown : ℕ → List ℕ → Message → ℕ → Option Sent → List ℕ
shown j out m a sent = cond (is_brought m) out (cond (eqb a 0) (sent_bytes j sent) out)

-- an answer, and the output after it
abbrev pub Shown : Type 0
Shown = ℕ × List ℕ

unfoldable pub with_shown : Option Message → (Message → Shown) → List Shown → List Shown
with_shown none f rs = rs
with_shown (some m) f rs = f m ∷ rs

-- peer j of the table's, with the output that C lends for what is sent
module _ (table : List ℕ) (j : ℕ) (out : List ℕ) where
  -- what C gets for one message, of the state bytes s: the answer, the state bytes after it, the output after it
  unfoldable pub field_answer : List ℕ → Message → ℕ
  field_answer s m =
      cond (is_brought m) (message_answer table j s (message_bytes j m)) (own_answer table j s (message_bytes j m) out)

  unfoldable pub field_bytes : List ℕ → Message → List ℕ
  field_bytes s m =
      cond (is_brought m) (message_leaves table j s (message_bytes j m)) (own_leaves table j s (message_bytes j m) out)

  unfoldable pub field_sent : List ℕ → Message → List ℕ
  field_sent s m = cond (is_brought m) out (own_sends table j s (message_bytes j m) out)

  -- and for a list of them: the state bytes after it, and each answer and output
  unfoldable pub field_after : List ℕ → List Message → List ℕ
  field_after s [] = s
  field_after s (m ∷ ms) = field_after (field_bytes s m) ms

  unfoldable pub field_replies : List ℕ → List Message → List Shown
  field_replies s [] = []
  field_replies s (m ∷ ms) = (field_answer s m, field_sent s m) ∷ field_replies (field_bytes s m) ms

  -- after what a call passes, if it passes anything
  unfoldable pub fed_bytes : List ℕ → Option Message → List ℕ
  fed_bytes s none = s
  fed_bytes s (some m) = field_bytes s m

  -- where a message passes, neither board_step, whose answer is a, nor the box answers 13
  unfoldable pub room_on : List ℕ → ℕ → Option Message → Bool
  room_on s a none = true
  room_on s a (some m) = not_full a && not_full (field_answer s m)

  -- along calls of board_step, of the board's state bytes y and the box's s: no call that passes j a message is
  -- answered 13 on either side
  unfoldable pub neither_full_on : List ℕ → List ℕ → List (List ℕ) → Bool
  neither_full_on y s [] = true
  neither_full_on y s (c ∷ calls) =
      let o = passes (rules_table table) j (by_bytes table) y c in
      room_on s (step_answer table y c) o && neither_full_on (step_bytes table y c) (fed_bytes s o) calls

  -- for each call that passes j a message: board_step's answer, and what j sends with it
  unfoldable pub board_replies : List ℕ → List (List ℕ) → List Shown
  board_replies y [] = []
  board_replies y (c ∷ calls) =
      with_shown (passes (rules_table table) j (by_bytes table) y c)
      (λ m. (
        step_answer table y c,
        shown j out m (step_answer table y c)
            (sends (rules_table table) j (by_bytes table) y c),
      ))
      (board_replies (step_bytes table y c) calls)
