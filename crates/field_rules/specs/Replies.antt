-- The field peer that gets one message after the other.
use Rattle.std.specs.Prelude.{ℕ, List, [], ◌∷◌}
use Rattle.std.proofs.Math.Option.{Option, none, some}
use Rattle.rules.specs.Table.{Table}
use Rattle.field_rules.specs.Box.{Box}
use Rattle.field_rules.specs.Message.{Message, Sent}
use Rattle.field_rules.specs.Rules.{handle}

-- an answer and what is sent with it
abbrev pub Reply : Type 0
Reply = ℕ × Option Sent

-- with what is sent, where anything is
unfoldable pub with_sent : Option Sent → List Sent → List Sent
with_sent none l = l
with_sent (some m) l = m ∷ l

module _ (T : Table) (j : ℕ) where
  -- the box after messages
  unfoldable pub box_after : Box → List Message → Box
  box_after b [] = b
  box_after b (m ∷ ms) = box_after (handle T j b m).after ms

  -- its replies to them
  unfoldable pub box_replies : Box → List Message → List Reply
  box_replies b [] = []
  box_replies b (m ∷ ms) =
      ((handle T j b m).answer, (handle T j b m).sent) ∷ box_replies (handle T j b m).after ms

  -- all that it sends
  unfoldable pub box_sends : Box → List Message → List Sent
  box_sends b [] = []
  box_sends b (m ∷ ms) = with_sent (handle T j b m).sent (box_sends (handle T j b m).after ms)
