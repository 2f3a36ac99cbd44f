-- The box beside the rehearsal is valid after every list of calls, where the table's numbers are those of document 01.
use Prim.Native.Nat.{ℕ, ◌≤◌}
use mathlib.Core.List.{List, [], ◌∷◌}
use mathlib.Core.Option.{Option, none, some}
use mathlib.Core.Path.{◌≡◌, refl}
use Rattle.rules.specs.Table.{Table}
use Rattle.rules.specs.Form.{read}
use Rattle.rules.specs.Run.{Engine}
use Rattle.rules.specs.Follows.{Follows}
use Rattle.field_rules.specs.Box.{Box}
use Rattle.field_rules.specs.Message.{Message, row_items, row_peers}
use Rattle.field_rules.specs.Rules.{handle}
use Rattle.field_rules.specs.BoxIn.{BoxIn}
use Rattle.field_rules.proofs.BoxIn.{box_stays_valid}
use Rattle.field_rules.specs.Replies.{box_after}
use Rattle.field_runs.specs.Beside.{with_message, passes, messages}
use Rattle.field_runs.proofs.Placed.{call-placed}

module _ (T : Table) (few : (T.items ≤ row_items) × (T.n ≤ row_peers)) (j : ℕ) where
  none_after : (b : Box) → BoxIn T b → BoxIn T (box_after T j b [])
  unfolding box_after
  none_after b B = B

  none_with : (b : Box) (ms : List Message) → BoxIn T (box_after T j b ms) → BoxIn T (box_after T j b (with_message none ms))
  unfolding with_message
  none_with b ms B = B

  some_with : (b : Box) (m : Message) (ms : List Message) → BoxIn T (box_after T j (handle T j b m).after ms)
      → BoxIn T (box_after T j b (with_message (some m) ms))
  unfolding box_after with_message
  some_with b m ms B = B

  module _ {X : Type 0} (E : Engine X) (Ready : X → Type 0) (F : Follows T E Ready) where
    pub box_valid_after : (x : X) → Ready x → (b : Box) → BoxIn T b → (calls : List (List ℕ))
        → BoxIn T (box_after T j b (messages T j E x calls))
    unfolding messages
    box_valid_after x R b B [] = none_after b B
    box_valid_after x R b B (c ∷ calls) = go (passes T j E x c) refl
        (λ b B. box_valid_after (E.leaves x c) (F.stays_ready x R c) b B calls)
      where
        go : (o : Option Message) → passes T j E x c ≡ o
            → ((b : Box) → BoxIn T b → BoxIn T (box_after T j b (messages T j E (E.leaves x c) calls)))
            → BoxIn T (box_after T j b (with_message o (messages T j E (E.leaves x c) calls)))
        go none e later = none_with b _ (later b B)
        go (some m) e later = some_with b m _
            (later (handle T j b m).after (box_stays_valid T j b B m (call-placed T few j (E.holds x) (F.valid x R) (read c) m e).0))
