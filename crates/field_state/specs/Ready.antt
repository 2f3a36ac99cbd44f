-- A box's bytes that a message may be brought to, and what is promised of one.
use Rattle.std.specs.Prelude.{ℕ, Bool, List, ◌≡◌}
use Rattle.header.specs.declared.Head.{Head}
use Rattle.view.specs.View.{no_clash, table_of}
use Rattle.view.specs.Ready.{Room}
use Rattle.field_rules.specs.Message.{Message}
use Rattle.field_rules.specs.Rules.{handle_answer, handle}
use Rattle.field_rules.specs.BoxIn.{BoxIn}
use Rattle.field_state.specs.Holding.{box_of, Canon, Holds}

-- canonical, and what they say is within the table's ranges, whatever clashes
pub record Ready (h : Head) (s : List ℕ) : Type 0 where
  pub room : Room h
  pub canon : Canon s
  pub good : (clash : ℕ → ℕ → Bool) → BoxIn (table_of h clash) (box_of s)

-- peer j's answer to a message, by what clashes; and to any but an item handed
abbrev pub answer_by : Head → (ℕ → ℕ → Bool) → ℕ → List ℕ → Message → ℕ
answer_by h clash j s m = handle_answer (table_of h clash) j (box_of s) m

abbrev pub answer_on : Head → ℕ → List ℕ → Message → ℕ
answer_on h j s m = answer_by h no_clash j s m

-- s are the bytes before the message, t those after it, r the answer
pub record HandlesBy (h : Head) (clash : ℕ → ℕ → Bool) (j : ℕ) (s t : List ℕ) (m : Message) (r : ℕ) : Type 0 where
  pub answers : r ≡ answer_by h clash j s m
  pub leaves : Holds t (handle (table_of h clash) j (box_of s) m).after

abbrev pub Handles : Head → ℕ → List ℕ → List ℕ → Message → ℕ → Type 0
Handles h j s t m r = HandlesBy h no_clash j s t m r
