-- What is promised of a step of the peer's own: besides the answer and the box, what is sent.
use Rattle.std.specs.Prelude.{ℕ, cond, List, ◌≡◌, eqb}
use Rattle.header.specs.declared.Head.{Head}
use Rattle.view.specs.View.{no_clash, table_of}
use Rattle.field_rules.specs.Message.{Message}
use Rattle.field_rules.specs.Rules.{handle}
use Rattle.field_rules.specs.MessageBytes.{sent_bytes}
use Rattle.field_state.specs.Holding.{box_of}
use Rattle.field_state.specs.Ready.{Handles}

-- o is the output before, u after: what is sent, or 13 zeros, or what it was where the step is refused
pub record Sends (h : Head) (j : ℕ) (s t : List ℕ) (m : Message) (o u : List ℕ) (r : ℕ) : Type 0 where
  pub handles : Handles h j s t m r
  pub sends : u ≡ cond (eqb r 0) (sent_bytes j (handle (table_of h no_clash) j (box_of s) m).sent) o
