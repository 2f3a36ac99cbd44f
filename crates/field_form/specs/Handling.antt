-- What is promised of bytes that say a message or a step: what is answered, left and sent.
use Rattle.std.specs.Prelude.{ℕ, Bool, cond, List, ◌≡◌, eqb}
use Rattle.base.specs.Refusals.{form, name, number_of}
use Rattle.rules.specs.Table.{Table}
use Rattle.field_rules.specs.MessageBytes.{Reading, sent_bytes, handle_reading}
use Rattle.field_state.specs.Holding.{box_of, Holds}

-- bytes that are not formed, or name another than peer j, and 0 for those that are for peer j
unfoldable pub address : Bool → ℕ → ℕ → ℕ
address ok i j = cond ok (cond (eqb i j) 0 (number_of name)) (number_of form)

-- peer j, whose box has the bytes s, takes what bytes say: r is the answer, t the bytes after it
pub record HandlesReading (T : Table) (j : ℕ) (s t : List ℕ) (L : Reading) (r : ℕ) : Type 0 where
  pub answers : r ≡ (handle_reading T j (box_of s) L).answer
  pub leaves : Holds t (handle_reading T j (box_of s) L).after

-- and what is sent: o is the output before it, u after it
pub record SendsReading (T : Table) (j : ℕ) (s t : List ℕ) (L : Reading) (o u : List ℕ) (r : ℕ) : Type 0 where
  pub handles : HandlesReading T j s t L r
  pub sends : u ≡ cond (eqb r 0) (sent_bytes j (handle_reading T j (box_of s) L).sent) o
