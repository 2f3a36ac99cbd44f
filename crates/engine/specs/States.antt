-- The states that `step` takes: bytes that row 14 passes. Steps need not lead to them.
use Rattle.std.specs.Prelude.{ℕ, true, List, ◌≡◌}
use Rattle.header.specs.Header.{head_of}
use Rattle.bits.specs.Row.{Bytes}
use Rattle.valid.specs.StateOk.{state_ok}

-- the bytes of a state that row 14 passes
pub record StateOf (table s : List ℕ) : Type 0 where
  pub bytes : Bytes s
  pub ok : state_ok (head_of table) s ≡ true
