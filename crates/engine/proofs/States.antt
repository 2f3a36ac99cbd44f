-- The states that row 14 passes are those that are ready.
use Prim.Native.Nat.{ℕ}
use mathlib.Core.List.{List}
use mathlib.Core.Path.{◌≡◌, refl, sym}
use Rattle.header.specs.Header.{head_of}
use Rattle.ballot.specs.Table.{refusal}
use Rattle.view.specs.Ready.{Ready}
use Rattle.valid.proofs.Ready.{ready_of_ok, ok_of_ready}
use Rattle.engine.specs.States.{StateOf}
use Rattle.engine.proofs.Calls.{room_of}

pub ready_state : (table : List ℕ) → refusal table ≡ 0 → (s : List ℕ) → StateOf table s → Ready (head_of table) s
ready_state table fit s O = ready_of_ok (head_of table) s (room_of table (sym fit) refl) O.bytes O.ok

pub state_ready : (table s : List ℕ) → Ready (head_of table) s → StateOf table s
state_ready table s R = record { bytes = R.canon.bytes; ok = ok_of_ready (head_of table) s R }
