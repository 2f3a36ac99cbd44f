-- A refusal alters nothing, by the definitions; and a box that row 14 takes is ready, which every call leaves it.
use Prim.Native.Nat.{ℕ}
use mathlib.Core.List.{List}
use mathlib.Core.Path.{◌≡◌, refl, sym}
use lib.Dec.{eqb}
use lib.ListN.{length}
use borrow.Author.Tests.{ne_eqb}
use Rattle.header.specs.Header.{head_of}
use Rattle.ballot.specs.Table.{refusal}
use Rattle.engine.proofs.Calls.{room_of}
use Rattle.field_state.specs.Ready.{Ready}
use Rattle.field_valid.proofs.Ok.{ready_of_ok, ok_of_ready}
use Rattle.field.specs.Calls.{call_bytes, call_sent}
use Rattle.field_promises.specs.Fed.{BoxOf}
use Rattle.field_promises.specs.Kept.{FieldKept}
use Rattle.field_promises.proofs.Runs.{message_ready, step_ready}

pub box_ready : (table : List ℕ) → refusal table ≡ 0 → (s : List ℕ) → BoxOf table s → Ready (head_of table) s
box_ready table fit s B = ready_of_ok (head_of table) s (room_of table (sym fit) refl) B.bytes B.ok

ready_box : (table s : List ℕ) → Ready (head_of table) s → BoxOf table s
ready_box table s R = record { bytes = R.canon.bytes; ok = ok_of_ready (head_of table) s R }

pub field-kept : (table : List ℕ) (j : ℕ) (s : List ℕ) → FieldKept table j s
unfolding call_bytes call_sent
field-kept table j s = record {
  message_refused = λ message n. rw (ne_eqb _ 0 n);
  step_refused = λ step out n. rw (ne_eqb _ 0 n);
  output_refused = λ step out n. rw (ne_eqb _ 0 n);
  message_kept = λ fit B message bytes. ready_box table _ (message_ready table j s (box_ready table fit s B) message bytes);
  step_kept = λ fit B step out. ready_box table _ (step_ready table j s (box_ready table fit s B) (eqb (length out) 13) step);
}
