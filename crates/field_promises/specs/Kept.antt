-- What holds of every call of field_message and field_step, of any bytes: a refusal alters neither state nor output,
-- and row 14 takes what a call leaves where it takes what the call got.
use Rattle.std.specs.Prelude.{ℕ, List, ◌≡◌}
use Rattle.bits.specs.Row.{Bytes}
use Rattle.ballot.specs.Table.{refusal}
use Rattle.field.specs.Calls.{message_answer, message_leaves, own_answer, own_leaves, own_sends}
use Rattle.field_promises.specs.Fed.{BoxOf}

pub record FieldKept (table : List ℕ) (j : ℕ) (s : List ℕ) : Type 0 where
  -- a refusal, whatever the table, the peer, the state and the bytes
  pub message_refused : (message : List ℕ) → (message_answer table j s message ≡ 0 → ⊥)
      → message_leaves table j s message ≡ s
  pub step_refused : (step out : List ℕ) → (own_answer table j s step out ≡ 0 → ⊥) → own_leaves table j s step out ≡ s
  pub output_refused : (step out : List ℕ) → (own_answer table j s step out ≡ 0 → ⊥) → own_sends table j s step out ≡ out
  -- row 14
  pub message_kept : refusal table ≡ 0 → BoxOf table s → (message : List ℕ) → Bytes message
      → BoxOf table (message_leaves table j s message)
  pub step_kept : refusal table ≡ 0 → BoxOf table s → (step out : List ℕ) → BoxOf table (own_leaves table j s step out)
