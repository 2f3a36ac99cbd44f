-- What the bytes of a call say of the step that they are read as.
use Prim.Native.Nat.{ℕ}
use mathlib.Core.Bool.{true}
use mathlib.Core.List.{List}
use mathlib.Core.Path.{◌≡◌, sym, ap, ◌∙◌}
use lib.Dec.{eqb}
use Rattle.base.specs.Bytes.{byte_at, number_at}
use Rattle.base.proofs.Truth.{eqb_self}
use Rattle.rules.specs.declared.Step.{Step}
use Rattle.std.specs.Prelude.{Some}
use Rattle.rules.specs.Form.{read}
use Rattle.rules.specs.declared.Fields.{Fields}
use Rattle.rules.specs.Fields.{fields}
use Rattle.form.proofs.Written.{holds}
use Rattle.gains.specs.Gain.{is_op}

module _ (c : List ℕ) (st : Step) (said : read c ≡ Some st) where
  pub op_of_lem : (op : ℕ) → is_op op c ≡ eqb (fields st).op op
  unfolding is_op
  op_of_lem op = let h = holds c st said in rw h.0 (ap (λ (f : Fields). eqb f.op op) (sym h.1))

  pub op_said : is_op (fields st).op c ≡ true
  op_said = op_of_lem (fields st).op ∙ eqb_self (fields st).op

  pub peer_said : byte_at c 1 ≡ (fields st).peer
  peer_said = sym (ap (λ (f : Fields). f.peer) (holds c st said).1)

  pub period_said : byte_at c 3 ≡ (fields st).period
  period_said = sym (ap (λ (f : Fields). f.period) (holds c st said).1)

  pub item_said : byte_at c 4 ≡ (fields st).item
  item_said = sym (ap (λ (f : Fields). f.item) (holds c st said).1)

  pub board_said : number_at c 5 8 ≡ (fields st).board
  board_said = sym (ap (λ (f : Fields). f.board) (holds c st said).1)
