-- What a table and a state that passed their tests give to a step.
use Prim.Native.Nat.{ℕ}
use native.Mathlib.Omega.{arith}
use mathlib.Core.Bool.{true}
use mathlib.Core.List.{List, []}
use mathlib.Core.Path.{◌≡◌, refl, sym, ap, subst, ◌∙◌}
use lib.ListN.{replicate}
use Rattle.header.specs.Header.{head_of}
use Rattle.ballot.specs.Table.{refusal}
use Rattle.ballot.proofs.Sound.{sound}
use Rattle.bits.specs.Row.{Bytes}
use Rattle.state.specs.Layout.{size}
use Rattle.header.specs.declared.Head.{Head}
use Rattle.valid.specs.StateOk.{state_ok}
use Rattle.view.specs.Ready.{Room, Ready}
use Rattle.valid.proofs.Ready.{ready_of_ok}
use Rattle.engine.specs.Engine.{Prepared, fresh_state}

module _ (table : List ℕ) {r : ℕ} (checked : r ≡ refusal table) (good : r ≡ 0) where
  fit : refusal table ≡ 0
  fit = sym checked ∙ good

  pub room_of : Room (head_of table)
  room_of = let S = sound table fit in record { peers = S.peers_most; periods = S.periods_most_lem; items = S.items_most_lem }

module _ (table : List ℕ) (fits : 0 ≡ refusal table) (h : Head) (head : h ≡ head_of table) where
  pub room_read : Room h
  room_read = subst (λ h. Room h) (sym head) (room_of table fits refl)

  pub prepared : Prepared table h []
  prepared = record { taken = sym fits; head = head; clashes = record { row = λ k l. absurd (omega arith) } }

  pub ready_read : (s : List ℕ) → Bytes s → state_ok h s ≡ true → Ready h s
  ready_read s bytes ok = ready_of_ok h s room_read bytes ok

-- a buffer of a state's length that was cleared is the fresh state
pub fresh_zeros : (n : ℕ) → n ≡ size → replicate n 0 ≡ fresh_state
unfolding fresh_state
fresh_zeros n e = ap (λ (n : ℕ). replicate n 0) e
