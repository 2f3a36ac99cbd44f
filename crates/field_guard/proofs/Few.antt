-- Signers of the database that reach t, and the board of a period, by the sets that were read.
use Prim.Native.Nat.{ℕ}
use mathlib.Core.Bool.{Bool, not}
use mathlib.Core.List.{List}
use mathlib.Core.Path.{◌≡◌, ap, ◌∙◌}
use Rattle.base.proofs.Members.{member-pack}
use Rattle.header.specs.declared.Head.{Head}
use Rattle.header.specs.declared.Signers.{Signers}
use Rattle.header.specs.Quorum.{room, reaches}
use Rattle.rules.specs.Table.{quorum}
use Rattle.view.specs.View.{no_clash, table_of}
use Rattle.view.proofs.Quorum.{is_quorum}
use Rattle.field_state.specs.Holding.{spot_bit, signers_in}
use Rattle.field_state.specs.Ready.{Ready}

module _ (h : Head) (s : List ℕ) (R : Ready h s) where
  pub signers-quorum : (p x : ℕ) → reaches h (signers_in s p x).0 ≡ quorum (table_of h no_clash) (spot_bit s p x)
  unfolding signers_in
  signers-quorum p x = is_quorum h no_clash _ (spot_bit s p x) R.room.peers (member-pack room (spot_bit s p x))
      (λ k q. ((R.good no_clash).knows p x k q).1.1)

  -- the period was read, then the signers
  pub signers_few : (p q x : ℕ) (set : Signers) {r : Bool} → p ≡ q → set ≡ signers_in s p x → r ≡ reaches h set.0
      → not r ≡ not (quorum (table_of h no_clash) (spot_bit s q x))
  signers_few p q x set i e f =
      let read = e ∙ ap (λ (p : ℕ). signers_in s p x) i in
      ap not (f ∙ ap (λ (y : Signers). reaches h y.0) read ∙ signers-quorum q x)
