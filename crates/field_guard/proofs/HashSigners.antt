-- The signers that were gathered are those whose hash of the period and the board is heard.
use Prim.Native.Nat.{ℕ, ◌+◌, ◌≤◌}
use mathlib.Core.Bool.{Bool, true, not}
use mathlib.Core.List.{List}
use mathlib.Core.Path.{◌≡◌, sym, ap, ◌∙◌, subst}
use lib.Dec.{eqb}
use borrow.Author.Tests.{eqb-true, eq-eqb, ne_eqb}
use Rattle.base.specs.Bits.{member}
use Rattle.base.specs.Bytes.{byte_at}
use Rattle.base.proofs.Truth.{iff}
use Rattle.base.proofs.Below.{any_ext}
use Rattle.header.specs.declared.Head.{Head}
use Rattle.header.specs.Quorum.{room, reaches}
use Rattle.rules.specs.declared.Entry.{Entry}
use Rattle.rules.specs.declared.Entry.TheVariants.{Hash}
use Rattle.rules.specs.Table.{quorum}
use Rattle.rules.specs.Bag.{same_entry, is_in}
use Rattle.rules.proofs.Bag.{eq_of_same, same_self}
use Rattle.bits.specs.Number.{num}
use Rattle.state.specs.Layout.{hash_kind, item_bytes}
use Rattle.bag.specs.Bag.{signer_with}
use Rattle.bag_guard.specs.Signers.{gathered}
use Rattle.bag_guard.proofs.Gathered.{gathered-has, hash_is, of_signer}
use Rattle.view.specs.View.{no_clash, table_of}
use Rattle.view.proofs.Quorum.{is_quorum}
use Rattle.field_state.specs.Layout.{hash_start}
use Rattle.field_state.specs.Holding.{hash_at, heard_count, heard_in}
use Rattle.field_state.specs.Ready.{Ready}
use Rattle.field_state.specs.Hearing.{same_at}
use Rattle.field_state.proofs.Hashes.{heard_any}
use Rattle.field_guard.specs.HashSigners.{hash_signer}

-- the signer of heard hash e, by the tests on its period and its board
module _ (s : List ℕ) (e p B : ℕ) where
  pub other_period : (byte_at s (hash_start e + 1) ≡ p → ⊥) → 0 ≡ hash_signer s p B e
  unfolding hash_signer signer_with hash_at
  other_period n = rw (ne_eqb _ _ n)

  pub other-board : {v : ℕ} → byte_at s (hash_start e + 1) ≡ p → v ≡ num item_bytes s (hash_start e + 2) → (v ≡ B → ⊥)
      → 0 ≡ hash_signer s p B e
  unfolding hash_signer signer_with hash_at
  other-board i v n = rw (eq-eqb _ _ i, ← v, ne_eqb _ _ n)

  pub same_hash : {v : ℕ} → byte_at s (hash_start e + 1) ≡ p → v ≡ num item_bytes s (hash_start e + 2) → v ≡ B
      → byte_at s (hash_start e) ≡ hash_signer s p B e
  unfolding hash_signer signer_with hash_at
  same_hash i v n = rw (eq-eqb _ _ i, ← v, eq-eqb _ _ n)

-- an entry has this signer, period and board exactly if it is that hash
is_hash_lem : (x : Entry) (k p B : ℕ) → 1 ≤ k → eqb (signer_with hash_kind p B x) k ≡ same_entry (Hash k p B) x
is_hash_lem x k p B a = iff _ _
    (λ t. subst (λ (y : Entry). same_entry (Hash k p B) y ≡ true) (sym (hash_is x k p B a (eqb-true _ k t))) (same_self (Hash k p B)))
    (λ t. eq-eqb (signer_with hash_kind p B x) k
    (subst (λ (y : Entry). signer_with hash_kind p B y ≡ k) (eq_of_same (Hash k p B) x t) (of_signer (Hash k p B))))

module _ (h : Head) (s : List ℕ) (R : Ready h s) (p B : ℕ) where
  abbrev S : ℕ → Bool
  S k = is_in (Hash k p B) (heard_in s)

  gathered_heard : (k : ℕ) → 1 ≤ k → k ≤ room → member (gathered (hash_signer s p B) (heard_count s)) k ≡ S k
  unfolding hash_signer same_at
  gathered_heard k a b =
      gathered-has (hash_signer s p B) (heard_count s) k a b
      ∙ any_ext (heard_count s) (λ e. eqb (hash_signer s p B e) k) (same_at s k p B) (λ e l. is_hash_lem (hash_at s e) k p B a)
      ∙ heard_any s k p B

  -- in a box that is ready no signer is above n
  pub heard_few : {r : Bool} (set : ℕ) → set ≡ gathered (hash_signer s p B) (heard_count s) → r ≡ reaches h set
      → not r ≡ not (quorum (table_of h no_clash) S)
  heard_few set e f =
      ap not (f ∙ ap (reaches h) e ∙ is_quorum h no_clash _ S R.room.peers gathered_heard
      (λ k t. ((R.good no_clash).store.entries (Hash k p B) t).0.1))
