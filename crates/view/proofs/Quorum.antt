-- A set of peers that reaches t is a quorum of the rules: in a state that is ready no peer above n has signed or shared.
use Prim.Native.Nat.{ℕ, ◌≤◌}
use mathlib.Core.Bool.{Bool, true}
use mathlib.Core.List.{List}
use mathlib.Core.Path.{◌≡◌, ap, ◌∙◌}
use lib.Dec.{leb}
use Rattle.base.specs.Bits.{member}
use Rattle.base.proofs.Members.{member-pack}
use Rattle.base.proofs.Weight.{weight_ext, weight-among}
use Rattle.header.specs.declared.Head.{Head}
use Rattle.header.specs.Quorum.{room, weight_of, reaches}
use Rattle.rules.specs.Table.{quorum}
use Rattle.state.specs.declared.Fact.TheVariants.{Shared, Known}
use Rattle.state.specs.Contents.{contents}
use Rattle.state.specs.Sets.{signers_of, sharers_of}
use Rattle.view.specs.View.{no_clash, table_of}
use Rattle.view.specs.Ready.{Ready}

-- the set of the peers that pass S, of whom none is above n
pub is_quorum : (h : Head) (clash : ℕ → ℕ → Bool) (set : ℕ) (S : ℕ → Bool) → h.n ≤ room → ((k : ℕ) → 1 ≤ k → k ≤ room → member set k ≡ S k)
    → ((k : ℕ) → S k ≡ true → k ≤ h.n) → reaches h set ≡ quorum (table_of h clash) S
unfolding reaches
is_quorum h clash set S l same below =
    ap (leb h.t) (weight_ext (weight_of h) room (member set) S same ∙ weight-among (weight_of h) h.n room S l below)

module _ (h : Head) (s : List ℕ) (R : Ready h s) where
  pub signers-quorum : (j p x : ℕ)
      → reaches h (signers_of (contents s) j p x).0 ≡ quorum (table_of h no_clash) (λ k. (contents s).has (Known j p x k))
  unfolding signers_of
  signers-quorum j p x =
      let S : ℕ → Bool = λ k. (contents s).has (Known j p x k) in
      is_quorum h no_clash _ S R.room.peers (member-pack room S) (λ k q. ((R.good no_clash).valid.sets.knows j p x k q).1.1)

  pub sharers_quorum : (p x : ℕ)
      → reaches h (sharers_of (contents s) p x).0 ≡ quorum (table_of h no_clash) (λ k. (contents s).has (Shared k p x))
  unfolding sharers_of
  sharers_quorum p x =
      let S : ℕ → Bool = λ k. (contents s).has (Shared k p x) in
      is_quorum h no_clash _ S R.room.peers (member-pack room S) (λ k q. ((R.good no_clash).valid.sets.shares k p x q).0.1)
