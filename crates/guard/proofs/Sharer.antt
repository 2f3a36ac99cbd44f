-- Whether a peer is among those whose receipt shares on an item are outside, by the set that was read.
use Prim.Native.Nat.{ℕ, ◌+◌, ◌≤◌}
use mathlib.Core.Bool.{Bool, true}
use mathlib.Core.List.{List}
use mathlib.Core.Path.{◌≡◌, sym, ap, ◌∙◌}
use Rattle.base.specs.Bits.{member, pack}
use Rattle.base.proofs.Bits.{pack-lt}
use Rattle.base.proofs.Members.{member-among, member-pack}
use Rattle.base.proofs.Truth.{iff, and_l}
use Rattle.header.specs.declared.Sharers.{Sharers}
use Rattle.state.specs.declared.Fact.TheVariants.{Shared}
use Rattle.state.specs.Facts.{is_spot}
use Rattle.state.specs.Contents.{contents}
use Rattle.state.specs.Sets.{sharers_of}
use Rattle.state.proofs.Ranges.{spot_within}

-- a set of peers 1 to n as a number has them as its members
among : (n : ℕ) (S : ℕ → Bool) → ((k : ℕ) → S k ≡ true → (1 ≤ k) × (k ≤ n)) → (k : ℕ) → member (pack n (λ i. S (i + 1))) k ≡ S k
among n S within k = iff _ _
    (λ m. let peer = member-among n _ (pack-lt n (λ i. S (i + 1))) k m in sym (member-pack n S k peer.0 peer.1) ∙ m)
    (λ e. let peer = within k e in member-pack n S k peer.0 peer.1 ∙ e)

pub is_sharer : (s : List ℕ) (j q x : ℕ) (set : Sharers) {r : Bool} → set ≡ sharers_of (contents s) q x → r ≡ member set.0 j
    → r ≡ (contents s).has (Shared j q x)
unfolding contents sharers_of
is_sharer s j q x set e m =
    m ∙ ap (λ (y : Sharers). member y.0 j) e
    ∙ among 16 (λ k. (contents s).has (Shared k q x)) (λ k t. (spot_within k q x (and_l (is_spot k q x) _ t)).0) j
