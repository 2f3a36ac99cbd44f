-- No peer is 0 or above 16, and else the bit is set.
use Prim.Native.Nat.{ℕ, ◌-◌}
use native.Mathlib.Omega.{arith}
use mathlib.Core.Path.{ap, ◌∙◌}
use lib.Bits.{bit_or}
use Rattle.base.proofs.Masks.{shifted}
use Rattle.header.specs.Quorum.{with_peer}
use Rattle.header.proofs.Reach.{peer_none, peer_high, peer_more}
use Rattle.header.proofs.quorum.with_peer.Goals.{then-k-eq0-via-then-k-eq0, then-k-eq0-via-else-k-eq0+then-k-gt16}
use Rattle.header.proofs.quorum.with_peer.Goals as goal

pub returns-then-k-eq0 : goal.returns-then-k-eq0
returns-then-k-eq0 g c = elim c.then-k-eq0.branch [
  | then-k-eq0-via-then-k-eq0 w ↦ peer_none _ _ w.if-k-eq0.true
  | then-k-eq0-via-else-k-eq0+then-k-gt16 w ↦ peer_high _ _ w.if-k-gt16.true
]

pub returns : goal.returns
returns g c =
    let a = c.args in
    c.of_bits.ensures
    ∙ ap (bit_or _) (shifted 16 (a.k - 1) (omega (arith, c.if-k-gt16.false)))
    ∙ peer_more _ a.k c.if-k-eq0.false c.if-k-gt16.false
    ∙ ap (λ (x : ℕ). with_peer x a.k) c.bits.ensures
