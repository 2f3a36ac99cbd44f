-- The peers are looked at one after the other: the set has those of the first k that have the feature.
use mathlib.Core.Path.{sym, ap, ◌∙◌}
use native.Mathlib.Omega.{arith}
use Rattle.base.proofs.Masks.{bits_none, bits_out, bits_end}
use Rattle.header.specs.Header.{has, peers_with}
use Rattle.header.proofs.Reach.{next_peer}
use Rattle.header.proofs.weights.peers_with.Goals.{then-has, else-has}
use Rattle.header.proofs.weights.peers_with.Goals as goal

pub loop-k-init : goal.loop-k-init
loop-k-init c = bits_none _

pub loop-k-preserved : goal.loop-k-preserved
loop-k-preserved c =
    let l = c.loop-k in
    let count = c.weight_count-count.ensures.1 in
    let feature = c.args.feature in
    let tested = sym (c.has.ensures ∙ ap (has feature) c.weight_in.ensures) in
    elim c.if-has.branch [
      | then-has w ↦
          w.set-is ∙ w.with_peer-set.ensures ∙ next_peer _ l.k (omega (arith, count)) l.invariant (tested ∙ w.if-has.true)
      | else-has w ↦ w.set-is ∙ l.invariant ∙ sym (bits_out _ l.k (tested ∙ w.if-has.false))
    ]

pub returns : goal.returns
unfolding peers_with
returns c =
    let l = c.loop-k in
    bits_end _ l.k _ (omega (arith, c.weight_count-count.ensures.0)) l.invariant
