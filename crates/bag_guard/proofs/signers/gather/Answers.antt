-- By `gather_none` and `gather_more`.
use mathlib.Core.Path.{sym, ap, ◌∙◌}
use Rattle.header.specs.Quorum.{with_peer}
use Rattle.bag_guard.specs.Signers.{or_zero}
use Rattle.bag_guard.proofs.Gathered.{gather_none, gather_more, gather_same}
use Rattle.bag_guard.proofs.signers.gather.Goals.{in-Some, in_default}
use Rattle.bag_guard.proofs.signers.gather.Goals as goal

pub loop-e-init : goal.loop-e-init
loop-e-init g c = λ f gives. c.of_bits-set.ensures ∙ gather_none f

pub loop-e-preserved : goal.loop-e-preserved
loop-e-preserved g c = λ f gives. elim c.match-signer.branch [
  | in-Some w ↦ gather_more f _ _ _ (c.loop-e.invariant f gives)
      (ap g.S.PeerSet.bits w.set-is ∙ w.with_peer-set.ensures
      ∙ ap (with_peer _) (sym (ap or_zero w.in-Some.is) ∙ gives _ _ c.loop-e-test.true c.signer.ensures))
  | in_default w ↦ ap g.S.PeerSet.bits w.set-is ∙ gather_same f _ _ (c.loop-e.invariant f gives)
      (sym (gives _ _ c.loop-e-test.true c.signer.ensures) ∙ ap or_zero w.in_default.is)
]
