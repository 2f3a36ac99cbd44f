-- The ballots of the first k items are made, by `one_ballot`; the rest are zeros. The pairs start where the header ends.
use native.Mathlib.Omega.{arith}
use Rattle.clash.proofs.Made.{no_ballots, one_ballot, ballot_here, ballots_made}
use Rattle.clash.proofs.rows.ballots_of.Goals as goal

pub loop-k-init : goal.loop-k-init
loop-k-init c = no_ballots _

pub loop-k-preserved : goal.loop-k-preserved
loop-k-preserved c =
    one_ballot _ _ _ c.loop-k.invariant (omega arith)
    (ballot_here _ _ (omega arith) (simp c.pairs_of-pairs.ensures at c.ballot_in.ensures))

pub returns : goal.returns
returns c = search ballots_made
