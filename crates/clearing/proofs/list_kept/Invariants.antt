use Rattle.state.specs.Contents.{bag_on}
use Rattle.clearing.proofs.Listing.{Listed}
use Rattle.clearing.proofs.list_kept.Given as goal

abbrev pub invariant-loop-e : goal.invariant-loop-e
invariant-loop-e l = Listed l.p (bag_on l.s) l.old l.w l.e
