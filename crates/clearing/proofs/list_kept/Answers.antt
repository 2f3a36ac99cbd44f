-- The entries passed gave the numbers so far.
use native.Mathlib.Omega.{arith}
use mathlib.Core.Path.{ap, ◌∙◌}
use Rattle.base.specs.Bits.{digit}
use Rattle.clearing.proofs.Listing.{as_digit, listed_none, listed_more, listed_all}
use Rattle.clearing.proofs.list_kept.Goals as goal

pub loop-e-init : goal.loop-e-init
loop-e-init c = search listed_none

pub loop-e-preserved : goal.loop-e-preserved
loop-e-preserved c =
    let few = c.bag_len-e-end.ensures in
    listed_more _ _ _ _ _ c.loop-e.invariant (omega (arith, few)) (omega (arith, few)) (as_digit _ ∙ ap digit c.stays.ensures)

pub returns : goal.returns
returns c = search listed_all
