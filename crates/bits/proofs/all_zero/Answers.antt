-- The bytes gathered so far have no bit exactly if each of them is 0.
use native.Mathlib.Omega.{arith}
use mathlib.Core.Path.{refl, sym, ◌∙◌}
use Rattle.base.specs.Below.{every}
use Rattle.base.proofs.Below.{every-all}
use Rattle.bits.proofs.Zeros.{zeros_more, zeros-all}
use Rattle.bits.proofs.all_zero.Goals as goal

pub loop-i-init : goal.loop-i-init
unfolding every
loop-i-init c = refl

pub loop-i-preserved : goal.loop-i-preserved
loop-i-preserved c = zeros_more _ _ _ c.loop-i.sum c.loop-i.invariant

pub returns : goal.returns
returns c = every-all _ _ _ _ (omega arith) c.loop-i.invariant ∙ sym (zeros-all _ _ _)
