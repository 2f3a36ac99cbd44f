-- What was gathered is 0 exactly if no byte so far has a bit beside the mask's.
use native.Mathlib.Omega.{arith}
use mathlib.Core.Path.{sym, ◌∙◌}
use borrow.Author.Rules.{rules}
use Rattle.base.specs.Below.{every}
use Rattle.base.proofs.Below.{every-all}
use Rattle.valid.proofs.Only.{only_more, only_bytes}
use Rattle.std.proofs.Math.Facts.{Fits-lt-pow}
use Rattle.valid.proofs.rows.only.Goals as goal

pub loop-i-init : goal.loop-i-init
unfolding every
loop-i-init c = search rules

pub loop-i-preserved : goal.loop-i-preserved
loop-i-preserved c =
    let l = c.loop-i in
    only_more _ _ _ _ l.beside l.invariant (Fits-lt-pow (c.type_inv.s _)) (c.shared_slice_known-in-loop-i-1.given _).fits

pub returns : goal.returns
returns c = every-all _ _ _ _ (omega arith) c.loop-i.invariant ∙ sym (only_bytes _ _ _ _)
