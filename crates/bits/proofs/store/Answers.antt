-- From the lowest byte up: what is left of v is still to be stored.
use mathlib.Core.Path.{refl}
use native.Mathlib.Nat.{add-zero, sub-zero}
use native.Mathlib.Omega.{arith}
use lib.ListN.{length-set}
use Rattle.bits.proofs.Loops.{store_more, store-end}
use Rattle.bits.proofs.store.Goals as goal

pub loop-i-init : goal.loop-i-init
loop-i-init c = (refl, rw (add-zero, sub-zero))

pub loop-i-preserved : goal.loop-i-preserved
loop-i-preserved c =
    let l = c.loop-i in
    (simp length-set l.invariant.0, store_more _ _ _ _ _ _ (omega arith) l.invariant.1)

pub returns : goal.returns
returns c = let l = c.loop-i in store-end _ _ _ _ _ _ (omega arith) l.invariant.1
