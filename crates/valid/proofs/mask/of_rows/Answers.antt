-- The bytes so far are those of the mask.
use Prim.Native.Nat.{ℕ}
use native.Mathlib.Omega.{arith}
use lib.ListN.{length-replicate}
use Rattle.base.proofs.Tab.{filled_none}
use Rattle.valid.proofs.Masks.{mask_more, mask-all}
use Rattle.valid.proofs.mask.of_rows.Goals as goal

pub loop-b-init : goal.loop-b-init
loop-b-init g c = filled_none 0 _ _ _ (length-replicate {A = ℕ} g.row.N 0)

pub loop-b-preserved : goal.loop-b-preserved
loop-b-preserved g c = mask_more _ _ _ _ _ c.loop-b.invariant c.byte_of.ensures (omega arith)

pub returns : goal.returns
returns g c = mask-all _ _ _ _ c.loop-b.invariant (omega arith)
