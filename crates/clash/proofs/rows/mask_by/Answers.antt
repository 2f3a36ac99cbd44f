-- The items are tested one after the other: the mask has the bits of the first j.
use mathlib.Core.Path.{sym, ◌∙◌}
use native.Mathlib.Omega.{arith}
use Rattle.clash.specs.Clash.{clash_in, clash_mask}
use Rattle.base.proofs.Masks.{bits_none, bits_in, bits_out, bits_fit, bits_end}
use Rattle.clash.proofs.rows.mask_by.Goals.{then-clashes_at, else-clashes_at}
use Rattle.clash.proofs.rows.mask_by.Goals as goal

pub loop-j-init : goal.loop-j-init
loop-j-init c = bits_none _

pub overflow_add-mask : goal.overflow_add-mask
overflow_add-mask c =
    let l = c.loop-j in
    let room = bits_fit _ l.j (omega arith) l.invariant in
    omega arith

pub loop-j-preserved : goal.loop-j-preserved
loop-j-preserved c =
    let l = c.loop-j in
    let row = clash_in c.args.table.now c.args.i in
    elim c.if-clashes_at.branch [
      | then-clashes_at w ↦
          let one_more = bits_in row l.j (sym c.clashes_at.ensures ∙ w.if-clashes_at.true) in
          omega (arith, w.mask-is)
      | else-clashes_at w ↦
          let no_more = bits_out row l.j (sym c.clashes_at.ensures ∙ w.if-clashes_at.false) in
          omega (arith, w.mask-is)
    ]

pub returns : goal.returns
unfolding clash_mask
returns c = let l = c.loop-j in
    bits_end (clash_in _ _) _ _ (omega arith) l.invariant
