-- From the highest byte down: v is the number in the bytes passed.
use Prim.Native.Nat.{◌+◌, ◌-◌}
use mathlib.Core.Path.{refl}
use native.Mathlib.Omega.{arith}
use Rattle.bits.proofs.Loops.{load_none, load_more, load_room, load_end}
use Rattle.std.proofs.Math.Facts.{Fits-lt-pow}
use Rattle.bits.proofs.load.Goals as goal

pub loop-i-init : goal.loop-i-init
loop-i-init c = load_none _ _ _

pub overflow_mul-v : goal.overflow_mul-v
overflow_mul-v c =
    let l = c.loop-i in
    omega (arith, load_room _ _ _ _ _ (λ k. Fits-lt-pow (c.type_inv.s k)) c.requires.0 c.loop-i-test.true l.invariant)

pub overflow_add-v-in-loop-i : goal.overflow_add-v-in-loop-i
overflow_add-v-in-loop-i c =
    let l = c.loop-i in
    let byte = Fits-lt-pow (c.type_inv.s (c.args.o + (l.i - 1))) in
    omega (arith, byte, load_room _ _ _ _ _ (λ k. Fits-lt-pow (c.type_inv.s k)) c.requires.0 c.loop-i-test.true l.invariant)

pub loop-i-preserved : goal.loop-i-preserved
loop-i-preserved c = let l = c.loop-i in load_more _ _ _ _ _ _ c.loop-i-test.true l.auto.i l.invariant refl

pub returns : goal.returns
returns c = let l = c.loop-i in load_end _ _ _ _ _ (omega arith) l.invariant
