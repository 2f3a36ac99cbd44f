-- The byte is full, past the first n bits, or has the last n % 8 of them.
use Prim.Native.Nat.{◌%◌}
use native.Mathlib.Omega.{arith}
use lib.Pow.{pow_pos}
use Rattle.base.proofs.Masks.{shifted}
use Rattle.valid.proofs.Masks.{first_full, first_past, first_last}
use Rattle.valid.proofs.mask.first_byte.Goals as goal

pub returns-then-b-n : goal.returns-then-b-n
returns-then-b-n c = first_full _ _ (omega arith)

pub returns-then-b-n-2 : goal.returns-then-b-n-2
returns-then-b-n-2 c = first_past _ _ (omega arith)

pub overflow_sub-result : goal.overflow_sub-result
overflow_sub-result c =
    let rest = c.args.n % 8 in
    rw (shifted 8 rest (omega arith)) (omega (arith, pow_pos rest))

pub returns : goal.returns
returns c =
    let rest = c.args.n % 8 in
    rw (shifted 8 rest (omega arith)) (first_last _ _ (omega arith))
