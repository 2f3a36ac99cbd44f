-- Byte after byte: the value is the number in the bytes passed, and is below 256 to their number.
use native.Mathlib.Omega.{arith}
use Rattle.base.proofs.Bytes.{number_none, number_more, number_lt, number_times, number_plus, number_end}
use borrow.Author.Rules.{rules}
use Rattle.base.proofs.number_at.Goals as goal

pub loop-i-init : goal.loop-i-init
loop-i-init c = (number_none _ _, search rules)

pub overflow_mul-value : goal.overflow_mul-value
overflow_mul-value c = search number_times

pub overflow_add-value : goal.overflow_add-value
overflow_add-value c = search number_plus

pub loop-i-preserved : goal.loop-i-preserved
loop-i-preserved c = (search number_more, search number_lt)

pub returns : goal.returns
returns c = let l = c.loop-i in number_end _ _ l.i _ l.value (omega arith) l.invariant.0 l.invariant.1
