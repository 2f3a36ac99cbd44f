-- The byte of the bits passed is the number so far.
use borrow.Author.Rules.{rules}
use Rattle.clearing.specs.Moves.{heard_byte}
use Rattle.clearing.proofs.Sounds.{no_byte, bits_none, bits_lt, bits_more}
use Rattle.clearing.proofs.heard_byte.Goals as goal

pub returns-then-n-b : goal.returns-then-n-b
returns-then-n-b c = search no_byte

pub loop-k-init : goal.loop-k-init
loop-k-init c = search bits_none

pub with_bit-v-requires : goal.with_bit-v-requires
with_bit-v-requires c = (search bits_lt, search rules)

pub loop-k-preserved : goal.loop-k-preserved
loop-k-preserved c = bits_more _ _ _ _ _ _ _ c.loop-k.invariant c.heard_bit.ensures c.with_bit-v.ensures

pub returns : goal.returns
unfolding heard_byte
returns c = search rules
