-- The number read, joined and stored is the number with the bits of v set.
use Rattle.bits.proofs.Joined.{join_is}
use borrow.Author.Rules.{rules}
use Rattle.bits.proofs.join.Goals as goal

pub returns : goal.returns
returns c = (search join_is, search rules)
