-- The four stores are those of `written`; the sizes of the types give the bounds.
use borrow.Author.Rules.{rules}
use Rattle.bag.specs.Bag.{written}
use Rattle.bag.proofs.write.Goals as goal

pub returns : goal.returns
unfolding written
returns c = (rw (← c.byte.ensures) c.store.ensures, search rules)
