-- By `enter_is`: the four numbers of the entry are written.
use Rattle.bag.proofs.Added.{enter_is}
use Rattle.bag.proofs.write_entry.Goals as goal

pub returns : goal.returns
returns c = enter_is _ _ _ _ _ c.from.ensures c.write.ensures
