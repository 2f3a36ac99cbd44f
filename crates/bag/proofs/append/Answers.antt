-- By `append_done`: the entry is written after the last, and counted.
use Rattle.bag.proofs.Added.{append_done}
use Rattle.bag.proofs.append.Goals as goal

pub returns : goal.returns
returns c = append_done _ _ _ _ _ _ c.requires.0 c.requires.1 c.bag_len-n.ensures.0 c.start_of.ensures c.write_entry.ensures
    c.store.ensures
