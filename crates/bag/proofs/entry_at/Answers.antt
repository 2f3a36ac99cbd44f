-- The bytes of an entry say it; bytes that are 0 say `no_entry`, as the bag does past its end.
use Rattle.bag.proofs.Search.{read_entry, entry_past}
use Rattle.bag.proofs.entry_at.Goals as goal

pub returns-then-e-ge-ENTRIES : goal.returns-then-e-ge-ENTRIES
returns-then-e-ge-ENTRIES c = search entry_past

pub returns : goal.returns
returns c = read_entry _ _ _ _ _ c.requires c.start_of-o.ensures c.load-board.ensures c.entry_of.ensures
