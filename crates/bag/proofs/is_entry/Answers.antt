-- By `entry_is`: in a canonical state an entry's bytes are its own.
use native.Mathlib.Omega.{arith}
use Rattle.bag.proofs.Search.{entry_is, entry_few, entry_inside}
use Rattle.bag.proofs.is_entry.Goals as goal

pub start_of-requires : goal.start_of-requires
start_of-requires c = search entry_few

pub is_written-requires : goal.is_written-requires
is_written-requires c = omega (arith, c.start_of.ensures, entry_inside _ _ c.requires.0 c.requires.1)

pub returns : goal.returns
returns c = entry_is _ _ _ _ _ _ c.requires.0 c.requires.1 c.start_of.ensures c.from.ensures c.is_written.ensures
