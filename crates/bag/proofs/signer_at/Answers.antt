-- By `signer_is`: in a canonical state an entry's bytes are its own.
use native.Mathlib.Omega.{arith}
use Rattle.bag.proofs.Search.{entry_few, entry_inside, signer_is}
use Rattle.bag.proofs.signer_at.Goals as goal

pub start_of-requires : goal.start_of-requires
start_of-requires c = search entry_few

pub written_signer-requires : goal.written_signer-requires
written_signer-requires c = omega (arith, c.start_of.ensures, entry_inside _ _ c.requires.0 c.requires.1)

pub returns : goal.returns
returns c = signer_is _ _ _ _ _ _ _ c.requires.0 c.requires.1 c.start_of.ensures c.written_signer.ensures
