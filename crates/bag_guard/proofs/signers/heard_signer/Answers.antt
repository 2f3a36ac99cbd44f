-- By `heard_some` and `heard_none`.
use mathlib.Core.Path.{refl}
use Rattle.bag.proofs.Search.{some_signer, no_signer}
use Rattle.bag_guard.proofs.Gathered.{heard_none, heard_some}
use Rattle.bag_guard.proofs.signers.heard_signer.Goals as goal

pub returns-in-Some : goal.returns-in-Some
returns-in-Some c = heard_some _ _ _ _ _ _ (some_signer _ _ _ _ c.signer_at.ensures c.in-Some.is) c.is_heard_by.ensures c.then_some.ensures

pub returns-in-None : goal.returns-in-None
returns-in-None c = heard_none _ _ _ _ _ _ (no_signer _ _ _ _ c.signer_at.ensures c.in-None.is) refl
