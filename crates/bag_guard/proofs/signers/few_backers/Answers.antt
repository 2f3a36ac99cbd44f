-- By `backers_few`.
use mathlib.Core.Path.{ap, ◌∙◌}
use Rattle.std.proofs.Common.{rules}
use Rattle.state.specs.Contents.{contents}
use Rattle.bag_guard.specs.Signers.{back_signer, gathered}
use Rattle.bag_guard.proofs.Gathered.{backers_few, found_peer}
use Rattle.bag_guard.proofs.signers.few_backers.Goals as goal

pub returns : goal.returns
unfolding back_signer
returns c =
    let a = c.args in
    backers_few _ _ c.requires _ _ _
    (c.gather-backers.ensures (back_signer (contents a.s.now) a.p a.board) (λ e k l q. search (rules, found_peer)) ∙ ap (gathered _) c.bag_len.ensures.0)
    c.reaches.ensures
