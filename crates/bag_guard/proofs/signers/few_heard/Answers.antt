-- By `heard_few`.
use mathlib.Core.Path.{ap, ◌∙◌}
use Rattle.std.proofs.Common.{rules}
use Rattle.state.specs.Contents.{contents}
use Rattle.bag_guard.specs.Signers.{heard_signer, gathered}
use Rattle.bag_guard.proofs.Gathered.{heard_few}
use Rattle.bag_guard.proofs.signers.few_heard.Goals as goal

pub returns : goal.returns
returns c =
    let a = c.args in
    heard_few _ _ c.requires _ _ _ _
    (c.gather-heard.ensures (heard_signer (contents a.s.now) a.j a.p a.board) (λ e k l q. search rules) ∙ ap (gathered _) c.bag_len.ensures.0)
    c.reaches.ensures
