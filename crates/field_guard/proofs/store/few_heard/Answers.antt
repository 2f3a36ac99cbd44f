-- By `heard_few`.
use mathlib.Core.Path.{ap, ◌∙◌}
use Rattle.std.proofs.Common.{rules}
use Rattle.bag_guard.specs.Signers.{gathered}
use Rattle.field_guard.specs.HashSigners.{hash_signer}
use Rattle.field_guard.proofs.HashSigners.{heard_few}
use Rattle.field_guard.proofs.store.few_heard.Goals as goal

pub returns : goal.returns
returns c =
    let a = c.args in
    heard_few _ _ c.requires _ _ _
    (c.gather-heard.ensures (hash_signer a.s.now a.p a.board) (λ e k l q. search rules) ∙ ap (gathered _) c.heard_len.ensures.0)
    c.reaches.ensures
