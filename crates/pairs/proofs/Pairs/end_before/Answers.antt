-- Before text 0 stand the pairs, and before text k + 1 stands text k.
use mathlib.Core.Path.{◌∙◌}
use native.Mathlib.Omega.{arith}
use Rattle.pairs.proofs.Texts.{end-first, end_later}
use Rattle.pairs.proofs.Pairs.end_before.Goals as goal

pub returns-then-k-eq0 : goal.returns-then-k-eq0
returns-then-k-eq0 c = c.first_offset.ensures ∙ end-first _ _ _ _ c.if-k-eq0.true

pub returns : goal.returns
returns c =
    let a = c.args in
    omega (arith, end_later a.self.bytes.now a.self.at a.self.count a.k c.if-k-eq0.false)
