-- Each text is tested where the pairs are whole.
use native.Mathlib.Omega.{arith}
use borrow.Author.Tests.{tests, lt-leb}
use Rattle.std.proofs.Common.{rules, ◌∙◌}
use Rattle.base.proofs.Ranges.{all_in_range}
use Rattle.pairs.proofs.Texts.{pairs_short, pairs_whole}
use Rattle.pairs.proofs.Pairs.fit.Goals as goal

pub returns-then-first_offset-self : goal.returns-then-first_offset-self
returns-then-first_offset-self c =
    pairs_whole _ _ _ (omega arith) (all_in_range _ _ c.all.ensures.ran (λ x b q k. search (rules, tests)))

pub returns-else-first_offset-self : goal.returns-else-first_offset-self
returns-else-first_offset-self c = lt-leb _ _ c.if-first_offset-self.false ∙ pairs_short _ _ _ (omega arith)
