-- By `any_in_range`.
use Rattle.std.proofs.Common.{rules}
use borrow.Author.Tests.{tests}
use Rattle.base.proofs.Ranges.{any_in_range}
use Rattle.base.proofs.Tests.{read-tests}
use Rattle.rules.specs.Backed.{unbacked}
use Rattle.guard.proofs.backed.unbacked.Goals as goal

pub returns : goal.returns
unfolding unbacked
returns c = any_in_range _ _ c.any.ensures.ran (λ x b q k. search (rules, tests, read-tests))
