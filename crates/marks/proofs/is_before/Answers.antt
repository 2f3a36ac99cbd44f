-- Each thing before e is compared with it.
use Rattle.std.proofs.Common.{rules}
use borrow.Author.Tests.{tests}
use Rattle.base.proofs.Ranges.{any_in_range}
use Rattle.marks.proofs.is_before.Goals as goal

pub returns : goal.returns
returns g c = any_in_range _ _ c.any.ensures.ran (λ x b q k. search (rules, tests))
