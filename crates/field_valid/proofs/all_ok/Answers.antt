-- Each passes the test.
use Rattle.std.proofs.Common.{rules}
use borrow.Author.Tests.{tests}
use Rattle.base.proofs.Ranges.{all_in_range}
use Rattle.field_valid.proofs.all_ok.Goals as goal

pub returns : goal.returns
returns c = all_in_range _ _ c.all.ensures.ran (λ x b q k. search (rules, tests))
