-- By `any_in_range`.
use Rattle.std.proofs.Common.{rules}
use borrow.Author.Tests.{tests}
use Rattle.base.proofs.Ranges.{any_in_range}
use Rattle.field_guard.specs.Common.{holds_of}
use Rattle.field_guard.proofs.held.ever_holds.Goals as goal

pub returns : goal.returns
unfolding holds_of
returns c = any_in_range _ _ c.any.ensures.ran (λ x b q k. search (rules, tests))
