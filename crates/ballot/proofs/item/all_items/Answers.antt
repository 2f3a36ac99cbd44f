-- Each text is tested.
use Rattle.std.proofs.Common.{rules}
use borrow.Author.Tests.{tests}
use Rattle.base.proofs.Ranges.{all_in_range}
use Rattle.ballot.specs.Item.{all_items}
use Rattle.ballot.proofs.item.all_items.Goals as goal

pub returns : goal.returns
unfolding all_items
returns c = all_in_range _ _ c.all.ensures.ran (λ x b q k. search (rules, tests))
