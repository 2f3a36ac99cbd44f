-- By `in_bag`: an entry of the bag is x.
use Rattle.std.proofs.Common.{rules}
use mathlib.Core.Path.{ap, ◌∙◌}
use borrow.Author.Tests.{tests}
use Rattle.base.specs.Below.{any}
use Rattle.base.proofs.Ranges.{any_in_range}
use Rattle.rules.specs.Bag.{entry_at as nth, same_entry}
use Rattle.state.specs.Contents.{contents}
use Rattle.bag.proofs.Search.{in_bag}
use Rattle.bag.proofs.is_in.Goals as goal

pub returns : goal.returns
returns c =
    let s = c.args.s.now in
    any_in_range (λ e. same_entry c.args.x (nth (contents s).bag e)) _ c.any.ensures.ran (λ x b q k. search (rules, tests))
    ∙ ap (λ n. any n (λ e. same_entry c.args.x (nth (contents s).bag e))) c.bag_len.ensures.0
    ∙ in_bag c.args.x (contents s).bag
