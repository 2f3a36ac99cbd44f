-- Each weight is tested.
use Rattle.std.proofs.Common.{ℕ, ◌+◌, ap, ◌∙◌, rules}
use borrow.Author.Tests.{tests}
use Rattle.base.specs.Below.{every}
use Rattle.base.proofs.Ranges.{all_in_range}
use Rattle.header.specs.Header.{weight_ok, weights_ok}
use Rattle.header.proofs.weights.weights_ok.Goals as goal

pub returns : goal.returns
unfolding weights_ok
returns c =
    let test = λ (i : ℕ). weight_ok c.args.table.now (i + 1) in
    all_in_range test _ c.all.ensures.ran (λ x b q k. search (rules, tests))
    ∙ ap (λ (n : ℕ). every n test) c.weight_count-count.ensures.0
