-- By `any_in_range` and `is_sharer`.
use Rattle.std.proofs.Common.{rules}
use Rattle.base.proofs.Ranges.{any_in_range}
use Rattle.guard.proofs.Sharer.{is_sharer}
use Rattle.guard.proofs.given.given_before.Goals as goal

pub returns : goal.returns
returns c = any_in_range _ _ c.any.ensures.ran (λ x b q k. search (rules, is_sharer))
