-- By `any_in_range`.
use Rattle.std.proofs.Common.{rules}
use Rattle.base.proofs.Ranges.{any_in_range}
use Rattle.field_guard.proofs.shares.given_before.Goals as goal

pub returns : goal.returns
returns c = any_in_range _ _ c.any.ensures.ran (λ x b q k. search rules)
