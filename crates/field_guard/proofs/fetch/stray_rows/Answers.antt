-- By `any_in_range`.
use Rattle.std.proofs.Common.{rules}
use Rattle.base.proofs.Ranges.{any_in_range}
use Rattle.field_rules.specs.Rules.{stray_rows}
use Rattle.field_guard.specs.Fetching.{stray_at}
use Rattle.field_guard.proofs.fetch.stray_rows.Goals as goal

pub returns : goal.returns
unfolding stray_rows stray_at
returns c = any_in_range (stray_at c.args.h c.args.message.now) _ c.any.ensures.ran (λ x b q k. search rules)
