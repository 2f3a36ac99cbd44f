-- By `any_in_range` and `heard_searched`.
use Rattle.std.proofs.Common.{rules}
use Rattle.base.proofs.Ranges.{any_in_range}
use Rattle.field_state.proofs.Hashes.{heard_searched}
use Rattle.field_state.proofs.heard.is_heard.Goals as goal

pub returns : goal.returns
returns c = heard_searched _ _ _ _ _ c.heard_len.ensures.0 (any_in_range _ _ c.any.ensures.ran (λ e b q k. search rules))
