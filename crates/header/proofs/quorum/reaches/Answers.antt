-- The weight is compared as the definition does; where nobody weighs more than 1 it is the number of members.
use mathlib.Core.Path.{ap, ◌∙◌}
use Rattle.header.specs.Quorum.{reaches}
use Rattle.header.proofs.Reach.{reached, reached_counted}
use Rattle.header.proofs.quorum.reaches.Goals as goal

pub returns-then-h-eq0 : goal.returns-then-h-eq0
returns-then-h-eq0 g c = let h = c.args.h in reached_counted h _ c.count.ensures c.if-h-eq0.true ∙ ap (reaches h) c.bits-set.ensures

pub returns : goal.returns
returns g c = let h = c.args.h in reached h _ c.weigh.ensures ∙ ap (reaches h) c.bits-set.ensures
