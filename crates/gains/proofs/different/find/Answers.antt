-- A walk along one chain, from its last step to its first.
use mathlib.Core.Path.{refl}
use Rattle.gains.specs.File.{file_call}
use Rattle.gains.proofs.Chains.{walk_starts, walk_found, walk_falls, walk_on, walk_ends}
use Rattle.gains.proofs.different.find.Goals as goal

pub loop-at-init : goal.loop-at-init
unfolding file_call
loop-at-init c = walk_starts _ _ _ _ _ _ c.requires.1 refl c.requires.2 c.requires.3 refl

pub returns-then-same_step : goal.returns-then-same_step
returns-then-same_step c = search walk_found

pub loop-at-smaller : goal.loop-at-smaller
loop-at-smaller c = search walk_falls

pub loop-at-preserved : goal.loop-at-preserved
loop-at-preserved c = search walk_on

pub returns : goal.returns
returns c = search walk_ends
