-- The sets of the items passed are filled in.
use mathlib.Core.Path.{refl}
use Rattle.state.specs.Layout.{items}
use Rattle.sets.specs.Database.{row_of}
use Rattle.base.proofs.Tab.{filled_none, filled_more, filled_all}
use Rattle.sets.proofs.database.row.Goals as goal

pub loop-i-init : goal.loop-i-init
loop-i-init c = filled_none _ items _ _ refl

pub loop-i-preserved : goal.loop-i-preserved
loop-i-preserved c = search filled_more

pub returns : goal.returns
unfolding row_of
returns c = search filled_all
