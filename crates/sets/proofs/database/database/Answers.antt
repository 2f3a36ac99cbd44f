-- The rows of the periods passed are filled in.
use mathlib.Core.List.{[]}
use mathlib.Core.Path.{refl}
use Rattle.state.specs.Layout.{periods}
use Rattle.sets.specs.Database.{database_of}
use Rattle.base.proofs.Tab.{filled_none, filled_more, filled_all}
use Rattle.sets.proofs.database.database.Goals as goal

pub loop-p-init : goal.loop-p-init
loop-p-init c = filled_none [] periods _ _ refl

pub loop-p-preserved : goal.loop-p-preserved
loop-p-preserved c = search filled_more

pub returns : goal.returns
unfolding database_of
returns c = search filled_all
