-- The entries passed are moved.
use Rattle.clearing.proofs.Overwriting.{moved_none, moved_more, move_to, move_from, still_long}
use Rattle.clearing.proofs.move_kept.Goals as goal

pub loop-w-init : goal.loop-w-init
loop-w-init c = search moved_none

pub move_entry-requires : goal.move_entry-requires
move_entry-requires c =
    let M = c.loop-w.invariant in
    (M.holds.canon, search move_to, search move_from)

pub loop-w-preserved : goal.loop-w-preserved
loop-w-preserved c = search moved_more

pub shape_of-s : goal.shape_of-s
shape_of-s c = search still_long
