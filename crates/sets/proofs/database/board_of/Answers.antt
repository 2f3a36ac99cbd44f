-- The board of the items passed is the number so far.
use borrow.Author.Rules.{rules}
use Rattle.sets.specs.Database.{peer_board}
use Rattle.sets.proofs.Boards.{board-none, board_more, board-lt}
use Rattle.sets.proofs.database.board_of.Goals as goal

pub loop-i-init : goal.loop-i-init
loop-i-init c = search board-none

pub with_item-b-requires : goal.with_item-b-requires
with_item-b-requires c = (search board-lt, search rules)

pub loop-i-preserved : goal.loop-i-preserved
loop-i-preserved c = board_more _ _ _ _ c.args.h.items _ _ _ _ c.row-sets.ensures (search rules) (search rules) c.loop-i.invariant c.reaches.ensures
    c.with_item-b.ensures

pub returns : goal.returns
unfolding peer_board
returns c = search rules
