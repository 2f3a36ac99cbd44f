use native.Mathlib.Omega.{arith}
use Rattle.field_guard.proofs.Judged.{asked}
use Rattle.field_guard.proofs.Boards.{board_more, board-end}
use Rattle.sets.proofs.Boards.{board-none, board-lt}
use borrow.Author.Rules.{rules}
use Rattle.field_guard.proofs.board.board_of.Goals as goal

pub loop-i-init : goal.loop-i-init
loop-i-init c = search board-none

pub with_item-b-requires : goal.with_item-b-requires
with_item-b-requires c = (search board-lt, search (asked, arith))

pub loop-i-preserved : goal.loop-i-preserved
loop-i-preserved c = board_more _ _ (search rules) _ _ _ _ _ c.loop-i.invariant c.signers_of.ensures
    c.reaches.ensures c.with_item-b.ensures

pub returns : goal.returns
returns c = board-end c.args.h c.args.s.now c.args.p _ _ (omega arith) c.loop-i.invariant
