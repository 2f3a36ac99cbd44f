-- Each return is settled by the tests before it.
use Rattle.field_guard.proofs.HashSigners.{other_period, other-board, same_hash}
use Rattle.field_guard.proofs.store.signer_at.Goals.{else-s-o-via-then-s-o+else-load-board, else-s-o-via-else-s-o}
use Rattle.field_guard.proofs.store.signer_at.Goals as goal

pub returns-then-load-board : goal.returns-then-load-board
returns-then-load-board c = same_hash _ _ _ _ c.if-s-o.true c.load.ensures c.if-load-board.true

pub returns-else-s-o : goal.returns-else-s-o
returns-else-s-o c = elim c.else-s-o.branch [
  | else-s-o-via-then-s-o+else-load-board w ↦ other-board _ _ _ _ w.if-s-o.true w.load.ensures w.if-load-board.false
  | else-s-o-via-else-s-o w ↦ other_period _ _ _ _ w.if-s-o.false
]
