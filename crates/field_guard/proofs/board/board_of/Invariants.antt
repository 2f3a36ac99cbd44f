use mathlib.Core.Path.{◌≡◌}
use Rattle.base.specs.Bits.{pack}
use Rattle.field_guard.proofs.Boards.{on_board}
use Rattle.field_guard.proofs.board.board_of.Given as goal

abbrev pub invariant-loop-i : goal.invariant-loop-i
invariant-loop-i l = l.b ≡ pack l.i (on_board l.h l.s l.p)
