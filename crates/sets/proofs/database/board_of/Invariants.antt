use mathlib.Core.Path.{◌≡◌}
use Rattle.base.specs.Bits.{pack}
use Rattle.state.specs.Contents.{contents}
use Rattle.sets.specs.Database.{on_board}
use Rattle.sets.proofs.database.board_of.Given as goal

abbrev pub invariant-loop-i : goal.invariant-loop-i
invariant-loop-i l = (l.b ≡ pack l.i (on_board l.h (contents l.s) l.j l.p))
