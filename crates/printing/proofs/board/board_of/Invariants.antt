use mathlib.Core.Path.{◌≡◌}
use lib.ListN.{drop}
use Rattle.rules.specs.Bag.{boards_in}
use Rattle.state.specs.Contents.{bag_on}
use Rattle.printing.specs.Board.{boards_on, published}
use Rattle.printing.proofs.board.board_of.Given as goal

abbrev pub invariant-loop-e : goal.invariant-loop-e
invariant-loop-e l = published (boards_in (drop l.e (bag_on l.s))) l.p ≡ published (boards_on l.s) l.p
