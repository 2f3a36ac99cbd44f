-- The entries passed give the period nothing: what is left gives it what the whole bag does.
use Rattle.printing.proofs.Finding.{found_at, one_passed, all_passed}
use Rattle.printing.proofs.board.board_of.Goals as goal

pub returns-in-Some : goal.returns-in-Some
returns-in-Some c = search found_at

pub loop-e-preserved : goal.loop-e-preserved
loop-e-preserved c = search one_passed

pub returns : goal.returns
returns c = search all_passed
