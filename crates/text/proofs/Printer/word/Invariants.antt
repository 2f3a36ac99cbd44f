use lib.ListN.{take}
use Rattle.text.specs.Wrote.{Wrote}
use Rattle.text.proofs.Printer.word.Given as goal

abbrev pub invariant-loop-b : goal.invariant-loop-b
invariant-loop-b l = Wrote l.initial.out l.initial.at (take l.b-index l.word) l.out l.at
