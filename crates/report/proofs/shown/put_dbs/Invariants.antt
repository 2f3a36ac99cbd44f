use Rattle.state.specs.Contents.{contents}
use Rattle.text.specs.Wrote.{Put, each}
use Rattle.report.specs.State.{db_peer}
use Rattle.report.proofs.shown.put_dbs.Given as goal

abbrev pub invariant-loop-k : goal.invariant-loop-k
invariant-loop-k l = Put l.initial.out (each (db_peer l.h (contents l.s)) l.k) l.out
