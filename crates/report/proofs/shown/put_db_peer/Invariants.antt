use Prim.Native.Nat.{◌+◌}
use Rattle.state.specs.Contents.{contents}
use Rattle.text.specs.Wrote.{Put, each}
use Rattle.report.specs.State.{db_period}
use Rattle.report.proofs.shown.put_db_peer.Given as goal

abbrev pub invariant-loop-p : goal.invariant-loop-p
invariant-loop-p l = Put l.initial.out (each (db_period l.h (contents l.s) (l.k + 1)) l.p) l.out
