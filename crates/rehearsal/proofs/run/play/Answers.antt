-- The table and its clashes are read, and the state is cleared: what a rehearsal asks.
use Rattle.rehearsal.proofs.Playing.{cleared, made}
use Rattle.rehearsal.proofs.run.play.Goals as goal

pub invariant_of-rehearsal : goal.invariant_of-rehearsal
invariant_of-rehearsal c =
    let given = c.requires in
    record { made = made given.0 given.1 c.head_of.ensures c.clash_rows-rows.ensures; starts = c.table_end.ensures }

pub tell-requires : goal.tell-requires
tell-requires c = search cleared
