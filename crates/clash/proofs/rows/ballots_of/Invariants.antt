use Rattle.clash.proofs.Made.{BallotsTo}
use Rattle.clash.proofs.rows.ballots_of.Given as goal

abbrev pub invariant-loop-k : goal.invariant-loop-k
invariant-loop-k l = BallotsTo l.table l.k l.ballots
