use Rattle.valid.proofs.HashSet.{HashesTo}
use Rattle.valid.proofs.hashes.hashes.Given as goal

abbrev pub invariant-loop-e : goal.invariant-loop-e
invariant-loop-e l = HashesTo l.s l.e l.m
