use mathlib.Core.Path.{◌≡◌}
use lib.ListN.{length}
use Rattle.gains.specs.Chains.{Fresh}
use Rattle.gains.proofs.different.strike_steps.Given as goal

abbrev pub invariant-loop-j : goal.invariant-loop-j
invariant-loop-j l = (length l.fresh ≡ length l.initial.fresh) × Fresh l.s l.j l.block (length l.links) l.fresh
