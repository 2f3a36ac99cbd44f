use mathlib.Core.Path.{◌≡◌}
use lib.ListN.{length}
use Rattle.base.specs.Tab.{FilledTo}
use Rattle.gains.specs.Chains.{new_digit, Chains}
use Rattle.gains.proofs.different.join_steps.Given as goal

abbrev pub invariant-loop-k : goal.invariant-loop-k
invariant-loop-k l =
    (length l.links ≡ 8192) × Chains l.s l.k l.heads l.links × FilledTo 0 8192 (new_digit l.s) l.k l.fresh
