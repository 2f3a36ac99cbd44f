use mathlib.Core.Path.{◌≡◌}
use lib.ListN.{length}
use Rattle.state.specs.Layout.{size}
use Rattle.dropping.proofs.Passing.{Between, to_do}
use Rattle.trials.specs.Flags.{kept, room}
use Rattle.trials.specs.Answers.{answer_in}
use Rattle.trials.proofs.trial.Trial.passes.Given as goal

abbrev pub invariant-loop-again : goal.invariant-loop-again
invariant-loop-again l =
    (length l.s ≡ size) × (room l.flags ≡ room l.initial.flags) × Between (answer_in l.self.input.now) l.self.last (kept l.flags) l.again

abbrev pub decreases-loop-again : goal.decreases-loop-again
decreases-loop-again l = to_do l.self.last (kept l.flags) l.again
