use mathlib.Core.Path.{◌≡◌}
use lib.ListN.{length}
use Rattle.state.specs.Layout.{size}
use Rattle.dropping.proofs.Passing.{InPass}
use Rattle.trials.specs.Flags.{kept, room}
use Rattle.trials.specs.Answers.{answer_in}
use Rattle.trials.proofs.trial.Trial.pass.Given as goal

abbrev pub invariant-loop-k : goal.invariant-loop-k
invariant-loop-k l =
    (length l.s ≡ size) × (room l.flags ≡ room l.initial.flags) × InPass (answer_in l.self.input.now) l.self.last (kept l.initial.flags) (kept l.flags) l.k l.dropped
