-- What holds before the first trial.
use Rattle.std.specs.Prelude.{ℕ, ◌<◌, List, ◌≡◌, length}
use Rattle.state.specs.Layout.{size}
use Rattle.rehearsal.specs.Input.{input_refusal}
use Rattle.dropping.specs.Kept.{every_step}
use Rattle.trials.specs.Flags.{kept, room}

-- an input that is not refused, before its first trial: no step is dropped yet, and each has its flag
pub record Uncut (input : List ℕ) (last : ℕ) (flags s : List ℕ) : Type 0 where
  pub good : input_refusal input ≡ 0
  pub long : length s ≡ size
  pub flagged : last < room flags
  pub all : kept flags ≡ every_step
