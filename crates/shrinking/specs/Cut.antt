-- What is answered once an input was judged and cut down, and what the flags are then.
use Rattle.std.specs.Prelude.{ℕ, List, ◌≡◌}
use Rattle.trials.specs.Answers.{steps_left}
use Rattle.trials.specs.Flags.{kept}
use Rattle.shrinking.specs.Shrunk.{shrink_refusal}

-- the answer is the refusal, and where there is none the flags keep the steps that are left
pub record Cut (input flags : List ℕ) (r : ℕ) : Type 0 where
  pub answer : r ≡ shrink_refusal input
  pub left : r ≡ 0 → kept flags ≡ steps_left input
