-- What code that drops steps promises: of a step that was tried, and of a pass.
use Rattle.std.specs.Prelude.{ℕ, Bool, ◌&&◌, ◌||◌, ◌≡◌}
use Rattle.dropping.specs.Kept.{Kept}
use Rattle.dropping.specs.Passes.{spare, tried, pass, drops}

-- step k was tried: what is kept now, and whether this step was dropped or one had been before
pub record Tried (answer : Kept → ℕ) (before now : Kept) (k : ℕ) (was dropped : Bool) : Type 0 where
  pub keeps : now ≡ tried answer before k
  pub told : dropped ≡ ((before k && spare answer before k) || was)

-- a pass was made: what is kept now, and whether it dropped a step
pub record Passed (answer : Kept → ℕ) (last : ℕ) (before now : Kept) (dropped : Bool) : Type 0 where
  pub keeps : now ≡ pass answer last before
  pub told : dropped ≡ drops answer last before
