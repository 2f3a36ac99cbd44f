-- The rule of the least threshold is the least number above two thirds of the weight of all peers, whatever it is.
use Prim.Native.Nat.{ℕ, ◌*◌, ◌<◌, ◌≤◌}
use native.Mathlib.Omega.{arith}
use Rattle.header.specs.Header.{least_threshold}

-- it is above two thirds of the weight
pub least_above : (w : ℕ) → 2 * w < 3 * least_threshold w
unfolding least_threshold
least_above w = omega arith

-- and at most every number that is
pub least_exact : (w t : ℕ) → 2 * w < 3 * t → least_threshold w ≤ t
unfolding least_threshold
least_exact w t above = omega (arith, above)

-- so a threshold in range is above two thirds
pub threshold_rule : (w t : ℕ) → least_threshold w ≤ t → 2 * w < 3 * t
threshold_rule w t least = omega (arith, least_above w)
