-- Passes: going from the last step but one to the first, each step is dropped without which the last answer stays the
-- same number; and again until a pass drops none.
use Rattle.std.specs.Prelude.{ℕ, zero, suc, Bool, cond, ◌&&◌, eqb}
use Rattle.dropping.specs.Kept.{Kept, every_step, without, lost}

-- over the last answer that each choice of steps leads to
module _ (answer : Kept → ℕ) where
  -- without step k the last answer is the same number as that of every step
  unfoldable pub spare : Kept → ℕ → Bool
  spare keep k = eqb (answer (without keep k)) (answer every_step)

  -- step k tried: dropped if it is there and can be spared
  unfoldable pub tried : Kept → ℕ → Kept
  tried keep k = cond (keep k && spare keep k) (without keep k) keep

  -- the steps below k tried, from the last of them to the first
  unfoldable pub tried_below : Kept → ℕ → Kept
  tried_below keep zero = keep
  tried_below keep (suc k) = tried_below (tried keep k) k

  -- over the number of the last step
  module _ (last : ℕ) where
    -- a pass: from the last step but one to the first
    abbrev pub pass : Kept → Kept
    pass keep = tried_below keep last

    -- a pass drops a step
    abbrev pub drops : Kept → Bool
    drops keep = lost last keep (pass keep)

    -- passes until one drops none, so many at most
    unfoldable pub passes : ℕ → Kept → Kept
    passes zero keep = keep
    passes (suc most) keep = cond (drops keep) (passes most (pass keep)) keep

    -- the steps that are left: as many passes as there are steps before the last are always enough (`Settled`)
    unfoldable pub left : Kept
    left = passes last every_step
