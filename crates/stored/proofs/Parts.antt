-- What was read into the first bytes of a buffer counts bytes of the whole.
use Prim.Native.Nat.{ℕ, ◌≤◌}
use native.Mathlib.Omega.{arith}
use mathlib.Core.List.{List, ◌++◌}
use mathlib.Core.Path.{sym}
use lib.ListN.{length, length-append}
use lib.Seq.{length-take-le}
use Rattle.io.specs.Counts.{IsPrefixLen}

pub counts_whole : (r : ℕ) (front rest : List ℕ) → IsPrefixLen r front → IsPrefixLen r (front ++ rest)
counts_whole r front rest c =
    let within : r ≤ length (front ++ rest) = omega (arith, c.0, length-append front rest) in
    (within, sym (length-take-le r (front ++ rest) within))
