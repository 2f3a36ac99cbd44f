use Prim.Native.Nat.{ℕ, ◌<◌}
use mathlib.Core.Path.{◌≡◌}
use Rattle.std.specs.Prelude.{Option}
use Rattle.bag_guard.specs.Signers.{or_zero, gathered}
use Rattle.bag_guard.proofs.signers.gather.Given as goal

abbrev pub invariant-loop-e : goal.invariant-loop-e
invariant-loop-e g l =
    (f : ℕ → ℕ) → ((e : ℕ) (k : Option ℕ) → e < l.n → goal.F-post g l.signer e k → or_zero k ≡ f e)
    → g.S.PeerSet.bits l.set ≡ gathered f l.e
