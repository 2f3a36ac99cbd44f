-- A test that is computed for all numbers of peers at once holds for each of them.
use Prim.Native.Nat.{ℕ, ◌+◌, ◌-◌, ◌≤◌}
use native.Mathlib.Omega.{arith}
use mathlib.Core.Bool.{Bool, true}
use mathlib.Core.Path.{◌≡◌, subst}
use Rattle.base.specs.Below.{every}
use Rattle.base.proofs.Below.{every-at}

pub for_each : (most : ℕ) (test : ℕ → Bool) → every most (λ k. test (k + 1)) ≡ true
    → (n : ℕ) → 1 ≤ n → n ≤ most → test n ≡ true
for_each most test all n l m =
    let found = every-at (λ k. test (k + 1)) most all (n - 1) (omega arith) in
    subst (λ (k : ℕ). test k ≡ true) {x = n - 1 + 1} {y = n} (omega arith) found
