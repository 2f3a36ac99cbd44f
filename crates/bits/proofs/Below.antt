-- Whether a number has only the low m bits: nothing is left when it is shifted by m.
use Prim.Native.Nat.{ℕ, ◌/◌, ◌^◌}
use native.Mathlib.Nat.{mod-lt, div-add-mod, div-eq_of_lt}
use native.Mathlib.Omega.{arith}
use mathlib.Core.Path.{◌≡◌}
use lib.Dec.{eqb, ltb}
use lib.Pow.{pow_pos}
use borrow.Author.Tests.{eqb-true, eq-eqb, lt-ltb, ltb-true}
use Rattle.base.proofs.Truth.{iff}

pub none_above_lem : (m x : ℕ) → eqb (x / 2 ^ m) 0 ≡ ltb x (2 ^ m)
none_above_lem m x = iff _ _
    (λ e. let z = eqb-true (x / 2 ^ m) 0 e in lt-ltb x (2 ^ m) (rw (← div-add-mod x (2 ^ m), z) (omega (arith, mod-lt x (pow_pos m)))))
    (λ e. eq-eqb (x / 2 ^ m) 0 (div-eq_of_lt (ltb-true x (2 ^ m) e)))
