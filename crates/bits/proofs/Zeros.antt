-- A loop that gathers bytes and asks at its end whether all were 0.
use Prim.Native.Nat.{ℕ, ◌+◌}
use native.Mathlib.Omega.{arith}
use mathlib.Core.Bool.{Bool, ◌&&◌}
use mathlib.Core.List.{List}
use mathlib.Core.Path.{◌≡◌, refl, ◌∙◌}
use lib.Bits.{bit_or, and_le_l, and_le_r, or_add_and}
use lib.Dec.{eqb}
use borrow.Author.Tests.{eqb-true, eq-eqb}
use Rattle.base.specs.Below.{every}
use Rattle.base.specs.Bytes.{byte_at}
use Rattle.base.proofs.Truth.{iff, and_i, and_l, and_r}
use Rattle.base.proofs.Below.{every_step_lem}
use Rattle.bits.specs.Row.{zeros}

-- a sum of bits is 0 where both are
or-none : (a b : ℕ) → eqb (bit_or a b) 0 ≡ (eqb a 0 && eqb b 0)
or-none a b = iff _ _
    (λ e. let z = eqb-true (bit_or a b) 0 e in and_i _ _ (eq-eqb a 0 (omega (arith, or_add_and a b, and_le_r a b, and_le_l a b)))
    (eq-eqb b 0 (omega (arith, or_add_and a b, and_le_l a b))))
    (λ e. eq-eqb (bit_or a b) 0 (let p = eqb-true a 0 (and_l (eqb a 0) (eqb b 0) e) in let q = eqb-true b 0
    (and_r (eqb a 0) (eqb b 0) e) in omega (arith, or_add_and a b)))

-- one number more
pub gather_more : (f : ℕ → Bool) (i sum x : ℕ) → eqb sum 0 ≡ every i f → eqb x 0 ≡ f i → eqb (bit_or sum x) 0 ≡ every (i + 1) f
gather_more f i sum x p q = or-none sum x ∙ every_step_lem f i (eqb sum 0) (eqb x 0) p q

-- the bytes from o on
module _ (s : List ℕ) (o : ℕ) where
  -- byte i of them is 0
  unfoldable pub zero_byte : ℕ → Bool
  zero_byte i = eqb (byte_at s (o + i)) 0

  pub zeros_more : (i sum : ℕ) → eqb sum 0 ≡ every i zero_byte → eqb (bit_or sum (byte_at s (o + i))) 0 ≡ every (i + 1) zero_byte
  unfolding zero_byte
  zeros_more i sum e = gather_more zero_byte i sum (byte_at s (o + i)) e refl

  pub zeros-all : (n : ℕ) → zeros n s o ≡ every n zero_byte
  unfolding zeros zero_byte
  zeros-all n = refl
