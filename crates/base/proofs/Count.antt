-- How many bits of a number are 1: the members of a set of peers, counted by the machine.
use Prim.Native.Nat.{ℕ, zero, suc, ◌+◌, ◌*◌, ◌^◌, ◌<◌}
use native.Mathlib.Numerals.{add-one}
use native.Mathlib.Omega.{arith}
use mathlib.Core.Bool.{Bool, true, false, cond}
use mathlib.Core.Path.{◌≡◌, refl, sym, ap, ◌∙◌}
use lib.Count as machine
use Rattle.base.specs.Bits.{digit, pack, member}
use Rattle.base.specs.Weight.{weight, ones}
use Rattle.base.proofs.Bits.{pack_more, pack-lt}
use Rattle.base.proofs.Members.{pack_members}

no_ones : (f : ℕ → Bool) → machine.ones (pack 0 f) ≡ 0
unfolding pack machine.ones machine.ones_in
no_ones f = refl

one-digit : (b : Bool) → machine.ones (digit b) ≡ cond b 1 0
unfolding machine.ones machine.ones_in
one-digit true = refl
one-digit false = refl

-- in the number whose bit k - 1 is peer k, as many bits are 1 as the set has members
pub ones-pack : (n : ℕ) (S : ℕ → Bool) → machine.ones (pack n (λ k. S (k + 1))) ≡ weight ones n S
unfolding weight
ones-pack zero S = no_ones (λ k. S (k + 1))
ones-pack (suc n) S = top ∙ machine.ones_cat n (digit (f n)) (pack n f) (pack-lt n f) ∙ omega (arith, member, ones-pack n S)
  where
    f : ℕ → Bool
    f k = S (k + 1)

    top : machine.ones (pack (suc n) f) ≡ machine.ones (digit (f n) * 2 ^ n + pack n f)
    top = ap machine.ones (rw (← add-one n) (omega (arith, pack_more n f)))

    member : machine.ones (digit (f n)) ≡ cond (S (suc n)) 1 0
    member = rw (← add-one n) (one-digit (f n))

-- the members of a set that is below 2 ^ n
pub ones_members : (n set : ℕ) → set < 2 ^ n → machine.ones set ≡ weight ones n (member set)
ones_members n set l = ap machine.ones (sym (pack_members n set l)) ∙ ones-pack n (member set)
