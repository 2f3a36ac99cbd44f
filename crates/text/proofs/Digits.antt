-- The kit's decimal digits are those of `decimal`, and how many there are at most.
use Prim.Native.Nat.{ℕ, zero, suc, ◌+◌, ◌-◌, ◌/◌, ◌%◌, ◌^◌, ◌≤◌, ◌<◌}
use native.Mathlib.Nat.{le_of_suc-le-suc, not-suc-le-zero, pow-suc}
use native.Mathlib.Omega.{arith}
use mathlib.Core.Bool.{Bool, true, false, cond}
use mathlib.Core.List.{List, [], ◌∷◌, ◌++◌}
use mathlib.Core.Path.{◌≡◌, ap}
use lib.Dec.{ltb}
use lib.ListN.{length, length-append}
use borrow.Author.Tests.{lt-ltb, le-ltb}
use Rattle.io.specs.Digits.{last_digits, IsDigitCount}
use Rattle.text.specs.Decimal.{spelled, decimal, field}

power : (k : ℕ) → k < 10 ^ k
power zero = omega arith
power (suc k) = omega (arith, power k, pow-suc 10 k)

-- the power of ten that Fewest names
before : (k : ℕ) → 10 ^ (suc k - 1) ≡ 10 ^ k
before k = ap (λ (i : ℕ). 10 ^ i) {x = suc k - 1} {y = k} (omega arith)

spell : (k m n : ℕ) → k ≤ m → IsDigitCount 10 1 n k → last_digits 10 k n ≡ spelled m n
unfolding spelled
spell zero m n l f = absurd (not-suc-le-zero f.0)
spell (suc k) zero n l f = absurd (not-suc-le-zero l)
spell (suc zero) (suc m) n l f =
    rw (lt-ltb n 10 (omega (arith, f.1)), lt-ltb (n % 10) 10 (omega arith))
    (ap (λ (d : ℕ). (48 + d) ∷ []) {x = n % 10} {y = n} (omega (arith, f.1)))
spell (suc (suc k)) (suc m) n l f =
    let least : 10 ^ suc k ≤ n = omega (arith, f.2 (omega arith), before (suc k)) in
    let rest : IsDigitCount 10 1 (n / 10) (suc k) =
    (omega arith, omega (arith, f.1, pow-suc 10 (suc k)), λ _. omega (arith, least, pow-suc 10 k, before k)) in
    rw (
      le-ltb n 10 (omega (arith, least, pow-suc 10 k, power k)),
      lt-ltb (n % 10) 10 (omega arith),
      spell (suc k) m (n / 10)
          (le_of_suc-le-suc l) rest,
    )

enough : (k n : ℕ) → IsDigitCount 10 1 n k → k ≤ n + 1
enough zero n f = omega arith
enough (suc zero) n f = omega arith
enough (suc (suc k)) n f = omega (arith, f.2 (omega arith), before (suc k), power (suc k))

pub is_decimal : (k n : ℕ) → IsDigitCount 10 1 n k → last_digits 10 k n ≡ decimal n
unfolding decimal
is_decimal k n f = spell k (n + 1) n (enough k n f) f

pick_size : (b : Bool) (t u : List ℕ) (c : ℕ) → length t ≤ c → length u ≤ c → length (cond b t u) ≤ c
pick_size true t u c h g = h
pick_size false t u c h g = g

few : (m k n : ℕ) → n < 10 ^ suc k → length (spelled m n) ≤ suc k
unfolding spelled
few zero k n h = omega arith
few (suc m) zero n h = rw (lt-ltb n 10 (omega arith)) (omega arith)
few (suc m) (suc k) n h =
    pick_size (ltb n 10) ((48 + n) ∷ []) (spelled m (n / 10) ++ ((48 + n % 10) ∷ [])) (suc (suc k)) (omega arith)
    (rw length-append (omega (arith, few m k (n / 10) (omega (arith, h, pow-suc 10 (suc k))))))

-- a number below 10 ^ (k + 1) has at most k + 1 digits
pub decimal_most : (k n : ℕ) → n < 10 ^ suc k → length (decimal n) ≤ suc k
unfolding decimal
decimal_most k n h = few (n + 1) k n h

pub field_most : (k n : ℕ) → n < 10 ^ suc k → length (field n) ≤ suc (suc k)
unfolding field
field_most k n h = omega (arith, decimal_most k n h)
