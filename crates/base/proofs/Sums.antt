-- Laws of sums: sums that agree, a loop that adds one number after the other, and the bits of a number counted by the machine.
use Prim.Native.Nat.{ℕ, zero, suc, ◌+◌, ◌-◌, ◌*◌, ◌≤◌, ◌<◌}
use native.Mathlib.Nat.{le_antisymm}
use native.Mathlib.Numerals.{add-one}
use native.Mathlib.Omega.{arith}
use native.Mathlib.Decide.{dec_lt}
use mathlib.Core.Bool.{Bool, true, false, cond}
use mathlib.Core.Path.{◌≡◌, refl, ap, ap₂, subst, ◌∙◌}
use lib.Count as machine
use Rattle.base.specs.Bits.{digit, pack}
use Rattle.base.specs.Weight.{weight, ones}
use Rattle.base.proofs.Bits.{digit_lt, pack_ext}
use Rattle.base.proofs.Count.{ones-pack}
use Rattle.base.specs.Sums.{sum, how_many}

pub sum_ext : (n : ℕ) (f g : ℕ → ℕ) → ((k : ℕ) → k < n → f k ≡ g k) → sum n f ≡ sum n g
unfolding sum
sum_ext zero f g e = refl
sum_ext (suc n) f g e = ap₂ ◌+◌ (sum_ext n f g (λ k l. e k (omega arith))) (e n (omega arith))

pub sum-zero : (n : ℕ) (f : ℕ → ℕ) → ((k : ℕ) → k < n → f k ≡ 0) → sum n f ≡ 0
unfolding sum
sum-zero zero f e = refl
sum-zero (suc n) f e = omega (arith, sum-zero n f (λ k l. e k (omega arith)), e n (omega arith))

-- each number is at most the sum, and where that is not 0 one of them is not
module _ (f : ℕ → ℕ) where
  pub sum-part : (n k : ℕ) → k < n → f k ≤ sum n f
  unfolding sum
  sum-part zero k l = absurd (omega arith)
  sum-part (suc n) k l = go (dec_lt k n) (sum-part n k)
    where
      go : Dec (k < n) → (k < n → f k ≤ sum n f) → f k ≤ sum n f + f n
      go (yes b) below = omega (arith, below b)
      go (no b) below = omega (arith, ap f {x = k} {y = n} (omega arith))

  pub sum-found : (n : ℕ) → 0 < sum n f → (k : ℕ) × (0 < f k)
  unfolding sum
  sum-found zero l = absurd (omega arith)
  sum-found (suc n) l = go (dec_lt 0 (f n)) (sum-found n)
    where
      go : Dec (0 < f n) → (0 < sum n f → (k : ℕ) × (0 < f k)) → (k : ℕ) × (0 < f k)
      go (yes here) before = (n, here)
      go (no here) before = before (omega arith)

-- sums of numbers of which none is above the other, and one is below
module _ (f g : ℕ → ℕ) (f-g : (k : ℕ) → f k ≤ g k) where
  pub sum_mono : (n : ℕ) → sum n f ≤ sum n g
  unfolding sum
  sum_mono zero = omega arith
  sum_mono (suc n) = omega (arith, sum_mono n, f-g n)

  pub sum_less : (n j : ℕ) → j < n → f j + 1 ≤ g j → sum n f + 1 ≤ sum n g
  unfolding sum
  sum_less zero j l h = absurd (omega arith)
  sum_less (suc n) j l h = go (dec_lt j n) (sum_less n j)
    where
      go : Dec (j < n) → (j < n → f j + 1 ≤ g j → sum n f + 1 ≤ sum n g) → sum n f + f n + 1 ≤ sum n g + g n
      go (yes b) below = omega (arith, f-g n, below b h)
      go (no b) below = omega (arith, sum_mono n, subst (λ (z : ℕ). f z + 1 ≤ g z) {x = j} {y = n} (omega arith) h)

-- a loop: no number yet, one more, all

pub sum-none : (f : ℕ → ℕ) → 0 ≡ sum 0 f
unfolding sum
sum-none f = refl

pub sum_more : (f : ℕ → ℕ) (k v w : ℕ) → v ≡ sum k f → w ≡ f k → v + w ≡ sum (k + 1) f
unfolding sum
sum_more f k v w a b = rw (add-one k) (ap₂ ◌+◌ a b)

pub sum-all : (f : ℕ → ℕ) (k n v : ℕ) → k ≤ n → n ≤ k → v ≡ sum k f → v ≡ sum n f
sum-all f k n v a b e = e ∙ ap (λ (i : ℕ). sum i f) (le_antisymm a b)

-- none of n numbers is above c, and n is at most m
pub sum_most : (f : ℕ → ℕ) (c n m : ℕ) → n ≤ m → ((k : ℕ) → k < n → f k ≤ c) → sum n f ≤ m * c
unfolding sum
sum_most f c zero m l h = omega arith
sum_most f c (suc n) zero l h = absurd (omega arith)
sum_most f c (suc n) (suc m) l h = omega (arith, sum_most f c n m (omega arith) (λ k b. h k (omega arith)), h n (omega arith))

-- how many are in a set

pub how_many_ext : (n : ℕ) (S R : ℕ → Bool) → ((k : ℕ) → k < n → S k ≡ R k) → how_many n S ≡ how_many n R
unfolding how_many
how_many_ext n S R e = sum_ext n (λ k. digit (S k)) (λ k. digit (R k)) (λ k l. ap digit (e k l))

pub none_in : (n : ℕ) (S : ℕ → Bool) → ((k : ℕ) → S k ≡ false) → how_many n S ≡ 0
unfolding how_many
none_in n S e = sum-zero n (λ k. digit (S k)) (λ k _. ap digit (e k))

digits_most : (n : ℕ) (S : ℕ → Bool) → sum n (λ k. digit (S k)) ≤ n
unfolding sum
digits_most zero S = omega arith
digits_most (suc n) S = omega (arith, digits_most n S, digit_lt (S n))

pub how_many_most : (n : ℕ) (S : ℕ → Bool) → how_many n S ≤ n
unfolding how_many
how_many_most = digits_most

pub as_digit : (b : Bool) → cond b 1 0 ≡ digit b
as_digit true = refl
as_digit false = refl

-- as peers are counted, from 1
weighed : (n : ℕ) (S : ℕ → Bool) → weight ones n (λ k. S (k - 1)) ≡ sum n (λ k. digit (S k))
unfolding weight sum
weighed zero S = refl
weighed (suc n) S = ap₂ ◌+◌ (weighed n S) (as_digit (S (suc n - 1)) ∙ ap (λ (k : ℕ). digit (S k)) {x = suc n - 1} {y = n} (omega arith))

-- the machine counts the bits of the number whose bits below n are those of S
pub ones_counted : (n : ℕ) (S : ℕ → Bool) → machine.ones (pack n S) ≡ how_many n S
unfolding how_many
ones_counted n S =
    ap machine.ones (pack_ext n S (λ k. S (k + 1 - 1)) (λ k l. ap S {x = k} {y = k + 1 - 1} (omega arith)))
    ∙ ones-pack n (λ k. S (k - 1)) ∙ weighed n S

-- the first number apart
pub sum_first : (n : ℕ) (f : ℕ → ℕ) → sum (suc n) f ≡ f 0 + sum n (λ k. f (suc k))
unfolding sum
sum_first zero f = omega arith
sum_first (suc n) f = omega (arith, sum_first n f)
