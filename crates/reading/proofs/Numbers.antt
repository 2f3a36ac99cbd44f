-- Numbers read back from a text, so that no two numbers are written alike, nor the lines of two receipts, nor those of
-- two answers.
use Prim.Native.Nat.{ℕ, zero, suc, ◌+◌, ◌-◌, ◌*◌, ◌/◌, ◌%◌, ◌<◌}
use native.Mathlib.Omega.{arith}
use mathlib.Core.Bool.{Bool, true, false, cond}
use mathlib.Core.List.{List, [], ◌∷◌, ◌++◌, append-nil, append_assoc, tail}
use mathlib.Core.Path.{◌≡◌, refl, sym, ap, ◌∙◌}
use lib.Dec.{eqb, ltb}
use lib.ListN.{get_or}
use borrow.Author.Tests.{ne_eqb, ltb-false}
use Rattle.text.specs.Decimal.{spelled, decimal, field}
use Rattle.reading.specs.Receipts.{receipt_text}
use Rattle.reading.specs.Steps.{step_text}

-- the numbers of a text, a blank between them; n is what was read of the first one so far
numbers_from : ℕ → List ℕ → List ℕ
numbers_from n [] = n ∷ []
numbers_from n (b ∷ text) = cond (eqb b 32) (n ∷ numbers_from 0 text) (numbers_from (n * 10 + (b - 48)) text)

digit-read : (n d m : ℕ) (rest : List ℕ) → n * 10 + d ≡ m → numbers_from n ((48 + d) ∷ rest) ≡ numbers_from m rest
unfolding numbers_from
digit-read n d m rest e =
    rw (ne_eqb (48 + d) 32 (λ q. omega (arith, q)))
    (ap (λ (k : ℕ). numbers_from k rest) {x = n * 10 + (48 + d - 48)} {y = m} (omega (arith, e)))

spelled-read : (k n : ℕ) (rest : List ℕ) → n < k → numbers_from 0 (spelled k n ++ rest) ≡ numbers_from n rest
unfolding spelled
spelled-read zero n rest l = absurd (omega (arith, l))
spelled-read (suc k) n rest l = pick (ltb n 10) refl (spelled-read k (n / 10) ((48 + n % 10) ∷ rest))
  where
    pick : (small : Bool) → ltb n 10 ≡ small
        → (n / 10 < k → numbers_from 0 (spelled k (n / 10) ++ ((48 + n % 10) ∷ rest)) ≡ numbers_from (n / 10) ((48 + n % 10) ∷ rest))
        → numbers_from 0 (cond small ((48 + n) ∷ []) (spelled k (n / 10) ++ ((48 + n % 10) ∷ [])) ++ rest) ≡ numbers_from n rest
    pick true e more = digit-read 0 n n rest (omega arith)
    pick false e more =
        ap (numbers_from 0) (append_assoc (spelled k (n / 10)) ((48 + n % 10) ∷ []) rest)
        ∙ more (omega (arith, l, ltb-false n 10 e)) ∙ digit-read (n / 10) (n % 10) n rest (omega arith)

decimal-read : (n : ℕ) (rest : List ℕ) → numbers_from 0 (decimal n ++ rest) ≡ numbers_from n rest
unfolding decimal
decimal-read n rest = spelled-read (n + 1) n rest (omega arith)

-- a number alone
alone_read : (n : ℕ) → numbers_from 0 (decimal n) ≡ n ∷ []
unfolding numbers_from
alone_read n = ap (numbers_from 0) (sym (append-nil (decimal n))) ∙ decimal-read n []

-- the fields of a receipt's line
receipt-read : (p x : ℕ) → tail (numbers_from 0 (receipt_text p x)) ≡ p ∷ x ∷ []
unfolding numbers_from field
receipt-read p x = decimal-read p (32 ∷ decimal x) ∙ ap (λ (l : List ℕ). p ∷ l) (alone_read x)

pub receipt_once : (p x q y : ℕ) → receipt_text p x ≡ receipt_text q y → (p ≡ q) × (x ≡ y)
receipt_once p x q y e =
    let same = sym (receipt-read p x) ∙ ap (λ (l : List ℕ). tail (numbers_from 0 l)) e ∙ receipt-read q y in
    (ap (λ (l : List ℕ). get_or l 0 0) same, ap (λ (l : List ℕ). get_or l 1 0) same)

-- the fields of a step's line
step_read : (k a : ℕ) → numbers_from 0 (step_text k a) ≡ k ∷ a ∷ []
unfolding numbers_from field
step_read k a = decimal-read k (32 ∷ decimal a) ∙ ap (λ (l : List ℕ). k ∷ l) (alone_read a)

pub step_once : (k a i b : ℕ) → step_text k a ≡ step_text i b → (k ≡ i) × (a ≡ b)
step_once k a i b e =
    let same = sym (step_read k a) ∙ ap (numbers_from 0) e ∙ step_read i b in
    (ap (λ (l : List ℕ). get_or l 0 0) same, ap (λ (l : List ℕ). get_or l 1 0) same)
