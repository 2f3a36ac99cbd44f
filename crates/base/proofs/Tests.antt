-- Tests on numbers and truth values that were read, as the rules have them.
use Prim.Native.Nat.{ℕ}
use mathlib.Core.Bool.{Bool, true, false, ◌||◌, not}
use mathlib.Core.Path.{◌≡◌, sym, ap, ap₂, ◌∙◌}
use mathlib.Core.Logic.{◌⊎◌, inl, inr}
use lib.Dec.{eqb, leb, ltb}
use borrow.Author.Tests.{eq-eqb, ne_eqb, leb-true, leb-false, lt-ltb, le-ltb}
use Rattle.base.proofs.Truth.{either, or_l}

-- m is at most a exactly if a is not below m
pub not_below : (a m : ℕ) → leb m a ≡ not (ltb a m)
not_below a m = go (either (leb m a))
  where
    go : (leb m a ≡ true) ⊎ (leb m a ≡ false) → leb m a ≡ not (ltb a m)
    go (inl e) = e ∙ rw (le-ltb a m (leb-true m a e))
    go (inr e) = e ∙ rw (lt-ltb a m (leb-false m a e))

pub at_least : {a b : ℕ} (m : ℕ) → a ≡ b → leb m a ≡ not (ltb b m)
at_least {a} m e = not_below a m ∙ ap (λ (x : ℕ). not (ltb x m)) e

pub at_most : {a b : ℕ} (m : ℕ) → a ≡ b → leb a m ≡ not (ltb m b)
at_most {a} m e = not_below m a ∙ ap (λ (x : ℕ). not (ltb m x)) e

pub at_most_read : {a b c d : ℕ} → a ≡ b → c ≡ d → leb a c ≡ not (ltb d b)
at_most_read {a} {b} {c} {d} e f = not_below c a ∙ ap₂ (λ (x y : ℕ). not (ltb x y)) f e

pub below_read : {a b : ℕ} (m : ℕ) → a ≡ b → ltb a m ≡ ltb b m
below_read m e = ap (λ (x : ℕ). ltb x m) e

pub is_read : {a b : ℕ} (m : ℕ) → a ≡ b → eqb a m ≡ eqb b m
is_read m e = ap (λ (x : ℕ). eqb x m) e

pub negated : {a b : Bool} → a ≡ b → not a ≡ not b
negated e = ap not e

pub ruleset read-tests = (at_least, at_most, at_most_read, below_read, is_read, negated)

-- a number that is 0 or above n

pub peer_zero : (n j : ℕ) → j ≡ 0 → true ≡ (eqb j 0 || ltb n j)
peer_zero n j e = sym (or_l _ _ (eq-eqb j 0 e))

pub peer_other : (n j : ℕ) → (j ≡ 0 → ⊥) → ltb n j ≡ (eqb j 0 || ltb n j)
peer_other n j d = rw (ne_eqb j 0 d)
