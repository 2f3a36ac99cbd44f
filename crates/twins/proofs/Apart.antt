-- Texts of which no two are twins are apart: where two of them are the same they have one number; and the other way.
use Prim.Native.Nat.{ℕ, zero, suc, ◌<◌}
use native.Mathlib.Omega.{arith}
use mathlib.Core.Bool.{Bool, true, false, not, ◌&&◌, ◌||◌}
use mathlib.Core.List.{List}
use mathlib.Core.Logic.{◌⊎◌, inl, inr}
use mathlib.Core.Path.{◌≡◌, refl, sym, ap, ◌∙◌}
use lib.Dec.{ltb}
use borrow.Author.Tests.{ltb-true, ltb-false, not-true}
use Rattle.base.proofs.Truth.{split, either, not_i}
use Rattle.base.specs.Below.{any, every}
use Rattle.base.proofs.Below.{every-at, every_of, every_ext}
use Rattle.base.proofs.Bytes.{same_of_eq, eq_of_same}
use Rattle.pairs.specs.Pairs.{text_of}
use Rattle.twins.specs.Twins.{differ, new_at, twinless}
use Rattle.twins.specs.Marks.{are_same}

module _ (s : List ℕ) (at m : ℕ) where
  module _ (ok : twinless s at m ≡ true) where
    not_before : (i j : ℕ) → i < j → j < m → text_of s at i ≡ text_of s at j → ⊥
    unfolding twinless new_at differ
    not_before i j before l e =
        let new = every-at (new_at s at) m ok j l in
        split (same_of_eq _ _ e) (not-true _ (every-at (differ s at j) j new i before))

    pub same_number_lem : (i j : ℕ) → i < m → j < m → text_of s at i ≡ text_of s at j → i ≡ j
    same_number_lem i j l h e = go (either (ltb i j)) (either (ltb j i))
      where
        go : (ltb i j ≡ true) ⊎ (ltb i j ≡ false) → (ltb j i ≡ true) ⊎ (ltb j i ≡ false) → i ≡ j
        go (inl p) q = absurd (not_before i j (ltb-true i j p) h e)
        go (inr p) (inl q) = absurd (not_before j i (ltb-true j i q) l (sym e))
        go (inr p) (inr q) = omega (arith, ltb-false i j p, ltb-false j i q)

  pub all_apart : ((i j : ℕ) → i < j → j < m → text_of s at i ≡ text_of s at j → ⊥) → twinless s at m ≡ true
  unfolding twinless new_at differ
  all_apart apart =
      every_of m (new_at s at) (λ j l. every_of j (differ s at j) (λ i before.
      not_i _ (λ same. apart i j before l (eq_of_same (text_of s at i) (text_of s at j) same))))

-- no text has a twin exactly if each is other than those before it
none_same : (n : ℕ) (f : ℕ → Bool) → not (any n f) ≡ every n (λ i. not (f i))
unfolding any every
none_same zero f = refl
none_same (suc n) f = not_or (any n f) (f n) ∙ ap (λ (b : Bool). b && not (f n)) (none_same n f)
  where
    not_or : (a b : Bool) → not (a || b) ≡ (not a && not b)
    not_or true b = refl
    not_or false b = refl

pub each-new : (s : List ℕ) (at m : ℕ) → every m (λ j. not (any j (are_same s at j))) ≡ twinless s at m
unfolding twinless new_at differ
each-new s at m = every_ext m _ _ (λ j l. none_same j (are_same s at j))
