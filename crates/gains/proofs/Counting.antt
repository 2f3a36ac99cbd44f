-- Laws of counting calls, all and different ones.
use Prim.Native.Nat.{ℕ, ◌+◌, ◌≤◌}
use native.Mathlib.Omega.{arith}
use mathlib.Core.Bool.{Bool, true, false, ◌&&◌, ◌||◌, not, or-false, or-true, or_assoc, and-false}
use mathlib.Core.List.{List, [], ◌∷◌, ◌++◌}
use mathlib.Core.Path.{◌≡◌, refl, sym, ◌∙◌, subst}
use mathlib.Core.Logic.{◌⊎◌, inl, inr}
use lib.ListN.{length}
use Rattle.base.specs.Bits.{digit}
use Rattle.base.specs.Bytes.{same_bytes}
use Rattle.base.proofs.Truth.{split, false_true, either, and_i, and_l, and_r, or_cases}
use Rattle.base.proofs.Bits.{digit_lt}
use Rattle.base.proofs.Bytes.{eq_of_same, same_self, same_sym}
use Rattle.gains.specs.Gain.{count_of, is_among, different_of}

-- One call more at the end, for a loop that counts them in their order.

pub count-one : (f : List ℕ → Bool) (calls : List (List ℕ)) (c : List ℕ) → count_of f (calls ++ (c ∷ [])) ≡ count_of f calls + digit (f c)
unfolding count_of
count-one f [] c = omega arith
count-one f (d ∷ calls) c = omega (arith, count-one f calls c)

pub among_one : (a : List ℕ) (calls : List (List ℕ)) (c : List ℕ) → is_among a (calls ++ (c ∷ [])) ≡ (is_among a calls || same_bytes a c)
unfolding is_among
among_one a [] c = or-false (same_bytes a c)
among_one a (d ∷ calls) c = rw (among_one a calls c) (sym (or_assoc (same_bytes a d) (is_among a calls) (same_bytes a c)))

pub different-one : (f : List ℕ → Bool) (calls : List (List ℕ)) (c : List ℕ)
    → different_of f (calls ++ (c ∷ [])) ≡ different_of f calls + digit (f c && not (is_among c calls))
unfolding different_of is_among
different-one f [] c = omega arith
different-one f (d ∷ calls) c = rw (among_one d calls c) (go (either (same_bytes d c)) (different-one f calls c))
  where
    go : (same_bytes d c ≡ true) ⊎ (same_bytes d c ≡ false)
        → different_of f (calls ++ (c ∷ [])) ≡ different_of f calls + digit (f c && not (is_among c calls))
        → digit (f d && not (is_among d calls || same_bytes d c)) + different_of f (calls ++ (c ∷ [])) ≡ digit
        (f d && not (is_among d calls)) + different_of f calls + digit (f c && not (same_bytes c d || is_among c calls))
    go (inl e) r =
        subst (λ (z : List ℕ). digit (f z && not (is_among z calls || same_bytes z c)) + different_of f (calls ++ (c ∷ [])) ≡ digit
        (f z && not (is_among z calls)) + different_of f calls + digit (f c && not (same_bytes c z || is_among c calls)))
        (sym (eq_of_same d c e)) (rw (same_self c, or-true (is_among c calls), and-false (f c)) (omega (arith, r)))
    go (inr e) r = rw (e, same_sym c d ∙ e, or-false (is_among d calls)) (omega (arith, r))

pub count_few : (f : List ℕ → Bool) (calls : List (List ℕ)) → count_of f calls ≤ length calls
unfolding count_of
count_few f [] = omega arith
count_few f (c ∷ calls) = omega (arith, digit_lt (f c), count_few f calls)

pub different_few : (f : List ℕ → Bool) (calls : List (List ℕ)) → different_of f calls ≤ length calls
unfolding different_of
different_few f [] = omega arith
different_few f (c ∷ calls) = omega (arith, different_few f calls, digit_lt (f c && not (is_among c calls)))

-- a test that fewer calls pass, and a call that passes the one and not the other

digit_mono : (a b : Bool) → (a ≡ true → b ≡ true) → digit a ≤ digit b
digit_mono true b f = rw (f refl) (omega arith)
digit_mono false b f = omega arith

module _ (f g : List ℕ → Bool) (f-g : (c : List ℕ) → f c ≡ true → g c ≡ true) where
  pub different_mono : (calls : List (List ℕ)) → different_of f calls ≤ different_of g calls
  unfolding different_of
  different_mono [] = omega arith
  different_mono (c ∷ calls) = omega (
    arith,
    different_mono calls,
    digit_mono (f c && not (is_among c calls)) (g c && not (is_among c calls))
        (λ e. and_i _ _ (f-g c (and_l (f c) (not (is_among c calls)) e)) (and_r (f c) _ e)),
  )

  -- a call among them that passes g and not f
  module _ (c : List ℕ) (in_g : g c ≡ true) (not_f : f c ≡ false) where
    different-among : (calls : List (List ℕ)) → is_among c calls ≡ true → different_of f calls + 1 ≤ different_of g calls
    unfolding is_among different_of
    different-among [] e = false_true e
    different-among (d ∷ calls) e = go (either (is_among c calls)) (different-among calls)
      where
        mono : digit (f d && not (is_among d calls)) ≤ digit (g d && not (is_among d calls))
        mono = digit_mono (f d && not (is_among d calls)) (g d && not (is_among d calls))
            (λ e. and_i _ _ (f-g d (and_l (f d) (not (is_among d calls)) e)) (and_r (f d) _ e))

        is_d : same_bytes c d || is_among c calls ≡ true → is_among c calls ≡ false → c ≡ d
        is_d e n = eq_of_same c d (here (or_cases (same_bytes c d) (is_among c calls) e))
          where
            here : (same_bytes c d ≡ true) ⊎ (is_among c calls ≡ true) → same_bytes c d ≡ true
            here (inl q) = q
            here (inr q) = split q n

        new : is_among c calls ≡ false → c ≡ d → digit (f d && not (is_among d calls)) + 1 ≤ digit (g d && not (is_among d calls))
        new n q = subst (λ (z : List ℕ). digit (f z && not (is_among z calls)) + 1 ≤ digit (g z && not (is_among z calls))) q
            (rw (not_f, in_g, n) (omega arith))

        go : (is_among c calls ≡ true) ⊎ (is_among c calls ≡ false) → (is_among c calls ≡ true → different_of f calls + 1 ≤ different_of g calls)
            → digit (f d && not (is_among d calls)) + different_of f calls + 1 ≤ digit (g d && not (is_among d calls)) + different_of g calls
        go (inl m) r = omega (arith, mono, r m)
        go (inr m) r = omega (arith, new m (is_d e m), different_mono calls)

    pub different_next : (calls : List (List ℕ)) → different_of f calls + 1 ≤ different_of g (c ∷ calls)
    unfolding different_of
    different_next calls = go (either (is_among c calls))
      where
        go : (is_among c calls ≡ true) ⊎ (is_among c calls ≡ false)
            → different_of f calls + 1 ≤ digit (g c && not (is_among c calls)) + different_of g calls
        go (inl m) = omega (arith, different-among calls m)
        go (inr m) = rw (in_g, m) (omega (arith, different_mono calls))
