-- Writers one after the other: nothing, one text and then another, a byte, a word, each of a row of texts, a text where a test holds.
use Prim.Native.Nat.{ℕ, suc, ◌+◌, ◌^◌, ◌≤◌, ◌<◌}
use native.Mathlib.Decide.{ℕ_discrete}
use native.Mathlib.Nat.{add-zero, add-suc, suc-add}
use native.Mathlib.Numerals.{add-one}
use native.Mathlib.Omega.{arith}
use mathlib.Core.Bool.{Bool, true, false, cond}
use mathlib.Core.List.{List, [], ◌∷◌, ◌++◌}
use mathlib.Core.Path.{◌≡◌, refl, sym, ap, subst, subst⁻¹, ◌∙◌}
use lib.ListN.{length, take, set, get_or, length-append, length-set}
use lib.Seq.{sets, set_out, take-suc, take_all}
use Rattle.text.specs.Wrote.{over, place_of, Wrote, each}

-- nothing
pub none : {l : List ℕ} {a : ℕ} → Wrote l a [] l a
unfolding over
none {l} {a} = record { long = refl; bytes = λ _. refl; place = ap place_of {x = a} {y = a + 0} (omega arith) }

-- a text after another, at the place after it

sets-append : (u v l : List ℕ) (i : ℕ) → sets (sets l i u) (i + length u) v ≡ sets l i (u ++ v)
sets-append [] v l i = rw add-zero
sets-append (b ∷ u) v l i = rw (add-suc, ← suc-add) (sets-append u v (set l i b) (suc i))

sets_past : (v l : List ℕ) (i : ℕ) → length l ≤ i → sets l i v ≡ l
sets_past [] l i h = refl
sets_past (b ∷ v) l i h = rw (set_out l i b h) (sets_past v l (suc i) (omega arith))

same_place : (l v : List ℕ) (i j : ℕ) → length l < 2 ^ 64 → place_of i ≡ place_of j → sets l i v ≡ sets l j v
same_place l v i j small e = go (ℕ_discrete i j)
  where
    go : Dec (i ≡ j) → sets l i v ≡ sets l j v
    go (yes q) = ap (λ (k : ℕ). sets l k v) q
    go (no q) = sets_past v l i (omega (arith, q)) ∙ sym (sets_past v l j (omega (arith, q)))

infixl 40 ◌▷◌
pub ◌▷◌ : {l l₁ l₂ : List ℕ} {a a₁ a₂ : ℕ} {u v : List ℕ} → Wrote l a u l₁ a₁ → Wrote l₁ a₁ v l₂ a₂ → Wrote l a (u ++ v) l₂ a₂
unfolding over
◌▷◌ {l} {l₁} {l₂} {a} {a₁} {a₂} {u} {v} x y =
    record {
      long = y.long ∙ x.long;
      bytes = λ small.
          let room : length l₁ < 2 ^ 64 = omega (arith, small, x.long) in
          y.bytes room ∙ same_place l₁ v a₁ (a + length u) room x.place
          ∙ ap (λ (m : List ℕ). sets m (a + length u) v) (x.bytes small) ∙ sets-append u v l a;
      place = omega (arith, x.place, y.place, length-append u v);
    }

-- a byte, where there is room for it and where there is none

pub byte_in_lem : (l : List ℕ) (a b : ℕ) → Wrote l a (b ∷ []) (set l a b) (a + 1)
unfolding over
byte_in_lem l a b = record { long = length-set l a b; bytes = λ _. refl; place = refl }

pub byte_out : (l : List ℕ) (a b n : ℕ) → length l ≤ a → place_of n ≡ place_of (a + 1) → Wrote l a (b ∷ []) l n
unfolding over
byte_out l a b n past e = record { long = refl; bytes = λ _. sym (set_out l a b past); place = e }

-- a word, byte by byte
pub word_more : {l l₁ l₂ : List ℕ} {a a₁ a₂ : ℕ} (w : List ℕ) (i : ℕ) → i < length w
    → Wrote l a (take i w) l₁ a₁ → Wrote l₁ a₁ (get_or w i 0 ∷ []) l₂ a₂ → Wrote l a (take (i + 1) w) l₂ a₂
word_more {l} {l₁} {l₂} {a} {a₁} {a₂} w i h x y = rw (add-one, take-suc w i 0) (x ▷ y)

pub word_all : {l l₁ : List ℕ} {a a₁ : ℕ} (w : List ℕ) (i : ℕ) → length w ≤ i → Wrote l a (take i w) l₁ a₁ → Wrote l a w l₁ a₁
word_all {l} {l₁} {a} {a₁} w i m x = subst (λ (t : List ℕ). Wrote l a t l₁ a₁) (take_all i w m) x

-- each of a row of texts
pub each_none : {l : List ℕ} {a : ℕ} (f : ℕ → List ℕ) → Wrote l a (each f 0) l a
unfolding each
each_none f = none

pub each_more : {l l₁ l₂ : List ℕ} {a a₁ a₂ : ℕ} (f : ℕ → List ℕ) (k : ℕ)
    → Wrote l a (each f k) l₁ a₁ → Wrote l₁ a₁ (f k) l₂ a₂ → Wrote l a (each f (k + 1)) l₂ a₂
unfolding each
each_more {l} {l₁} {l₂} {a} {a₁} {a₂} f k x y = subst⁻¹ (λ (n : ℕ). Wrote l a (each f n) l₂ a₂) (add-one k) (x ▷ y)

-- a text where a test holds, and nothing where it does not
pub kept : {l l₁ t : List ℕ} {a a₁ : ℕ} {b r : Bool} → r ≡ b → r ≡ true → Wrote l a t l₁ a₁ → Wrote l a (cond b t []) l₁ a₁
kept {l} {l₁} {t} {a} {a₁} {b} {r} e y x = rw (← e, y) x

pub left_out : {l : List ℕ} {a : ℕ} {b r : Bool} (t : List ℕ) → r ≡ b → r ≡ false → Wrote l a (cond b t []) l a
left_out {l} {a} {b} {r} t e n = rw (← e, n) none

-- the same text under another name
pub renamed : {l l₁ t u : List ℕ} {a n : ℕ} → t ≡ u → Wrote l a t l₁ n → Wrote l a u l₁ n
renamed {l} {l₁} {t} {u} {a} {n} e x = subst (λ (v : List ℕ). Wrote l a v l₁ n) e x

-- the same text with its next place at the last one, where it lies past that
pub at_most : {l l₁ t : List ℕ} {a n k : ℕ} → k ≡ place_of n → Wrote l a t l₁ n → Wrote l a t l₁ k
at_most e x = record { long = x.long; bytes = x.bytes; place = omega (arith, e, x.place) }
