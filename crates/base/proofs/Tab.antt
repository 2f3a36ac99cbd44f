-- Laws of lists from functions: their length and elements, and filling an array from the front.
use Prim.Native.Nat.{ℕ, zero, suc, ◌+◌, ◌<◌, ◌≤◌}
use native.Mathlib.Decide.{ℕ_discrete}
use native.Mathlib.Nat.{not-suc-le-zero}
use native.Mathlib.Omega.{arith}
use mathlib.Core.List.{List, [], ◌∷◌, ◌++◌}
use mathlib.Core.Path.{◌≡◌, refl, sym, ap, ap₂, ◌∙◌}
use lib.ListN.{length, get_or, set, length-set}
use lib.Seq.{ext_get_or, get_or-set_same, get_or-set_other}
use Rattle.base.specs.Tab.{tab, FilledTo}

module _ {A : Type 0} where
  pub tab_ext : (n : ℕ) (f g : ℕ → A) → ((k : ℕ) → k < n → f k ≡ g k) → tab n f ≡ tab n g
  unfolding tab
  tab_ext zero f g e = refl
  tab_ext (suc n) f g e = ap₂ ◌∷◌ (e 0 (omega arith)) (tab_ext n (λ k. f (suc k)) (λ k. g (suc k)) (λ k l. e (suc k) (omega arith)))

  pub length-tab : (n : ℕ) (f : ℕ → A) → length (tab n f) ≡ n
  unfolding tab
  length-tab zero f = refl
  length-tab (suc n) f = ap suc (length-tab n (λ k. f (suc k)))

  pub get_or-tab : (n : ℕ) (f : ℕ → A) (i : ℕ) (d : A) → i < n → get_or (tab n f) i d ≡ f i
  unfolding tab
  get_or-tab zero f i d l = absurd (not-suc-le-zero l)
  get_or-tab (suc n) f zero d l = refl
  get_or-tab (suc n) f (suc i) d l = get_or-tab n (λ k. f (suc k)) i d (omega arith)

  pub get_or-tab-out : (n : ℕ) (f : ℕ → A) (i : ℕ) (d : A) → n ≤ i → get_or (tab n f) i d ≡ d
  unfolding tab
  get_or-tab-out zero f i d l = refl
  get_or-tab-out (suc n) f zero d l = absurd (not-suc-le-zero l)
  get_or-tab-out (suc n) f (suc i) d l = get_or-tab-out n (λ k. f (suc k)) i d (omega arith)

  -- one element more
  pub tab_more : (n : ℕ) (f : ℕ → A) → tab (suc n) f ≡ tab n f ++ (f n ∷ [])
  unfolding tab
  tab_more zero f = refl
  tab_more (suc n) f = ap (λ l. f 0 ∷ l) (tab_more n (λ k. f (suc k)))

  -- a list is that of its elements
  pub tab-get_or : (l : List A) (d : A) → tab (length l) (λ k. get_or l k d) ≡ l
  tab-get_or l d =
      let long = length-tab (length l) at in
      ext_get_or d (tab (length l) at) l long (λ i h. get_or-tab (length l) at i d (omega (arith, long)))
    where
      at : ℕ → A
      at k = get_or l k d

  -- an array filled from the front: no place yet, one more, all

  pub filled_none : (d : A) (m : ℕ) (f : ℕ → A) (l : List A) → length l ≡ m → FilledTo d m f 0 l
  filled_none d m f l e = record { long = e; each = λ k q. absurd (not-suc-le-zero q) }

  pub filled_more : (d : A) (m : ℕ) (f : ℕ → A) (n : ℕ) (l : List A) (v : A) → n < m → v ≡ f n → FilledTo d m f n l
      → FilledTo d m f (n + 1) (set l n v)
  filled_more d m f n l v h e w = record { long = length-set l n v ∙ w.long; each = λ k q. go k q (ℕ_discrete k n) }
    where
      go : (k : ℕ) → k < n + 1 → Dec (k ≡ n) → get_or (set l n v) k d ≡ f k
      go k q (yes z) = rw z (get_or-set_same l n v d (omega (arith, w.long)) ∙ e)
      go k q (no z) = get_or-set_other l n k v d z ∙ w.each k (omega arith)

  pub filled_all : (d : A) (m : ℕ) (f : ℕ → A) (n : ℕ) (l : List A) → m ≤ n → FilledTo d m f n l → l ≡ tab m f
  filled_all d m f n l o w =
      ext_get_or d l (tab m f) (w.long ∙ sym (length-tab m f)) (λ i h.
      let k : i < m = omega (arith, w.long) in
      w.each i (omega arith) ∙ sym (get_or-tab m f i d k))
