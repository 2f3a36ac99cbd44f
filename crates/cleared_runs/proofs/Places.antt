-- Two bags, the one within the other: how many entries they have, and where an entry of the one stands in the other.
use Prim.Native.Nat.{ℕ, suc, ◌≤◌, ◌<◌}
use native.Mathlib.Omega.{arith}
use mathlib.Core.Bool.{true, false, cond, ◌||◌, not}
use mathlib.Core.List.{List, [], ◌∷◌, ◌++◌, append-nil}
use mathlib.Core.Path.{◌≡◌, refl, sym, ap, ◌∙◌, subst}
use mathlib.Core.Logic.{◌⊎◌, inl, inr}
use lib.Dec.{eqb, ltb, leb}
use lib.ListN.{length, get_or-eq_default}
use borrow.Author.Tests.{ltb-true, ltb-false, le-leb, leb-true, not-true}
use Rattle.base.proofs.Truth.{split, false_true, either, is_false, and_i, and_l, and_r, or_l, or_r, or_cases, or_false_l, or_false_r}
use Rattle.rules.specs.declared.Entry.{Entry}
use Rattle.rules.specs.declared.Entry.TheVariants.{Hash, Backing, Board}
use Rattle.rules.specs.Bag.{same_entry, is_in, entry_at, place_in, no_entry, enter, is_full, capacity, without_hashes}
use Rattle.rules.specs.Valid.{different}
use Rattle.cleared_runs.specs.Cleared.{renumber, no_hashes}
use Rattle.rules.proofs.Bag.{eq_of_same, same_self, enter_cases, placed, at_in}

-- a bag without one entry

unfoldable remove : Entry → List Entry → List Entry
remove a [] = []
remove a (b ∷ l) = cond (same_entry a b) l (b ∷ remove a l)

length_remove : (a : Entry) (l : List Entry) → is_in a l ≡ true → length l ≡ suc (length (remove a l))
unfolding is_in remove
length_remove a [] h = false_true h
length_remove a (b ∷ l) h = go (either (same_entry a b)) (length_remove a l)
  where
    go : (same_entry a b ≡ true) ⊎ (same_entry a b ≡ false) → (is_in a l ≡ true → length l ≡ suc (length (remove a l)))
        → suc (length l) ≡ suc (length (cond (same_entry a b) l (b ∷ remove a l)))
    go (inl e) r = rw e
    go (inr e) r = rw e (ap suc (r (rw e at h)))

in_remove : (e a : Entry) (l : List Entry) → same_entry e a ≡ false → is_in e l ≡ true → is_in e (remove a l) ≡ true
unfolding is_in remove
in_remove e a [] d h = h
in_remove e a (b ∷ l) d h = go (either (same_entry a b)) (or_cases (same_entry e b) _ h) (in_remove e a l d)
  where
    go : (same_entry a b ≡ true) ⊎ (same_entry a b ≡ false) → (same_entry e b ≡ true) ⊎ (is_in e l ≡ true)
        → (is_in e l ≡ true → is_in e (remove a l) ≡ true)
        → is_in e (cond (same_entry a b) l (b ∷ remove a l)) ≡ true
    go (inl m) (inl n) r = split (subst (λ (z : Entry). same_entry e z ≡ true) (sym (eq_of_same a b m)) n) d
    go (inl m) (inr n) r = rw m n
    go (inr m) (inl n) r = rw m (or_l (same_entry e b) _ n)
    go (inr m) (inr n) r = rw m (or_r (same_entry e b) _ (r n))

-- different entries that another bag has are no more than its entries
pub no_more : (some all : List Entry) → different some ≡ true → ((a : Entry) → is_in a some ≡ true → is_in a all ≡ true)
    → length some ≤ length all
unfolding is_in different
no_more [] all d f = omega arith
no_more (a ∷ some) all d f = omega (
  arith,
  length_remove a all (f a (or_l (same_entry a a) _ (same_self a))),
  no_more some (remove a all) (and_r (not (is_in a some)) _ d)
      still,
)
  where
    other : (e : Entry) → is_in e some ≡ true → same_entry e a ≡ false
    other e h = is_false _
        (λ m. split (subst (λ (z : Entry). is_in z some ≡ true) (eq_of_same e a m) h) (not-true _ (and_l (not (is_in a some)) _ d)))

    still : (e : Entry) → is_in e some ≡ true → is_in e (remove a all) ≡ true
    still e h = in_remove e a all (other e h) (f e (or_r (same_entry e a) _ h))

module _ (some all : List Entry) (d : different some ≡ true) (f : (a : Entry) → is_in a some ≡ true → is_in a all ≡ true) where
  -- fewer, where one is lacking
  pub fewer : (a : Entry) → is_in a all ≡ true → is_in a some ≡ false → length some < length all
  unfolding is_in different
  fewer a h l = omega (arith, no_more (a ∷ some) all (and_i (not (is_in a some)) (different some) (rw l) d) among)
    where
      among : (e : Entry) → same_entry e a || is_in e some ≡ true → is_in e all ≡ true
      among e m = go (or_cases (same_entry e a) _ m)
        where
          go : (same_entry e a ≡ true) ⊎ (is_in e some ≡ true) → is_in e all ≡ true
          go (inl q) = subst (λ (z : Entry). is_in z all ≡ true) (sym (eq_of_same e a q)) h
          go (inr q) = f e q

  -- what the larger bag has room for, or has, the smaller one has room for, or has
  pub room : length all ≤ capacity → (a : Entry) → is_full a all ≡ false → is_full a some ≡ false
  unfolding is_full
  room small a h = is_false _
      (λ e. go (either (is_in a all)) (not-true _ (and_l (not (is_in a some)) _ e))
      (leb-true capacity (length some) (and_r (not (is_in a some)) _ e)))
    where
      go : (is_in a all ≡ true) ⊎ (is_in a all ≡ false) → is_in a some ≡ false → capacity ≤ length some → ⊥
      go (inl m) n l = omega (arith, small, fewer a m n)
      go (inr m) n l = split
          (and_i (not (is_in a all)) (leb capacity (length all)) (rw m) (le-leb capacity (length all) (omega (arith, no_more some all d f))))
          h

-- places

pub no_place : (a : Entry) (l : List Entry) → is_in a l ≡ false → place_in l a ≡ length l
unfolding is_in place_in
no_place a [] h = refl
no_place a (b ∷ l) h = rw (or_false_l (same_entry a b) (is_in a l) h) (ap suc (no_place a l (or_false_r (same_entry a b) _ h)))

-- what stands at a number that is below the length
pub in_bag : (l : List Entry) (e : ℕ) → e < length l → is_in (entry_at l e) l ≡ true
in_bag l e h = at_in (entry_at l e) l e h refl

module _ (some all : List Entry) (d : different some ≡ true) (f : (a : Entry) → is_in a some ≡ true → is_in a all ≡ true) (e : ℕ) where
  -- an entry that both have is found by its translated number; where there is none, or it is lacking, none is found
  pub found : is_in (entry_at all e) some ≡ true → entry_at some (renumber all some e) ≡ entry_at all e
  unfolding renumber
  found h = go (either (ltb e (length all)))
    where
      go : (ltb e (length all) ≡ true) ⊎ (ltb e (length all) ≡ false)
          → entry_at some (cond (ltb e (length all)) (place_in some (entry_at all e)) e) ≡ entry_at all e
      go (inl l) = rw l (placed some (entry_at all e) h).1
      go (inr l) = rw l
          (get_or-eq_default some no_entry {n = e} (omega (arith, no_more some all d f, ltb-false e (length all) l)) ∙ sym
          (get_or-eq_default all no_entry {n = e} (ltb-false e (length all) l)))

  pub lacking : is_in (entry_at all e) some ≡ false → entry_at some (renumber all some e) ≡ no_entry
  unfolding renumber
  lacking h = go (either (ltb e (length all)))
    where
      go : (ltb e (length all) ≡ true) ⊎ (ltb e (length all) ≡ false)
          → entry_at some (cond (ltb e (length all)) (place_in some (entry_at all e)) e) ≡ no_entry
      go (inl l) = rw (l, no_place (entry_at all e) some h) (get_or-eq_default some no_entry {n = length some} (omega arith))
      go (inr l) = rw l (get_or-eq_default some no_entry {n = e} (omega (arith, no_more some all d f, ltb-false e (length all) l)))

  -- a number that is a byte stays one
  pub still_byte : length all ≤ 256 → e < 256 → renumber all some e < 256
  unfolding renumber
  still_byte small b = go (either (ltb e (length all))) (either (is_in (entry_at all e) some))
    where
      go : (ltb e (length all) ≡ true) ⊎ (ltb e (length all) ≡ false)
          → (is_in (entry_at all e) some ≡ true) ⊎ (is_in (entry_at all e) some ≡ false)
          → cond (ltb e (length all)) (place_in some (entry_at all e)) e < 256
      go (inl l) (inl h) = rw l (omega (arith, (placed some (entry_at all e) h).0, no_more some all d f))
      go (inl l) (inr h) = rw (l, no_place (entry_at all e) some h)
          (omega (arith, fewer some all d f (entry_at all e) (in_bag all e (ltb-true e (length all) l)) h))
      go (inr l) h = rw l b

-- the entries that are no hashes

others_append : (l : List Entry) (a : Entry) → no_hashes (l ++ (a ∷ [])) ≡ no_hashes l ++ no_hashes (a ∷ [])
unfolding no_hashes
others_append [] a = refl
others_append (Hash k p B ∷ l) a = others_append l a
others_append (Backing k p B ∷ l) a = ap (λ (m : List Entry). Backing k p B ∷ m) (others_append l a)
others_append (Board p B ∷ l) a = ap (λ (m : List Entry). Board p B ∷ m) (others_append l a)

pub others_enter : (a : Entry) (l : List Entry) → no_hashes (enter a l) ≡ cond (is_in a l) (no_hashes l) (no_hashes l ++ no_hashes (a ∷ []))
others_enter a l = enter_cases (λ m. no_hashes m ≡ cond (is_in a l) (no_hashes l) (no_hashes l ++ no_hashes (a ∷ []))) a l (λ m. rw m)
    (λ m. rw m (others_append l a))

pub others_hash : (k p B : ℕ) (l : List Entry) → no_hashes (enter (Hash k p B) l) ≡ no_hashes l
unfolding no_hashes
others_hash k p B l = enter_cases (λ m. no_hashes m ≡ no_hashes l) (Hash k p B) l (λ m. refl)
    (λ m. others_append l (Hash k p B) ∙ append-nil (no_hashes l))

pub others_without : (q : ℕ) (l : List Entry) → no_hashes (without_hashes q l) ≡ no_hashes l
unfolding without_hashes no_hashes
others_without q [] = refl
others_without q (Hash k p B ∷ l) = go (either (eqb p q)) (others_without q l)
  where
    go : (eqb p q ≡ true) ⊎ (eqb p q ≡ false) → no_hashes (without_hashes q l) ≡ no_hashes l
        → no_hashes (cond (eqb p q) (without_hashes q l) (Hash k p B ∷ without_hashes q l)) ≡ no_hashes l
    go (inl h) r = rw h r
    go (inr h) r = rw h r
others_without q (Backing k p B ∷ l) = ap (λ (m : List Entry). Backing k p B ∷ m) (others_without q l)
others_without q (Board p B ∷ l) = ap (λ (m : List Entry). Board p B ∷ m) (others_without q l)
