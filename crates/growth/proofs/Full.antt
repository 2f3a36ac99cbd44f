-- When a step answers 13: all other tests are passed, its entry is new, and 256 are there.
use Prim.Native.Nat.{ℕ, ◌≤◌}
use native.Mathlib.Omega.{arith}
use mathlib.Core.Bool.{Bool, true, false, ◌&&◌, not}
use mathlib.Core.List.{List, [], ◌∷◌}
use mathlib.Core.Path.{◌≡◌, refl}
use mathlib.Core.Logic.{◌⊎◌, inl, inr}
use lib.Dec.{eqb, leb}
use lib.ListN.{length}
use borrow.Author.Tests.{eq-eqb, not-true, leb-true}
use Rattle.base.specs.Refusals.{Row, numbered, first}
use Rattle.base.proofs.Truth.{split, either, and_l, and_r}
use Rattle.rules.specs.declared.Entry.{Entry}
use Rattle.rules.specs.declared.Entry.TheVariants.{Hash, Backing}
use Rattle.rules.specs.declared.Step.{Step}
use Rattle.rules.specs.declared.Step.TheVariants.{SendHash, Back, Publish, FalseHash, FalseBacking}
use Rattle.rules.specs.Table.{Table}
use Rattle.rules.specs.Bag.{is_in, is_full, capacity, board_named}
use Rattle.rules.specs.State.{State}
use Rattle.rules.specs.Rules.{board_by, rule, answer}

-- refusals that are not full

abbrev pub no_full : Row → Bool
no_full [] = true
no_full (r ∷ rest) = not (eqb r.0 13) && no_full rest

pub never_full_lem : (l : Row) → no_full l ≡ true → first l ≡ 13 → ⊥
unfolding first
never_full_lem [] n e = omega (arith, e)
never_full_lem (r ∷ rest) n e = go (either r.1) (never_full_lem rest (and_r (not (eqb r.0 13)) _ n))
  where
    go : (r.1 ≡ true) ⊎ (r.1 ≡ false) → (first rest ≡ 13 → ⊥) → ⊥
    go (inl t) later = split (eq-eqb r.0 13 (rw t at e)) (not-true _ (and_l (not (eqb r.0 13)) _ n))
    go (inr t) later = later (rw t at e)

-- a row that ends in full: where it answers 13 all else is passed, and the bag is full

abbrev pub Reached : Row → Type 0
Reached [] = ⊥
Reached (r ∷ []) = r.1 ≡ true
Reached (r ∷ (q ∷ rest)) = (r.1 ≡ false) × Reached (q ∷ rest)

abbrev pub full_last : Row → Bool
full_last [] = true
full_last (r ∷ []) = true
full_last (r ∷ (q ∷ rest)) = not (eqb r.0 13) && full_last (q ∷ rest)

pub reached : (l : Row) → full_last l ≡ true → first l ≡ 13 → Reached l
unfolding first
reached [] n e = omega (arith, e)
reached (r ∷ []) n e = go (either r.1)
  where
    go : (r.1 ≡ true) ⊎ (r.1 ≡ false) → r.1 ≡ true
    go (inl t) = t
    go (inr t) = absurd (not_13 (rw t at e))
      where
        not_13 : ◌≡◌ {A = ℕ} 0 13 → ⊥
        not_13 e = omega (arith, e)
reached (r ∷ (q ∷ rest)) n e = go (either r.1) (reached (q ∷ rest) (and_r (not (eqb r.0 13)) _ n))
  where
    go : (r.1 ≡ true) ⊎ (r.1 ≡ false) → (first (q ∷ rest) ≡ 13 → Reached (q ∷ rest)) → (r.1 ≡ false) × Reached (q ∷ rest)
    go (inl t) later = split (eq-eqb r.0 13 (rw t at e)) (not-true _ (and_l (not (eqb r.0 13)) _ n))
    go (inr t) later = (t, later (rw t at e))

pub full_size : (a : Entry) (bag : List Entry) → is_full a bag ≡ true → capacity ≤ length bag
unfolding is_full
full_size a bag f = leb-true capacity (length bag) (and_r (not (is_in a bag)) _ f)

pub full_new : (a : Entry) (bag : List Entry) → is_full a bag ≡ true → is_in a bag ≡ false
unfolding is_full
full_new a bag f = not-true _ (and_l (not (is_in a bag)) (leb capacity (length bag)) f)

module _ (T : Table) (s : State) where
  -- the steps that enter something: where one is answered 13, its entry is new and the bag is full

  pub full_hash : (j p : ℕ) → answer T s (SendHash j p) ≡ 13 → is_full (Hash j p (board_by T s j p)) s.bag ≡ true
  unfolding rule answer
  full_hash j p e = let r = reached (numbered (rule T s (SendHash j p)).refusals) refl e in search

  pub full_back : (j : ℕ) → answer T s (Back j) ≡ 13 → is_full (Backing j (s.to_back j) (board_by T s j (s.to_back j))) s.bag ≡ true
  unfolding rule answer
  full_back j e = let r = reached (numbered (rule T s (Back j)).refusals) refl e in search

  pub full_publish : (n : ℕ) → answer T s (Publish n) ≡ 13 → is_full (board_named s.bag n) s.bag ≡ true
  unfolding rule answer
  full_publish n e = let r = reached (numbered (rule T s (Publish n)).refusals) refl e in search

  pub full_false_hash : (j p B : ℕ) → answer T s (FalseHash j p B) ≡ 13 → is_full (Hash j p B) s.bag ≡ true
  unfolding rule answer
  full_false_hash j p B e = let r = reached (numbered (rule T s (FalseHash j p B)).refusals) refl e in search

  pub full_false_backing : (j p B : ℕ) → answer T s (FalseBacking j p B) ≡ 13 → is_full (Backing j p B) s.bag ≡ true
  unfolding rule answer
  full_false_backing j p B e = let r = reached (numbered (rule T s (FalseBacking j p B)).refusals) refl e in search

  -- no other step has such a test
  pub none_full : (st : Step) → no_full (numbered (rule T s st).refusals) ≡ true → answer T s st ≡ 13 → {A : Type 0} → A
  unfolding answer
  none_full st n e = absurd (never_full_lem (numbered (rule T s st).refusals) n e)
