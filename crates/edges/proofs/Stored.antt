-- What a step does is there after it.
use Prim.Native.Nat.{ℕ, zero, suc, ◌+◌}
use mathlib.Core.Bool.{Bool, true, false}
use mathlib.Core.List.{List, [], ◌∷◌, ◌++◌}
use mathlib.Core.Path.{◌≡◌, refl, subst, ◌∙◌}
use Rattle.base.proofs.Truth.{false_true, eqb_self}
use Rattle.base.proofs.Sets.{new1, new2, new3, new4, at_set}
use Rattle.rules.specs.declared.Entry.{Entry}
use Rattle.rules.specs.declared.Entry.TheVariants.{Hash, Backing}
use Rattle.rules.specs.declared.Step.{Step}
use Rattle.rules.specs.declared.Step.TheVariants.{Post, Hand, Sign, Take, Share, Receipt, Close, Fetch, SendHash, Hear, Back, Publish, FalseSignature, FalseShare, FalseHash, FalseBacking, Down, Up, ClearHashes}
use Rattle.rules.specs.Table.{Table}
use Rattle.rules.specs.Bag.{is_in, is_backing, entry_at, enter, unheard}
use Rattle.rules.specs.State.{State}
use Rattle.rules.specs.Rules.{rule, answer, next, add_rows}
use Rattle.rules.specs.Repeat.{There}
use Rattle.rules.proofs.Answered.{Clear, answered, done, judged}
use Rattle.rules.proofs.Rows.{rows_new, rows_grow}
use Rattle.rules.proofs.Bag.{entered, enter_cases, in_without}
use Rattle.edges.specs.Exact.{own_board}

-- the backings in a bag keep their numbers
stays_appended : (bag : List Entry) (a : Entry) (e : ℕ) → is_backing (entry_at bag e) ≡ true → entry_at (bag ++ (a ∷ [])) e ≡ entry_at bag e
stays_appended [] a e h = false_true h
stays_appended (b ∷ bag) a zero h = refl
stays_appended (b ∷ bag) a (suc e) h = stays_appended bag a e h

entry_stays : (bag : List Entry) (a : Entry) (e : ℕ) → is_backing (entry_at bag e) ≡ true → entry_at (enter a bag) e ≡ entry_at bag e
entry_stays bag a e h = enter_cases (λ l. entry_at l e ≡ entry_at bag e) a bag (λ i. refl) (λ i. stays_appended bag a e h)

-- a database that has fetched another has what that one has
module _ (j k p : ℕ) (db : ℕ → ℕ → ℕ → ℕ → Bool) where
  fetched : (x l : ℕ) → add_rows j p (db k p) db k p x l ≡ true → add_rows j p (db k p) db j p x l ≡ true
  fetched x l h = rows_grow j p (db k p) db {P = λ i q y m. i ≡ k → q ≡ p → add_rows j p (db k p) db j p y m ≡ true}
      (λ y m r u v. rows_new j p (db k p) db y m r)
      (λ i q y m d u v. rows_new j p (db k p) db y m
      (subst (λ (q : ℕ). db k q y m ≡ true) v (subst (λ (i : ℕ). db i q y m ≡ true) u d))) k p x l h refl refl

module _ (T : Table) (s : State) where
  effect_there : (st : Step) → ((j : ℕ) → st ≡ Close j → ⊥) → ((j : ℕ) → st ≡ Back j → ⊥) → Clear T s st → There T (rule T s st).effect st
  unfolding rule unheard
  effect_there (Post x) n m c = new1 x s.posted
  effect_there (Hand j x) n m c = new3 j (s.current j) x s.held
  effect_there (Sign j x) n m c = (new3 j (s.current j) x s.signed, new4 j (s.current j) x j s.db)
  effect_there (Take j k p x) n m c = new4 j p x k s.db
  effect_there (Share j x) n m c = new3 j (s.current j) x s.shared
  effect_there (Receipt p x) n m c = new2 p x s.receipted
  effect_there (Close j) n m c = absurd (n j refl)
  effect_there (Fetch j k p) n m c = fetched j k p s.db
  effect_there (SendHash j p) n m c = entered _ s.bag
  effect_there (Hear j e) n m c = new4 j _ _ _ s.heard
  effect_there (Back j) n m c = absurd (m j refl)
  effect_there (Publish e) n m c = rw (entry_stays s.bag _ e (search judged)) (entered _ s.bag)
  effect_there (FalseSignature j p x) n m c = new3 j p x s.signed
  effect_there (FalseShare j p x) n m c = new3 j p x s.shared
  effect_there (FalseHash j p B) n m c = entered _ s.bag
  effect_there (FalseBacking j p B) n m c = entered _ s.bag
  effect_there (Down j) n m c = at_set j true s.down
  effect_there (Up j) n m c = at_set j false s.down
  effect_there (ClearHashes p) n m c = (λ k B. in_without p (Hash k p B) s.bag ∙ rw (eqb_self p), λ j k B. rw (eqb_self p))

  pub stored : (st : Step) → ((j : ℕ) → st ≡ Close j → ⊥) → ((j : ℕ) → st ≡ Back j → ⊥) → answer T s st ≡ 0 → There T (next T s st) st
  stored st n m taken = rw (done T s st taken) (effect_there st n m (answered T s st taken))

  pub closes : (j : ℕ) → answer T s (Close j) ≡ 0 → (next T s (Close j)).current j ≡ s.current j + 1
  unfolding rule
  closes j taken = rw (done T s (Close j) taken) (at_set j (s.current j + 1) s.current)

  pub backs : (j : ℕ) → answer T s (Back j) ≡ 0
      → let u = next T s (Back j) in (u.to_back j ≡ s.to_back j + 1) × (is_in (Backing j (s.to_back j) (own_board T s j)) u.bag ≡ true)
  unfolding rule
  backs j taken = rw (done T s (Back j) taken) (at_set j (s.to_back j + 1) s.to_back, entered _ s.bag)
