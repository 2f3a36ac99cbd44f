-- What a step does to good contents is what the rules say.
use Prim.Native.Nat.{ℕ, zero, suc, ◌<◌}
use native.Mathlib.Omega.{arith}
use mathlib.Core.Bool.{Bool, true, false, cond, ◌&&◌, ◌||◌}
use mathlib.Core.List.{List, [], ◌∷◌, ◌++◌}
use mathlib.Core.Path.{◌≡◌, refl, ap, ◌∙◌, fun_ext}
use mathlib.Core.Logic.{◌⊎◌, inl, inr}
use lib.Dec.{eqb}
use lib.ListN.{length}
use Rattle.base.specs.Sets.{add1, add2, add3, add4, set_at}
use Rattle.base.proofs.Truth.{false_true, either, is_false}
use Rattle.rules.specs.declared.Entry.{Entry}
use Rattle.rules.specs.declared.Entry.TheVariants.{Hash, Backing, Board}
use Rattle.rules.specs.declared.Step.{Step}
use Rattle.rules.specs.declared.Step.TheVariants.{Post, Hand, Sign, Take, Share, Receipt, Close, Fetch, SendHash, Hear, Back, Publish, FalseSignature, FalseShare, FalseHash, FalseBacking, Down, Up, ClearHashes}
use Rattle.rules.specs.Table.{Table}
use Rattle.rules.specs.Bag.{same_entry, is_in, entry_at, is_hash, signer_of, period_of, board_of, enter}
use Rattle.rules.specs.State.{with_bag_lem, with_down_lem, with_heard, with_to_back_lem}
use Rattle.rules.specs.Rules.{rule, add_rows}
use Rattle.rules.proofs.Answered.{Clear, judged}
use Rattle.state.specs.declared.Fact.TheVariants.{Heard}
use Rattle.state.specs.declared.Number.TheVariants.{ToBackOf, DownOf}
use Rattle.state.specs.Contents.{Contents, adding, insert, store, with_entry, enter_on}
use Rattle.state.specs.Sets.{known_to}
use Rattle.state.specs.Sets.{fetched}
use Rattle.view.specs.View.{told, state_of}
use Rattle.view.specs.Effect.{effect_on}
use Rattle.view.specs.Good.{Sound}
use Rattle.view.proofs.Told.{told_hear, told_new}
use Rattle.view.proofs.Cleared.{clear_meets}

-- a hash entry has a number below the bag's length
pub hash_below : (l : List Entry) (e : ℕ) → is_hash (entry_at l e) ≡ true → e < length l
hash_below [] e h = false_true h
hash_below (a ∷ l) zero h = omega arith
hash_below (a ∷ l) (suc e) h = omega (arith, hash_below l e h)

module _ (c : Contents) (S : Sound c) where
  -- nobody has heard the entry that comes next
  unheard : (j : ℕ) → c.has (Heard j (length c.bag)) ≡ false
  unheard j = is_false _ (λ h. let below = hash_below c.bag (length c.bag) (S.hears j (length c.bag) h) in omega arith)

  heard_still : (e : Entry) → (state_of (with_entry e c)).heard ≡ (state_of c).heard
  unfolding with_entry
  heard_still e =
      fun_ext (λ j. fun_ext (λ k. fun_ext (λ p. fun_ext (λ B. told_new (λ a. c.has (Heard j a)) c.bag e k p B (unheard j)))))

  enter_meets : (e : Entry) → state_of (enter_on e c) ≡ with_bag_lem (state_of c) (enter e c.bag)
  unfolding enter_on enter with_entry
  enter_meets e = go (either (is_in e c.bag))
    where
      go : (is_in e c.bag ≡ true) ⊎ (is_in e c.bag ≡ false)
          → state_of (cond (is_in e c.bag) c (with_entry e c)) ≡ with_bag_lem (state_of c) (cond (is_in e c.bag) c.bag (c.bag ++ (e ∷ [])))
      go (inl t) = rw t
      go (inr f) = rw f (ap (with_heard (with_bag_lem (state_of c) (c.bag ++ (e ∷ [])))) (heard_still e))

  back_meets : (j v : ℕ) (e : Entry)
      → state_of (store (ToBackOf j) v (enter_on e c)) ≡ with_to_back_lem (with_bag_lem (state_of c) (enter e c.bag)) (set_at j v (state_of c).to_back)
  unfolding store set_at
  back_meets j v e = λ i. with_to_back_lem (enter_meets e i) (λ k. cond (eqb k j) v ((enter_meets e i).to_back k))

  -- the entry heard is the hash that it is
  as_hash : (a : Entry) (b : Bool) (k p B : ℕ) → is_hash a ≡ true
      → (b && same_entry (Hash k p B) a) ≡ (b && (eqb k (signer_of a) && (eqb p (period_of a) && eqb B (board_of a))))
  unfolding same_entry
  as_hash (Hash l q C) b k p B h = refl
  as_hash (Backing l q C) b k p B h = false_true h
  as_hash (Board q C) b k p B h = false_true h

  told_if : (b : Bool) (H : ℕ → Bool) (e k p B : ℕ)
      → told (λ a. (b && eqb a e) || H a) 0 c.bag k p B ≡ ((b && same_entry (Hash k p B) (entry_at c.bag e)) || told H 0 c.bag k p B)
  unfolding add1
  told_if true H e k p B = told_hear H e c.bag k p B
  told_if false H e k p B = refl

  hear_meets : (j e : ℕ) → is_hash (entry_at c.bag e) ≡ true
      → state_of (insert (Heard j e) c) ≡ with_heard (state_of c)
      (add4 j (signer_of (entry_at c.bag e)) (period_of (entry_at c.bag e)) (board_of (entry_at c.bag e)) (state_of c).heard)
  unfolding insert adding add4
  hear_meets j e h = ap (with_heard (state_of c)) (fun_ext (λ l. fun_ext (λ k. fun_ext (λ p. fun_ext (λ B.
      told_if (eqb l j) (λ a. c.has (Heard l a)) e k p B
      ∙ ap (λ (b : Bool). b || told (λ a. c.has (Heard l a)) 0 c.bag k p B) (as_hash (entry_at c.bag e) (eqb l j) k p B h))))))

  flag : (b : Bool) (v x : ℕ) → eqb (cond b v x) 1 ≡ cond b (eqb v 1) (eqb x 1)
  flag true v x = refl
  flag false v x = refl

  down_meets : (j v : ℕ) → state_of (store (DownOf j) v c) ≡ with_down_lem (state_of c) (set_at j (eqb v 1) (state_of c).down)
  unfolding store set_at
  down_meets j v = ap (with_down_lem (state_of c)) (fun_ext (λ k. flag (eqb k j) v (c.number (DownOf k))))

  pub meets : (T : Table) (st : Step) → Clear T (state_of c) st → state_of (effect_on T c st) ≡ (rule T (state_of c) st).effect
  unfolding effect_on rule insert adding store fetched known_to add_rows add1 add2 add3 add4 set_at
  meets T (Post x) h = refl
  meets T (Hand j x) h = refl
  meets T (Sign j x) h = refl
  meets T (Take j k p x) h = refl
  meets T (Share j x) h = refl
  meets T (Receipt p x) h = refl
  meets T (Close j) h = refl
  meets T (Fetch j k p) h = refl
  meets T (SendHash j p) h = enter_meets _
  meets T (Hear j e) h = hear_meets j e (search judged)
  meets T (Back j) h = back_meets j _ _
  meets T (Publish e) h = enter_meets _
  meets T (FalseSignature j p x) h = refl
  meets T (FalseShare j p x) h = refl
  meets T (FalseHash j p B) h = enter_meets _
  meets T (FalseBacking j p B) h = enter_meets _
  meets T (Down j) h = down_meets j 1
  meets T (Up j) h = down_meets j 0
  meets T (ClearHashes p) h = clear_meets c p
