-- An entry is in the bag of the cleared run exactly if it is in that of the run without clears and not gone.
use Prim.Native.Nat.{ℕ}
use mathlib.Core.Bool.{Bool, true, false, cond, ◌&&◌, ◌||◌, not}
use mathlib.Core.List.{List, [], ◌∷◌}
use mathlib.Core.Path.{◌≡◌, refl, sym, ◌∙◌, subst}
use mathlib.Core.Logic.{◌⊎◌, inl, inr}
use lib.Dec.{eqb}
use borrow.Author.Tests.{eqb-true, not-true}
use Rattle.base.proofs.Truth.{split, true_false, false_true, either, is_false, and_l, and_r, or_cases}
use Rattle.rules.specs.declared.Entry.{Entry}
use Rattle.rules.specs.declared.Entry.TheVariants.{Hash, Backing, Board}
use Rattle.rules.specs.declared.Step.{Step}
use Rattle.rules.specs.declared.Step.TheVariants.{SendHash, Hear, Back, Publish, FalseHash, FalseBacking, ClearHashes}
use Rattle.rules.specs.Form.{Call}
use Rattle.std.specs.Prelude.{Some, None}
use Rattle.rules.specs.Table.{Table}
use Rattle.rules.specs.Bag.{same_entry, is_in, is_hash, is_backing, entry_at, no_entry, period_of, board_of, enter, is_hash_of, without_hashes}
use Rattle.rules.specs.State.{State}
use Rattle.rules.specs.Form.{read}
use Rattle.rules.specs.Rules.{rule, answer, next, reply, leave, board_by}
use Rattle.rules.specs.Run.{Engine, store_from, answers_from}
use Rattle.rules.specs.Follows.{Follows}
use Rattle.rules.specs.Valid.{Valid}
use Rattle.rules.proofs.Answered.{Clear, answered, judged, by_step}
use Rattle.rules.proofs.Each.{each}
use Rattle.rules.proofs.Bag.{eq_of_same, in_enter, in_without}
use Rattle.growth.specs.Growth.{never_full}
use Rattle.cleared_runs.specs.Cleared.{is_clear, clears, uncleared, renumber, translated, translated_from, without_clears, with_clears, Cleared}
use Rattle.cleared_runs.specs.Gone.{gone_with, gone_call, gone_from, gone_after, Exactly}
use Rattle.cleared_runs.proofs.Places.{found, lacking}
use Rattle.cleared_runs.proofs.Translated.{clear_same, renumbered, hearing, renumbered_call, reads}
use Rattle.cleared_runs.proofs.Kept.{rid, kept}
use Rattle.cleared_runs.proofs.ClearedRun.{to, more, after_clear, after-other, none-cleared}

-- what each change of the bag does

hash_of : (q : ℕ) (a : Entry) → is_hash_of q a ≡ true → is_hash a ≡ true
hash_of q (Hash k p B) e = refl
hash_of q (Backing k p B) e = e
hash_of q (Board p B) e = e

module _ (gone : Entry → Bool) (all own : List Entry) (I : Exactly gone all own) where
  entered-other : (x : Entry) → is_hash x ≡ false → Exactly gone (enter x all) (enter x own)
  entered-other x n = record { only = I.only; exact = λ a. go a (either (same_entry a x)) }
    where
      go : (a : Entry) → (same_entry a x ≡ true) ⊎ (same_entry a x ≡ false) → is_in a (enter x own) ≡ (is_in a (enter x all) && not (gone a))
      go a (inl m) =
          let stays : gone a ≡ false = is_false _ (λ g. split (subst (λ (z : Entry). is_hash z ≡ true) (eq_of_same a x m) (I.only a g)) n)
          in
          rw (in_enter a x own, in_enter a x all, m, stays)
      go a (inr m) = rw (in_enter a x own, in_enter a x all, m) (I.exact a)

  entered_hash : (x : Entry) → Exactly (λ a. not (same_entry a x) && gone a) (enter x all) (enter x own)
  entered_hash x = record { only = λ a g. I.only a (and_r (not (same_entry a x)) _ g); exact = λ a. go a (either (same_entry a x)) }
    where
      go : (a : Entry) → (same_entry a x ≡ true) ⊎ (same_entry a x ≡ false)
          → is_in a (enter x own) ≡ (is_in a (enter x all) && not (not (same_entry a x) && gone a))
      go a (inl m) = rw (in_enter a x own, in_enter a x all, m)
      go a (inr m) = rw (in_enter a x own, in_enter a x all, m) (I.exact a)

  without : (q : ℕ) → Exactly (λ a. is_hash_of q a || gone a) all (without_hashes q own)
  without q = record { only = λ a g. of a (or_cases (is_hash_of q a) (gone a) g); exact = λ a. go a (either (is_hash_of q a)) }
    where
      of : (a : Entry) → (is_hash_of q a ≡ true) ⊎ (gone a ≡ true) → is_hash a ≡ true
      of a (inl h) = hash_of q a h
      of a (inr g) = I.only a g

      none : (x : Bool) → false ≡ (x && false)
      none true = refl
      none false = refl

      go : (a : Entry) → (is_hash_of q a ≡ true) ⊎ (is_hash_of q a ≡ false)
          → is_in a (without_hashes q own) ≡ (is_in a all && not (is_hash_of q a || gone a))
      go a (inl h) = in_without q a own ∙ rw h (none (is_in a all))
      go a (inr h) = in_without q a own ∙ rw h (I.exact a)

no_backing : is_backing no_entry ≡ true → {A : Type 0} → A
no_backing e = false_true e

module _ (T : Table) (S : ℕ → Bool) (gone : Entry → Bool) where
  module _ (u : State) (b : List Entry) (h : ℕ → ℕ → ℕ → ℕ → Bool) (L : Cleared T S u (rid u b h)) (G : Valid T u) (H : Valid T (rid u b h))
      (I : Exactly gone u.bag b) where
    abbrev v : State
    v = rid u b h

    abbrev tr : Step → Step
    tr st = renumbered u.bag b st

    abbrev After : Step → Type 0
    After st = Exactly (cond (eqb (answer T v (tr st)) 0) (gone_with T v (tr st) gone) gone) (next T u st).bag (next T v (tr st)).bag

    -- a step that both answer alike
    plain : (st : Step) → eqb (answer T u st) 13 ≡ false → hearing u.bag b st ≡ false
        → (Clear T u st → Clear T v (tr st)
        → Exactly (gone_with T v (tr st) gone) (rule T u st).effect.bag (rule T v (tr st)).effect.bag)
        → After st
    unfolding next
    plain st n quiet f = go (either (eqb (answer T u st) 0))
      where
        same : answer T v (tr st) ≡ answer T u st
        same = (kept T S u b h L G H st n).answers ∙ rw quiet

        go : (eqb (answer T u st) 0 ≡ true) ⊎ (eqb (answer T u st) 0 ≡ false) → After st
        go (inl e) = let zero = eqb-true (answer T u st) 0 e in rw (same, e) (f (answered T u st zero) (answered T v (tr st) (same ∙ zero)))
        go (inr e) = rw (same, e) I

    -- a hear leaves the bag, taken or refused
    hear_bag : (s : State) (j e : ℕ) → (next T s (Hear j e)).bag ≡ s.bag
    unfolding rule
    hear_bag s j e = by_step T (λ z. z.bag ≡ s.bag) s refl (Hear j e) (λ z c. refl)

    either_way : (x : Bool) (g : Entry → Bool) → cond x g g ≡ g
    either_way true g = refl
    either_way false g = refl

    heard : (j e : ℕ) → After (Hear j e)
    unfolding renumbered gone_with
    heard j e = rw (
      hear_bag u j e,
      hear_bag v j (renumber u.bag b e),
      either_way (eqb (answer T v (Hear j (renumber u.bag b e))) 0)
          gone,
    ) I

    -- a publish names the same backing
    published : (e : ℕ) → Clear T v (Publish (renumber u.bag b e))
        → Exactly gone (rule T u (Publish e)).effect.bag (rule T v (Publish (renumber u.bag b e))).effect.bag
    unfolding rule
    published e c = go (either (is_in (entry_at u.bag e) b))
      where
        to_e : ℕ
        to_e = renumber u.bag b e

        backing : is_backing (entry_at b to_e) ≡ true
        backing = search judged

        go : (is_in (entry_at u.bag e) b ≡ true) ⊎ (is_in (entry_at u.bag e) b ≡ false)
            → Exactly gone (enter (Board (period_of (entry_at u.bag e)) (board_of (entry_at u.bag e))) u.bag)
            (enter (Board (period_of (entry_at b to_e)) (board_of (entry_at b to_e))) b)
        go (inl m) = rw (found b u.bag H.bag.apart L.within e m) (entered-other gone u.bag b I _ refl)
        go (inr m) = no_backing (subst (λ (z : Entry). is_backing z ≡ true) (lacking b u.bag H.bag.apart L.within e m) backing)

    -- each step but a clear
    abbrev ExactBy : Step → Type 0
    ExactBy st = eqb (answer T u st) 13 ≡ false → is_clear st ≡ false → After st

    untouched : (st : Step) → hearing u.bag b st ≡ false
        → Exactly (gone_with T v (tr st) gone) (rule T u st).effect.bag (rule T v (tr st)).effect.bag → ExactBy st
    untouched st quiet J n o = plain st n quiet (λ c d. J)

    exact_hash : (j p : ℕ) → ExactBy (SendHash j p)
    unfolding renumbered rule gone_with
    exact_hash j p n o = plain (SendHash j p) n refl (λ c d. entered_hash gone u.bag b I (Hash j p (board_by T u j p)))

    exact_false_hash : (j p B : ℕ) → ExactBy (FalseHash j p B)
    unfolding renumbered rule gone_with
    exact_false_hash j p B n o = plain (FalseHash j p B) n refl (λ c d. entered_hash gone u.bag b I (Hash j p B))

    exact_false_backing : (j p B : ℕ) → ExactBy (FalseBacking j p B)
    unfolding renumbered rule gone_with
    exact_false_backing j p B n o = plain (FalseBacking j p B) n refl (λ c d. entered-other gone u.bag b I (Backing j p B) refl)

    exact_back : (j : ℕ) → ExactBy (Back j)
    unfolding renumbered rule gone_with
    exact_back j n o = plain (Back j) n refl
        (λ c d. entered-other gone u.bag b I (Backing j (u.to_back j) (board_by T u j (u.to_back j))) refl)

    exact_publish : (e : ℕ) → ExactBy (Publish e)
    unfolding renumbered gone_with
    exact_publish e n o = plain (Publish e) n refl (λ c d. published e d)

    exact_hear : (j e : ℕ) → ExactBy (Hear j e)
    exact_hear j e n o = heard j e

    exact_clear : (q : ℕ) → ExactBy (ClearHashes q)
    exact_clear q n o = true_false o

    exact_step : (st : Step) → ExactBy st
    unfolding renumbered rule gone_with
    exact_step = each ExactBy
        (search (untouched, exact_hash, exact_false_hash, exact_false_backing, exact_back, exact_publish, exact_hear, exact_clear, I))

    -- a clear, which the run without clears does not get
    abbrev ClearedBy : Step → Type 0
    ClearedBy st = is_clear (tr st) ≡ true
        → Exactly (cond (eqb (answer T v (tr st)) 0) (gone_with T v (tr st) gone) gone) u.bag (next T v (tr st)).bag

    no_clear : (st : Step) → is_clear (tr st) ≡ false → ClearedBy st
    no_clear st n o = split o n

    clear_exactly : (q : ℕ) → ClearedBy (ClearHashes q)
    unfolding renumbered rule gone_with next
    clear_exactly q o = go (eqb (answer T v (ClearHashes q)) 0)
      where
        go : (x : Bool) → Exactly (cond x (λ a. is_hash_of q a || gone a) gone) u.bag (cond x (rule T v (ClearHashes q)).effect v).bag
        go true = without gone u.bag b I q
        go false = I

    clear_step : (st : Step) → ClearedBy st
    unfolding renumbered
    clear_step = each ClearedBy (search (no_clear, clear_exactly))

    module _ (c : List ℕ) where
      abbrev d : List ℕ
      d = translated u.bag b c

      exact_rid : eqb (reply T u (read c)) 13 ≡ false → clears (read c) ≡ false
          → Exactly (gone_call T v (read d) (reply T v (read d)) gone) (leave T u (read c)).bag (leave T v (read d)).bag
      unfolding clears reply leave renumbered_call gone_call
      exact_rid n o = go (read c) refl n o
        where
          go : (x : Call) → read c ≡ x → eqb (reply T u x) 13 ≡ false → clears x ≡ false
              → Exactly (gone_call T v (read d) (reply T v (read d)) gone) (leave T u (read c)).bag (leave T v (read d)).bag
          go (Some st) q n o = rw (reads u.bag b c, q) (exact_step st n o)
          go None q n o = rw (reads u.bag b c, q) I

      clear_rid : clears (read c) ≡ true
          → Exactly (gone_call T v (read d) (reply T v (read d)) gone) u.bag (leave T v (read d)).bag
      unfolding clears reply leave renumbered_call gone_call
      clear_rid o = go (read c) refl o
        where
          go : (x : Call) → read c ≡ x → clears x ≡ true
              → Exactly (gone_call T v (read d) (reply T v (read d)) gone) u.bag (leave T v (read d)).bag
          go (Some st) q o = rw (reads u.bag b c, q) (clear_step st (clear_same u.bag b st ∙ o))
          go None q o = false_true o

  module _ (u v : State) (C : Cleared T S u v) (G : Valid T u) (H : Valid T v) (I : Exactly gone u.bag v.bag) (c : List ℕ) where
    exact_call : eqb (reply T u (read c)) 13 ≡ false → clears (read c) ≡ false → let d = translated u.bag v.bag c in
        Exactly (gone_call T v (read d) (reply T v (read d)) gone) (leave T u (read c)).bag (leave T v (read d)).bag
    exact_call n o = subst
        (λ (w : State). Cleared T S u w → Valid T w → Exactly gone u.bag w.bag → let d = translated u.bag w.bag c in
        Exactly (gone_call T w (read d) (reply T w (read d)) gone) (leave T u (read c)).bag (leave T w (read d)).bag)
        (sym C.rest) (λ L H I. exact_rid u v.bag v.heard L G H I c n o) C H I

    clear_exact : clears (read c) ≡ true → let d = translated u.bag v.bag c in
        Exactly (gone_call T v (read d) (reply T v (read d)) gone) u.bag (leave T v (read d)).bag
    clear_exact o = subst
        (λ (w : State). Cleared T S u w → Valid T w → Exactly gone u.bag w.bag → let d = translated u.bag w.bag c in
        Exactly (gone_call T w (read d) (reply T w (read d)) gone) u.bag (leave T w (read d)).bag)
        (sym C.rest) (λ L H I. clear_rid u v.bag v.heard L G H I c o) C H I

module _ (T : Table) {X : Type 0} (E : Engine X) (Ready : X → Type 0) (F : Follows T E Ready) where
  gone_from_lem : (calls : List (List ℕ)) (S : ℕ → Bool) (gone : Entry → Bool) (u v : X) → Ready u → Ready v
      → Cleared T S (E.holds u) (E.holds v) → Exactly gone (E.holds u).bag (E.holds v).bag
      → never_full (answers_from E u (uncleared calls)) ≡ true
      → Exactly (gone_from T E gone v (translated_from E u v calls)) (E.holds (store_from E u (uncleared calls))).bag
      (E.holds (store_from E v (translated_from E u v calls))).bag
  unfolding store_from uncleared translated_from gone_from answers_from never_full
  gone_from_lem [] S gone u v R W C I n = I
  gone_from_lem (c ∷ calls) S gone u v R W C I n = go (either (clears (read c))) (gone_from_lem calls)
    where
      d : List ℕ
      d = to T E Ready F S u v R W C c

      left : E.holds (E.leaves v d) ≡ leave T (E.holds v) (read d)
      left = F.leaves v W d

      said : E.answers v d ≡ reply T (E.holds v) (read d)
      said = F.answers v W d

      go : (clears (read c) ≡ true) ⊎ (clears (read c) ≡ false)
          → ((S : ℕ → Bool) (gone : Entry → Bool) (u v : X) → Ready u → Ready v → Cleared T S (E.holds u) (E.holds v)
          → Exactly gone (E.holds u).bag (E.holds v).bag → never_full (answers_from E u (uncleared calls)) ≡ true
          → Exactly (gone_from T E gone v (translated_from E u v calls)) (E.holds (store_from E u (uncleared calls))).bag
          (E.holds (store_from E v (translated_from E u v calls))).bag)
          → Exactly (gone_from T E gone v (translated_from E u v (c ∷ calls))) (E.holds (store_from E u (uncleared (c ∷ calls)))).bag
          (E.holds (store_from E v (translated_from E u v (c ∷ calls)))).bag
      go (inl e) later =
          rw e (later (more T E Ready F S u v R W C c) (gone_call T (E.holds v) (read d) (E.answers v d) gone) u (E.leaves v d) R
          (F.stays_ready v W d)
          (after_clear T E Ready F S u v R W C c e)
          (rw (left, said) (clear_exact T S gone (E.holds u) (E.holds v) C (F.valid u R) (F.valid v W) I c e)) (rw e at n))
      go (inr e) later =
          let both : not (eqb (E.answers u c) 13) && never_full (answers_from E (E.leaves u c) (uncleared calls)) ≡ true = rw e at n in
          let here = not-true _ (and_l (not (eqb (E.answers u c) 13)) _ both) in
          rw e (later (more T E Ready F S u v R W C c) (gone_call T (E.holds v) (read d) (E.answers v d) gone) (E.leaves u c)
          (E.leaves v d)
          (F.stays_ready u R c) (F.stays_ready v W d)
          (after-other T E Ready F S u v R W C c e here)
          (rw (F.leaves u R c, left, said)
          (exact_call T S gone (E.holds u) (E.holds v) C (F.valid u R) (F.valid v W) I c (rw (← F.answers u R c) here) e))
          (and_r (not (eqb (E.answers u c) 13)) _ both))

  pub gone_run : (x : X) → Ready x → (calls : List (List ℕ)) → never_full (answers_from E x (uncleared calls)) ≡ true
      → Exactly (gone_after T E x calls) (E.holds (without_clears E x calls)).bag (E.holds (with_clears E x calls)).bag
  gone_run x R calls n =
      gone_from_lem calls (λ p. false) (λ a. false) x x R R (none-cleared T (E.holds x))
      (record { only = λ a g. false_true g; exact = λ a. sym (whole (is_in a (E.holds x).bag)) }) n
    where
      whole : (y : Bool) → (y && true) ≡ y
      whole true = refl
      whole false = refl
