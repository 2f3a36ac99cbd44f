-- The cleared run in its own entry numbers: translated back and forth, a call does the same.
use Prim.Native.Nat.{ℕ, ◌≤◌, ◌<◌}
use native.Mathlib.Omega.{arith}
use mathlib.Core.Bool.{Bool, true, false, cond, ◌&&◌, not}
use mathlib.Core.List.{List, [], ◌∷◌}
use mathlib.Core.Path.{◌≡◌, refl, sym, ap, ◌∙◌, subst}
use mathlib.Core.Logic.{◌⊎◌, inl, inr}
use lib.Dec.{eqb, ltb}
use lib.ListN.{length, set, get_or-eq_default}
use lib.Seq.{set-set, get_or-set_same}
use borrow.Author.Tests.{ltb-true, ltb-false, le-ltb, not-true}
use Rattle.base.specs.Bytes.{byte_at}
use Rattle.base.proofs.Truth.{either, and_l, and_r}
use Rattle.rules.specs.declared.Entry.{Entry}
use Rattle.rules.specs.declared.Step.TheVariants.{Hear, Publish}
use Rattle.rules.specs.Form.{Call}
use Rattle.rules.specs.Table.{Table}
use Rattle.rules.specs.Bag.{is_in, entry_at, place_in, no_entry}
use Rattle.rules.specs.State.{State}
use Rattle.rules.specs.Form.{formed, read}
use Rattle.rules.specs.Rules.{rule, answer, next, reply, leave}
use Rattle.rules.specs.Run.{Engine, store_from, answers_from}
use Rattle.rules.specs.Follows.{Follows}
use Rattle.rules.specs.Valid.{different}
use Rattle.rules.proofs.Bag.{placed}
use Rattle.rules.proofs.Follows.{store-from}
use Rattle.gains.specs.Gain.{is_op}
use Rattle.growth.specs.Growth.{never_full}
use Rattle.cleared_runs.specs.Cleared.{with_call, clears, uncleared, renumber, translated, cleared_from, Cleared, answer_with}
use Rattle.cleared_runs.specs.Own.{back_number, untranslated, untranslated_from, uncleared_back, AsOwn}
use Rattle.cleared_runs.proofs.Places.{no_more, in_bag, found}
use Rattle.cleared_runs.proofs.Translated.{read_hear, read_publish, set_op, set_hear, set_publish, long}
use Rattle.cleared_runs.proofs.ClearedRun.{to, more, as_before, after_clear, after-other, none-cleared}

-- two calls that do the same on a state
record Same (T : Table) (v : State) (x y : Call) : Type 0 where
  answers : reply T v x ≡ reply T v y
  leaves : leave T v x ≡ leave T v y
  periods : (S : ℕ → Bool) (a : ℕ) → with_call S x a ≡ with_call S y a

module _ (T : Table) (v : State) where
  same_self : (x : Call) → Same T v x x
  same_self x = record { answers = refl; leaves = refl; periods = λ S a. refl }

  -- a hear and a publish ask only which entry is named
  same_hear : (ok : Bool) (j a b : ℕ) → entry_at v.bag a ≡ entry_at v.bag b → Same T v (formed ok (Hear j a)) (formed ok (Hear j b))
  unfolding formed reply leave answer next rule with_call
  same_hear true j a b e = record { answers = rw e; leaves = rw e; periods = λ S a. refl }
  same_hear false j a b e = record { answers = refl; leaves = refl; periods = λ S a. refl }

  same_publish : (ok : Bool) (a b : ℕ) → entry_at v.bag a ≡ entry_at v.bag b → Same T v (formed ok (Publish a)) (formed ok (Publish b))
  unfolding formed reply leave answer next rule with_call
  same_publish true a b e = record { answers = rw e; leaves = rw e; periods = λ S a. refl }
  same_publish false a b e = record { answers = refl; leaves = refl; periods = λ S a. refl }

-- a number back and forth names the same entry
module _ (own all : List Entry) (d : different own ≡ true) (f : (a : Entry) → is_in a own ≡ true → is_in a all ≡ true) where
  back_none : (e : ℕ) → length own ≤ e → entry_at own (renumber all own (length all)) ≡ entry_at own e
  unfolding renumber
  back_none e l =
      rw (le-ltb (length all) (length all) (omega arith))
      (get_or-eq_default own no_entry {n = length all} (no_more own all d f) ∙ sym (get_or-eq_default own no_entry {n = e} l))

  back_forth : (e : ℕ) → entry_at own (renumber all own (back_number own all e)) ≡ entry_at own e
  unfolding back_number
  back_forth e = go (either (ltb e (length own)))
    where
      go : (ltb e (length own) ≡ true) ⊎ (ltb e (length own) ≡ false)
          → entry_at own (renumber all own (cond (ltb e (length own)) (place_in all (entry_at own e)) (length all))) ≡ entry_at own e
      go (inl l) =
          let a = entry_at own e in
          let here = in_bag own e (ltb-true e (length own) l) in
          let there = (placed all a (f a here)).1 in
          rw l (found own all d f (place_in all a) (subst (λ (x : Entry). is_in x own ≡ true) (sym there) here) ∙ there)
      go (inr l) = rw l (back_none e (ltb-false e (length own) l))

-- a number stays a byte
back_byte : (own all : List Entry) → ((a : Entry) → is_in a own ≡ true → is_in a all ≡ true) → (e : ℕ) → length all < 256
    → back_number own all e < 256
unfolding back_number
back_byte own all f e small = go (either (ltb e (length own)))
  where
    go : (ltb e (length own) ≡ true) ⊎ (ltb e (length own) ≡ false)
        → cond (ltb e (length own)) (place_in all (entry_at own e)) (length all) < 256
    go (inl l) = rw l (omega (arith, (placed all (entry_at own e) (f (entry_at own e) (in_bag own e (ltb-true e (length own) l)))).0))
    go (inr l) = rw l small

module _ (T : Table) (u v : State) (d : different v.bag ≡ true) (f : (a : Entry) → is_in a v.bag ≡ true → is_in a u.bag ≡ true)
    (c : List ℕ) where
  abbrev back : ℕ
  back = back_number v.bag u.bag (byte_at c 4)

  abbrev forth : ℕ
  forth = renumber u.bag v.bag back

  abbrev round : List ℕ
  round = translated u.bag v.bag (untranslated v.bag u.bag c)

  entry_same : entry_at v.bag forth ≡ entry_at v.bag (byte_at c 4)
  entry_same = back_forth v.bag u.bag d f (byte_at c 4)

  -- the two translations set one byte
  round_hear : is_op 10 c ≡ true → round ≡ set c 4 forth
  unfolding translated untranslated
  round_hear is =
      rw (is, set_op c back 10, is, get_or-set_same c 4 back 0 (long c 10 is)) (set-set c 4 back forth)

  round_publish : is_op 10 c ≡ false → is_op 12 c ≡ true → round ≡ set c 4 forth
  unfolding translated untranslated
  round_publish not10 is =
      rw (not10, is, set_op c back 10, not10, set_op c back 12, is, get_or-set_same c 4 back 0 (long c 12 is)) (set-set c 4 back forth)

  round_other : is_op 10 c ≡ false → is_op 12 c ≡ false → round ≡ c
  unfolding translated untranslated
  round_other not10 not12 = rw (not10, not12, not10, not12)

  same_call : Same T v (read round) (read c)
  same_call = go (either (is_op 10 c)) (either (is_op 12 c))
    where
      go : (is_op 10 c ≡ true) ⊎ (is_op 10 c ≡ false) → (is_op 12 c ≡ true) ⊎ (is_op 12 c ≡ false) → Same T v (read round) (read c)
      go (inl is) other =
          rw (ap read (round_hear is) ∙ set_hear c forth is, read_hear c is)
          (same_hear T v _ (byte_at c 1) forth (byte_at c 4) entry_same)
      go (inr not10) (inl is) =
          rw (ap read (round_publish not10 is) ∙ set_publish c forth is, read_publish c is)
          (same_publish T v _ forth (byte_at c 4) entry_same)
      go (inr not10) (inr not12) = rw (round_other not10 not12) (same_self T v (read c))

module _ (T : Table) {X : Type 0} (E : Engine X) (Ready : X → Type 0) (F : Follows T E Ready) where
  module _ (S : ℕ → Bool) (u v : X) (R : Ready u) (W : Ready v) (C : Cleared T S (E.holds u) (E.holds v)) (d : List ℕ) where
    abbrev c : List ℕ
    c = untranslated (E.holds v).bag (E.holds u).bag d

    abbrev there : List ℕ
    there = to T E Ready F S u v R W C c

    same : Same T (E.holds v) (read there) (read d)
    same = same_call T (E.holds u) (E.holds v) (F.valid v W).bag.apart C.within d

    same_answer : E.answers v there ≡ E.answers v d
    same_answer = F.answers v W there ∙ same.answers ∙ sym (F.answers v W d)

    same_state : E.holds (E.leaves v there) ≡ E.holds (E.leaves v d)
    same_state = F.leaves v W there ∙ same.leaves ∙ sym (F.leaves v W d)

    moved : (w : State) → Cleared T (more T E Ready F S u v R W C c) w (E.holds (E.leaves v there))
        → Cleared T (with_call S (read d) (E.answers v d)) w (E.holds (E.leaves v d))
    moved w L =
        subst (λ (a : ℕ). Cleared T (with_call S (read d) a) w (E.holds (E.leaves v d))) same_answer
        (subst (λ (z : State). Cleared T (with_call S (read d) (E.answers v there)) w z) same_state
        (subst (λ (P : ℕ → Bool). Cleared T P w (E.holds (E.leaves v there))) (same.periods S (E.answers v there)) L))

    own_answers : eqb (E.answers u c) 13 ≡ false → E.answers v d ≡ answer_with (E.holds u).bag (E.holds v).bag c (E.answers u c)
    own_answers n = sym same_answer ∙ (as_before T E Ready F S u v R W C).answers c n

  own-from : (calls : List (List ℕ)) (S : ℕ → Bool) (u v : X) → Ready u → Ready v → Cleared T S (E.holds u) (E.holds v)
      → never_full (answers_from E u (uncleared (untranslated_from E u v calls))) ≡ true
      → Cleared T (cleared_from E S v calls) (E.holds (store_from E u (uncleared (untranslated_from E u v calls))))
      (E.holds (store_from E v calls))
  unfolding store_from uncleared untranslated_from cleared_from answers_from never_full
  own-from [] S u v R W C n = C
  own-from (d ∷ calls) S u v R W C n = go (either (clears (read b))) (own-from calls)
    where
      b : List ℕ
      b = c S u v R W C d

      go : (clears (read b) ≡ true) ⊎ (clears (read b) ≡ false)
          → ((S : ℕ → Bool) (u v : X) → Ready u → Ready v → Cleared T S (E.holds u) (E.holds v)
          → never_full (answers_from E u (uncleared (untranslated_from E u v calls))) ≡ true
          → Cleared T (cleared_from E S v calls) (E.holds (store_from E u (uncleared (untranslated_from E u v calls))))
          (E.holds (store_from E v calls)))
          → Cleared T (cleared_from E S v (d ∷ calls)) (E.holds (store_from E u (uncleared (untranslated_from E u v (d ∷ calls)))))
          (E.holds (store_from E v (d ∷ calls)))
      go (inl e) later =
          rw e (later (with_call S (read d) (E.answers v d)) u (E.leaves v d) R (F.stays_ready v W d)
          (moved S u v R W C d (E.holds u) (after_clear T E Ready F S u v R W C b e)) (rw e at n))
      go (inr e) later =
          let both : not (eqb (E.answers u b) 13) && never_full
          (answers_from E (E.leaves u b) (uncleared (untranslated_from E (E.leaves u b) (E.leaves v d) calls))) ≡ true = rw e at n in
          rw e (later (with_call S (read d) (E.answers v d)) (E.leaves u b) (E.leaves v d) (F.stays_ready u R b) (F.stays_ready v W d)
          (moved S u v R W C d (E.holds (E.leaves u b))
          (after-other T E Ready F S u v R W C b e (not-true _ (and_l (not (eqb (E.answers u b) 13)) _ both))))
          (and_r (not (eqb (E.answers u b) 13)) _ both))

  -- until the run without clears, of the calls translated back, would have answered full
  pub own-run : (x : X) → Ready x → (calls : List (List ℕ)) → never_full (answers_from E x (uncleared_back E x calls)) ≡ true
      → AsOwn T E (cleared_from E (λ p. false) x calls) (store_from E x (uncleared_back E x calls)) (store_from E x calls)
  own-run x R calls n =
      let P = cleared_from E (λ p. false) x calls in
      let u = store_from E x (uncleared_back E x calls) in
      let v = store_from E x calls in
      let Ru = (store-from F (uncleared_back E x calls) x [] R).0 in
      let Rv = (store-from F calls x [] R).0 in
      let C = own-from calls (λ p. false) x x R R (none-cleared T (E.holds x)) n in
      record {
        before = as_before T E Ready F P u v Ru Rv C;
        answers = λ d. own_answers P u v Ru Rv C d;
        bytes = λ e small. back_byte (E.holds v).bag (E.holds u).bag C.within e small;
      }
