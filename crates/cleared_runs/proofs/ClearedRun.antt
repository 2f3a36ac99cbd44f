-- Clears change no later answer, until the run without them would have answered full: of every engine that follows the
-- rules, from any ready store, with no premise on honesty.
use Prim.Native.Nat.{ℕ}
use mathlib.Core.Bool.{Bool, true, false, ◌&&◌, not, and-false}
use mathlib.Core.List.{List, [], ◌∷◌, ◌++◌}
use mathlib.Core.Path.{◌≡◌, refl, sym, ap, ◌∙◌, subst}
use mathlib.Core.Logic.{◌⊎◌, inl, inr}
use lib.Dec.{eqb}
use borrow.Author.Tests.{not-true}
use Rattle.base.proofs.Truth.{split, false_true, either, and_l, and_r}
use Rattle.rules.specs.declared.Entry.{Entry}
use Rattle.rules.specs.declared.Step.{Step}
use Rattle.rules.specs.declared.Step.TheVariants.{SendHash, FalseHash}
use Rattle.rules.specs.Form.{Call}
use Rattle.std.specs.Prelude.{Some, None}
use Rattle.rules.specs.Table.{Table}
use Rattle.rules.specs.Bag.{is_in, enter}
use Rattle.rules.specs.State.{State, with_bag_lem}
use Rattle.rules.specs.Form.{read}
use Rattle.rules.specs.Rules.{rule, answer, next, reply, leave}
use Rattle.rules.specs.Run.{Engine, store_from, answers_from}
use Rattle.rules.specs.Valid.{Valid}
use Rattle.rules.specs.Follows.{Follows}
use Rattle.rules.proofs.Follows.{store-from}
use Rattle.growth.specs.Growth.{never_full}
use Rattle.cleared_runs.specs.Cleared.{with_call, clears, uncleared, translated, translated_from, cleared_from}
use Rattle.cleared_runs.specs.Cleared.{periods_cleared, without_clears, with_clears, Cleared, hears_gone, answer_with, Sends, own, falsely, AsBefore}
use Rattle.cleared_runs.proofs.Places.{still_byte}
use Rattle.cleared_runs.proofs.Translated.{clear_same, renumbered, renumbered_call, gone_said, reads}
use Rattle.cleared_runs.proofs.Kept.{rid, kept}
use Rattle.cleared_runs.proofs.Removed.{removed}

-- a call that is no clear clears no period
no_period_lem : (from to : List Entry) (S : ℕ → Bool) (c : List ℕ) → clears (read c) ≡ false → (a : ℕ)
    → with_call S (read (translated from to c)) a ≡ S
unfolding clears with_call renumbered_call
no_period_lem from to S c o a = go (read c) refl o
  where
    go : (x : Call) → read c ≡ x → clears x ≡ false → with_call S (read (translated from to c)) a ≡ S
    go (Some st) q o = rw (reads from to c, q, clear_same from to st, o)
    go None q o = rw (reads from to c, q)

module _ (T : Table) where
  module _ (S : ℕ → Bool) where
    -- one call, where u is the state without clears and v the one with them
    pub record KeptCall (u v : State) (c : List ℕ) : Type 0 where
      pub answers : reply T v (read (translated u.bag v.bag c)) ≡ answer_with u.bag v.bag c (reply T u (read c))
      pub states : clears (read c) ≡ false → Cleared T S (leave T u (read c)) (leave T v (read (translated u.bag v.bag c)))

    module _ (u : State) (b : List Entry) (h : ℕ → ℕ → ℕ → ℕ → Bool) (L : Cleared T S u (rid u b h)) (G : Valid T u)
        (H : Valid T (rid u b h)) (c : List ℕ) where
      -- what the translated call is read as
      said : read (translated u.bag b c) ≡ renumbered_call u.bag b (read c)
      said = reads u.bag b c

      rid_call : eqb (reply T u (read c)) 13 ≡ false → KeptCall u (rid u b h) c
      unfolding clears reply leave renumbered_call answer_with
      rid_call n = go (read c) refl n
        where
          go : (x : Call) → read c ≡ x → eqb (reply T u x) 13 ≡ false → KeptCall u (rid u b h) c
          go (Some st) q n = let K = kept T S u b h L G H st n in record
              { answers = rw (said, q, gone_said u.bag b c st q) K.answers; states = rw (said, q) K.states }
          go None q n = record { answers = rw (said, q, and-false (hears_gone u.bag b c)); states = rw (said, q) (λ o. L) }

      -- a hash that the bag lacks joins its end
      joins : (st : Step) (a : Entry) → (rule T (rid u b h) st).effect ≡ with_bag_lem (rid u b h) (enter a b) → answer T (rid u b h) st ≡ 0
          → is_in a b ≡ false → (next T (rid u b h) st).bag ≡ b ++ (a ∷ [])
      unfolding next enter
      joins st a effect zero m = rw (zero, effect, m)

      rid_again : (a : Entry) → Sends T u (read c) a → reply T u (read c) ≡ 0 → is_in a b ≡ false
          → (reply T (rid u b h) (read (translated u.bag b c)) ≡ 0) ×
          ((leave T (rid u b h) (read (translated u.bag b c))).bag ≡ b ++ (a ∷ []))
      unfolding reply leave rule renumbered renumbered_call
      rid_again a (own j p q e) zero m =
          let was : answer T u (SendHash j p) ≡ 0 = rw q at zero in
          let now : answer T (rid u b h) (SendHash j p) ≡ 0 = (kept T S u b h L G H (SendHash j p) (rw was)).answers ∙ was in (
            rw (said, q) now,
            rw (said, q)
                (joins (SendHash j p) a (ap (λ (x : Entry). with_bag_lem (rid u b h) (enter x b)) (sym e)) now m),
          )
      rid_again a (falsely j p B q e) zero m =
          let was : answer T u (FalseHash j p B) ≡ 0 = rw q at zero in
          let now : answer T (rid u b h) (FalseHash j p B) ≡ 0 = (kept T S u b h L G H (FalseHash j p B) (rw was)).answers ∙ was in (
            rw (said, q) now,
            rw (said, q)
                (joins (FalseHash j p B) a (ap (λ (x : Entry). with_bag_lem (rid u b h) (enter x b)) (sym e)) now m),
          )

      rid_clear : clears (read c) ≡ true
          → let d = translated u.bag b c in Cleared T (with_call S (read d) (reply T (rid u b h) (read d))) u
          (leave T (rid u b h) (read d))
      unfolding clears leave reply renumbered_call with_call
      rid_clear o = go (read c) refl o
        where
          go : (x : Call) → read c ≡ x → clears x ≡ true
              → let d = translated u.bag b c in Cleared T (with_call S (read d) (reply T (rid u b h) (read d))) u
              (leave T (rid u b h) (read d))
          go (Some st) q o = rw (said, q) (removed T S u b h L st (clear_same u.bag b st ∙ o))
          go None q o = false_true o

    module _ (u v : State) (C : Cleared T S u v) (G : Valid T u) (H : Valid T v) (c : List ℕ) where
      pub kept-call : eqb (reply T u (read c)) 13 ≡ false → KeptCall u v c
      kept-call n = subst (λ (w : State). Cleared T S u w → Valid T w → KeptCall u w c) (sym C.rest)
          (λ L H. rid_call u v.bag v.heard L G H c n) C H

      pub again_call : (a : Entry) → Sends T u (read c) a → reply T u (read c) ≡ 0 → is_in a v.bag ≡ false
          → (reply T v (read (translated u.bag v.bag c)) ≡ 0) ×
          ((leave T v (read (translated u.bag v.bag c))).bag ≡ v.bag ++ (a ∷ []))
      again_call a w zero m = subst (λ (x : State). Cleared T S u x → Valid T x → is_in a x.bag ≡ false
          → (reply T x (read (translated u.bag x.bag c)) ≡ 0) ×
          ((leave T x (read (translated u.bag x.bag c))).bag ≡ x.bag ++ (a ∷ [])))
          (sym C.rest) (λ L H m. rid_again u v.bag v.heard L G H c a w zero m) C H m

      pub clear_call : clears (read c) ≡ true
          → let d = translated u.bag v.bag c in Cleared T (with_call S (read d) (reply T v (read d))) u (leave T v (read d))
      clear_call o = subst
          (λ (w : State). Cleared T S u w → Valid T w → let d = translated u.bag w.bag c in Cleared T
          (with_call S (read d) (reply T w (read d))) u (leave T w (read d))) (sym C.rest)
          (λ L H. rid_clear u v.bag v.heard L G H c o) C H

  -- at the start the two are the same
  pub none-cleared : (s : State) → Cleared T (λ p. false) s s
  none-cleared s = record {
    backed = λ p m. false_true m;
    rest = refl;
    others = refl;
    within = λ a m. m;
    gone = λ a m n. split m n;
    heard = λ j k p B m. m;
    unheard = λ j k p B m n. split m n;
  }

  -- Lists of calls, of any engine that follows the rules.
  module _ {X : Type 0} (E : Engine X) (Ready : X → Type 0) (F : Follows T E Ready) where
    module _ (S : ℕ → Bool) (u v : X) (R : Ready u) (W : Ready v) (C : Cleared T S (E.holds u) (E.holds v)) where
      abbrev pub to : List ℕ → List ℕ
      to c = translated (E.holds u).bag (E.holds v).bag c

      pub kept_here : (c : List ℕ) → eqb (E.answers u c) 13 ≡ false → KeptCall S (E.holds u) (E.holds v) c
      kept_here c n = kept-call S (E.holds u) (E.holds v) C (F.valid u R) (F.valid v W) c (rw (← F.answers u R c) n)

      pub as_before : AsBefore T E S u v
      as_before = record {
        states = C;
        answers = λ c n. F.answers v W (to c) ∙ (kept_here c n).answers ∙ ap (answer_with (E.holds u).bag (E.holds v).bag c)
            (sym (F.answers u R c));
        again = λ c a w zero m.
            let sent = again_call S (E.holds u) (E.holds v) C (F.valid u R) (F.valid v W) c a w (sym (F.answers u R c) ∙ zero) m in
            (F.answers v W (to c) ∙ sent.0, ap (λ (s : State). s.bag) (F.leaves v W (to c)) ∙ sent.1);
        bytes = λ e l. still_byte (E.holds v).bag (E.holds u).bag (F.valid v W).bag.apart C.within e (F.valid u R).bag.size l;
      }

      -- the periods cleared after one call more
      abbrev pub more : List ℕ → ℕ → Bool
      more c = with_call S (read (to c)) (E.answers v (to c))

      pub after_clear : (c : List ℕ) → clears (read c) ≡ true → Cleared T (more c) (E.holds u) (E.holds (E.leaves v (to c)))
      after_clear c o = rw (F.leaves v W (to c), F.answers v W (to c))
          (clear_call S (E.holds u) (E.holds v) C (F.valid u R) (F.valid v W) c o)

      pub after-other : (c : List ℕ) → clears (read c) ≡ false → eqb (E.answers u c) 13 ≡ false
          → Cleared T (more c) (E.holds (E.leaves u c)) (E.holds (E.leaves v (to c)))
      after-other c o
          n = rw (F.leaves u R c, F.leaves v W (to c), no_period_lem (E.holds u).bag (E.holds v).bag S c o (E.answers v (to c)))
          ((kept_here c n).states o)

    cleared-from : (calls : List (List ℕ)) (S : ℕ → Bool) (u v : X) → Ready u → Ready v → Cleared T S (E.holds u) (E.holds v)
        → never_full (answers_from E u (uncleared calls)) ≡ true
        → Cleared T (cleared_from E S v (translated_from E u v calls)) (E.holds (store_from E u (uncleared calls)))
        (E.holds (store_from E v (translated_from E u v calls)))
    unfolding store_from uncleared translated_from cleared_from answers_from never_full
    cleared-from [] S u v R W C n = C
    cleared-from (c ∷ calls) S u v R W C n = go (either (clears (read c))) (cleared-from calls)
      where
        d : List ℕ
        d = to S u v R W C c

        go : (clears (read c) ≡ true) ⊎ (clears (read c) ≡ false)
            → ((S : ℕ → Bool) (u v : X) → Ready u → Ready v → Cleared T S (E.holds u) (E.holds v)
            → never_full (answers_from E u (uncleared calls)) ≡ true
            → Cleared T (cleared_from E S v (translated_from E u v calls)) (E.holds (store_from E u (uncleared calls)))
            (E.holds (store_from E v (translated_from E u v calls))))
            → Cleared T (cleared_from E S v (translated_from E u v (c ∷ calls))) (E.holds (store_from E u (uncleared (c ∷ calls))))
            (E.holds (store_from E v (translated_from E u v (c ∷ calls))))
        go (inl e) later = rw e
            (later (more S u v R W C c) u (E.leaves v d) R (F.stays_ready v W d) (after_clear S u v R W C c e) (rw e at n))
        go (inr e) later =
            let both : not (eqb (E.answers u c) 13) && never_full (answers_from E (E.leaves u c) (uncleared calls)) ≡ true = rw e at n in
            rw e (later (more S u v R W C c) (E.leaves u c) (E.leaves v d) (F.stays_ready u R c) (F.stays_ready v W d)
            (after-other S u v R W C c e (not-true _ (and_l (not (eqb (E.answers u c) 13)) _ both)))
            (and_r (not (eqb (E.answers u c) 13)) _ both))

    -- until the run without clears would have answered full
    pub cleared-run : (x : X) → Ready x → (calls : List (List ℕ)) → never_full (answers_from E x (uncleared calls)) ≡ true
        → AsBefore T E (periods_cleared E x calls) (without_clears E x calls) (with_clears E x calls)
    cleared-run x R calls n =
        as_before (periods_cleared E x calls) (without_clears E x calls) (with_clears E x calls)
        (store-from F (uncleared calls) x [] R).0 (store-from F (translated_from E x x calls) x [] R).0
        (cleared-from calls (λ p. false) x x R R (none-cleared (E.holds x)) n)
