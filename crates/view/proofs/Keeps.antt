-- Good contents stay good.
use Prim.Native.Nat.{ℕ, zero, suc, ◌<◌}
use native.Mathlib.Omega.{arith}
use mathlib.Core.Bool.{Bool, true, false, cond, ◌&&◌, ◌||◌}
use mathlib.Core.List.{List, [], ◌∷◌, ◌++◌}
use mathlib.Core.Path.{◌≡◌, refl, sym, subst}
use mathlib.Core.Logic.{◌⊎◌, inl, inr}
use lib.Dec.{eqb}
use borrow.Author.Tests.{eqb-true}
use Rattle.base.proofs.Truth.{false_true, either, and_r}
use Rattle.rules.specs.declared.Entry.{Entry}
use Rattle.rules.specs.declared.Step.{Step}
use Rattle.rules.specs.declared.Step.TheVariants.{Hear, Back, Down, Up, ClearHashes}
use Rattle.rules.specs.Table.{Table}
use Rattle.rules.specs.Bag.{is_in, is_hash, entry_at}
use Rattle.rules.specs.Rules.{rule}
use Rattle.rules.specs.Valid.{Valid}
use Rattle.rules.proofs.Answered.{Clear, judged}
use Rattle.rules.proofs.Valid.{keeps_valid}
use Rattle.rules.proofs.Each.{each}
use Rattle.state.specs.declared.Fact.TheVariants.{Heard}
use Rattle.state.specs.declared.Number.TheVariants.{DownOf}
use Rattle.state.specs.Contents.{Contents, adding, insert, store, with_entry, enter_on}
use Rattle.state.specs.Sets.{known_to}
use Rattle.state.specs.Sets.{fetched}
use Rattle.view.specs.View.{state_of}
use Rattle.view.specs.Effect.{effect_on}
use Rattle.view.specs.Good.{Sound, Good}
use Rattle.view.proofs.Cleared.{clear_sound}
use Rattle.view.proofs.Meets.{meets}

-- a hash entry stays one when another is appended
hash_stays : (l m : List Entry) (e : ℕ) → is_hash (entry_at l e) ≡ true → is_hash (entry_at (l ++ m) e) ≡ true
hash_stays [] m e h = false_true h
hash_stays (a ∷ l) m zero h = h
hash_stays (a ∷ l) m (suc e) h = hash_stays l m e h

module _ (c : Contents) (S : Sound c) where
  -- what is heard, the flags and the bag are left alone
  untouched : (d : Contents) → ((j e : ℕ) → d.has (Heard j e) ≡ c.has (Heard j e))
      → ((j : ℕ) → d.number (DownOf j) ≡ c.number (DownOf j)) → d.bag ≡ c.bag → Sound d
  untouched d h n b = record { hears = λ j e q. rw b (S.hears j e (rw h at q)); flags = λ j. rw (n j) (S.flags j) }

  enter_sound : (e : Entry) → Sound (enter_on e c)
  unfolding enter_on with_entry
  enter_sound e = go (is_in e c.bag)
    where
      go : (b : Bool) → Sound (cond b c (with_entry e c))
      go true = S
      go false = record { hears = λ j a h. hash_stays c.bag (e ∷ []) a (S.hears j a h); flags = S.flags }

  hear_sound : (j e : ℕ) → is_hash (entry_at c.bag e) ≡ true → Sound (insert (Heard j e) c)
  unfolding insert adding
  hear_sound j e h = record { hears = λ k a q. go k a (either (eqb k j && eqb a e)) q; flags = S.flags }
    where
      go : (k a : ℕ) → (eqb k j && eqb a e ≡ true) ⊎ (eqb k j && eqb a e ≡ false)
          → (eqb k j && eqb a e) || c.has (Heard k a) ≡ true → is_hash (entry_at c.bag a) ≡ true
      go k a (inl u) q = rw (eqb-true a e (and_r (eqb k j) _ u)) h
      go k a (inr u) q = S.hears k a (rw u at q)

  down_sound : (j v : ℕ) → v < 2 → Sound (store (DownOf j) v c)
  unfolding store
  down_sound j v h = record { hears = S.hears; flags = λ k. go k (eqb k j) }
    where
      go : (k : ℕ) (b : Bool) → cond b v (c.number (DownOf k)) < 2
      go k true = h
      go k false = S.flags k

hears : (T : Table) (c : Contents) → Sound c → (j e : ℕ) → Clear T (state_of c) (Hear j e) → Sound (effect_on T c (Hear j e))
unfolding effect_on rule
hears T c S j e h = hear_sound c S j e (search judged)

backs : (T : Table) (c : Contents) → Sound c → (j : ℕ) → Sound (effect_on T c (Back j))
unfolding effect_on store
backs T c S j = untouched (enter_on _ c) (enter_sound c S _) _ (λ j e. refl) (λ j. refl) refl

downs : (T : Table) (c : Contents) → Sound c → (j : ℕ) → Sound (effect_on T c (Down j))
unfolding effect_on
downs T c S j = down_sound c S j 1 (omega arith)

ups : (T : Table) (c : Contents) → Sound c → (j : ℕ) → Sound (effect_on T c (Up j))
unfolding effect_on
ups T c S j = down_sound c S j 0 (omega arith)

clears : (T : Table) (c : Contents) → Sound c → (p : ℕ) → Sound (effect_on T c (ClearHashes p))
unfolding effect_on
clears T c S p = clear_sound c p S

keeps_sound : (T : Table) (c : Contents) → Sound c → (st : Step) → Clear T (state_of c) st → Sound (effect_on T c st)
unfolding effect_on rule insert adding store fetched known_to
keeps_sound T c S = each (λ st. Clear T (state_of c) st → Sound (effect_on T c st))
    (search (hears T c S, backs T c S, downs T c S, ups T c S, clears T c S, enter_sound c S, untouched c S, refl))

pub keeps_good : (T : Table) (c : Contents) (st : Step) → Good T c → Clear T (state_of c) st → Good T (effect_on T c st)
keeps_good T c st G h = record {
  valid = subst (λ s. Valid T s) (sym (meets c G.sound T st h)) (keeps_valid T (state_of c) G.valid st h);
  sound = keeps_sound T c G.sound st h;
}
