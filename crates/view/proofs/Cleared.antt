-- The hashes of a period leave: the heard numbers, afresh, are the heard hashes without that period's.
use Prim.Native.Nat.{ℕ, suc, ◌+◌, ◌-◌, ◌<◌}
use native.Mathlib.Omega.{arith}
use mathlib.Core.Bool.{Bool, true, false, cond, ◌&&◌, ◌||◌, not}
use mathlib.Core.List.{List, [], ◌∷◌}
use mathlib.Core.Path.{◌≡◌, refl, sym, ap, fun_ext, subst, ◌∙◌}
use mathlib.Core.Logic.{◌⊎◌, inl, inr}
use lib.Dec.{eqb, ltb}
use lib.ListN.{length, get_or}
use borrow.Author.Tests.{lt-ltb, ltb-true}
use Rattle.base.proofs.Truth.{either, split, is_false, and_l, and_r, and_false}
use Rattle.rules.specs.declared.Entry.{Entry}
use Rattle.rules.specs.declared.Entry.TheVariants.{Hash}
use Rattle.rules.specs.Bag.{same_entry, entry_at, is_hash_of, without_hashes, unheard}
use Rattle.rules.specs.State.{with_bag_lem, with_heard}
use Rattle.rules.proofs.Bag.{eq_of_same}
use Rattle.state.specs.declared.Fact.TheVariants.{Heard}
use Rattle.state.specs.Contents.{Contents}
use Rattle.state.specs.Cleared.{kept_from, kept, heard_as, afresh, hearing, with_bag, cleared}
use Rattle.state.proofs.Cleared.{kept_gone, kept_stays, kept_at}
use Rattle.view.specs.View.{told, state_of}
use Rattle.view.specs.Good.{Sound}

-- the same hash as one that goes is of the period, and as one that stays is not
same_goes : (q k p B : ℕ) (a : Entry) → is_hash_of q a ≡ true → eqb p q ≡ false → same_entry (Hash k p B) a ≡ false
same_goes q k p B a h d = is_false _ (λ e. split (subst (λ (z : Entry). is_hash_of q z ≡ true) (sym (eq_of_same (Hash k p B) a e)) h) d)

same_stays : (q k p B : ℕ) (a : Entry) → is_hash_of q a ≡ false → same_entry (Hash k p B) a ≡ true → eqb p q ≡ false
same_stays q k p B a h e = subst (λ (z : Entry). is_hash_of q z ≡ false) (sym (eq_of_same (Hash k p B) a e)) h

passed_over : (n x z t : Bool) → t ≡ (not n && z) → (n ≡ false → x ≡ false) → t ≡ (not n && (x || z))
passed_over true x z t r h = r
passed_over false x z t r h = rw (h refl) r

left_in : (n x z : Bool) → (x ≡ true → n ≡ false) → (x || (not n && z)) ≡ (not n && (x || z))
left_in n true z h = rw (h refl)
left_in n false z h = refl

module _ (q : ℕ) (G H : ℕ → Bool) (k p B : ℕ) where
  told-kept : (g i : ℕ) (l : List Entry) → ((e : ℕ) → e < length (kept_from q i l) → G (g + e) ≡ H (get_or (kept_from q i l) e 0))
      → told G g (without_hashes q l) k p B ≡ (not (eqb p q) && told H i l k p B)
  unfolding told without_hashes
  told-kept g i [] f = sym (and_false (not (eqb p q)))
  told-kept g i (a ∷ l) f = go (either (is_hash_of q a)) (told-kept g (suc i) l) (told-kept (suc g) (suc i) l)
    where
      same : Bool
      same = same_entry (Hash k p B) a

      go : (is_hash_of q a ≡ true) ⊎ (is_hash_of q a ≡ false)
          → (((e : ℕ) → e < length (kept_from q (suc i) l) → G (g + e) ≡ H (get_or (kept_from q (suc i) l) e 0))
          → told G g (without_hashes q l) k p B ≡ (not (eqb p q) && told H (suc i) l k p B))
          → (((e : ℕ) → e < length (kept_from q (suc i) l) → G (suc g + e) ≡ H (get_or (kept_from q (suc i) l) e 0))
          → told G (suc g) (without_hashes q l) k p B ≡ (not (eqb p q) && told H (suc i) l k p B))
          → told G g (cond (is_hash_of q a) (without_hashes q l) (a ∷ without_hashes q l)) k p B
          ≡ (not (eqb p q) && ((H i && same) || told H (suc i) l k p B))
      go (inl u) r t = rw u (passed_over (eqb p q) (H i && same) (told H (suc i) l k p B) _
          (r (rw (kept_gone q i a l u) at f))
          (λ d. ap (λ (b : Bool). H i && b) (same_goes q k p B a u d) ∙ and_false (H i)))
      go (inr u) r t =
          let at : (e : ℕ) → e < length (i ∷ kept_from q (suc i) l) → G (g + e) ≡ H
          (get_or (i ∷ kept_from q (suc i) l) e 0) = rw (kept_stays q i a l u) at f in
          let head : G g ≡ H i = ap G (omega arith) ∙ at 0 (omega arith) in
          let rest = t (λ e h. ap G {x = suc g + e} {y = g + suc e} (omega arith) ∙ at (suc e) (omega arith)) in
          rw (u, head, rest) (left_in (eqb p q) (H i && same) (told H (suc i) l k p B) (λ x. same_stays q k p B a u (and_r (H i) _ x)))

module _ (c : Contents) (q : ℕ) where
  abbrev numbers : List ℕ
  numbers = kept q c.bag

  -- what is heard by the numbers afresh is what was heard, without the period
  heard_left : (j k p B : ℕ) → told (λ e. afresh (length numbers) (λ e. get_or numbers e 0) c.has j e) 0 (without_hashes q c.bag) k p B
      ≡ (not (eqb p q) && told (λ e. c.has (Heard j e)) 0 c.bag k p B)
  unfolding afresh
  heard_left j k p B = told-kept q (λ e. ltb e (length numbers) && c.has (Heard j (get_or numbers e 0))) (λ e. c.has (Heard j e)) k p B 0 0
      c.bag at
    where
      at : (e : ℕ) → e < length numbers
          → (ltb (0 + e) (length numbers) && c.has (Heard j (get_or numbers (0 + e) 0))) ≡ c.has (Heard j (get_or numbers e 0))
      at e l = let same : 0 + e ≡ e = omega arith in rw (same, lt-ltb e (length numbers) l)

  pub clear_meets : state_of (cleared q c) ≡ with_heard (with_bag_lem (state_of c) (without_hashes q c.bag)) (unheard q (state_of c).heard)
  unfolding cleared hearing with_bag heard_as unheard
  clear_meets = ap (with_heard (with_bag_lem (state_of c) (without_hashes q c.bag)))
      (fun_ext (λ j. fun_ext (λ k. fun_ext (λ p. fun_ext (λ B. heard_left j k p B)))))

  pub clear_sound : Sound c → Sound (cleared q c)
  unfolding cleared hearing with_bag heard_as afresh
  clear_sound S = record {
    hears = λ j e h.
        let l : e < length numbers = ltb-true e (length numbers) (and_l (ltb e (length numbers)) _ h) in
        let x = get_or numbers e 0 in
        let same : entry_at (without_hashes q c.bag) e ≡ entry_at c.bag x = (kept_at q 0 c.bag e l).entry ∙ ap (entry_at c.bag)
        {x = x - 0} {y = x} (omega arith) in
        rw same (S.hears j x (and_r (ltb e (length numbers)) _ h));
    flags = S.flags;
  }
