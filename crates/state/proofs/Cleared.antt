-- Laws of the numbers of the entries that stay, and of heard numbers replaced.
use Prim.Native.Nat.{ℕ, zero, suc, ◌+◌, ◌-◌, ◌*◌, ◌/◌, ◌<◌, ◌≤◌}
use native.Mathlib.Nat.{not-suc-le-zero}
use native.Mathlib.Omega.{arith}
use mathlib.Core.Bool.{Bool, true, false, cond, ◌&&◌}
use mathlib.Core.List.{List, [], ◌∷◌}
use mathlib.Core.Path.{◌≡◌, refl, sym, ap, fun_ext, ◌∙◌}
use mathlib.Core.Logic.{◌⊎◌, inl, inr}
use lib.Dec.{ltb}
use lib.ListN.{length, get_or}
use Rattle.base.specs.Bytes.{byte_at}
use Rattle.base.proofs.Truth.{either}
use Rattle.bits.specs.Row.{bit_at, Bytes}
use Rattle.bits.proofs.Row.{bit_at_same}
use Rattle.rules.specs.declared.Entry.{Entry}
use Rattle.rules.specs.Bag.{is_hash_of, without_hashes, entry_at as nth}
use Rattle.state.specs.declared.Fact.{Fact}
use Rattle.state.specs.declared.Fact.TheVariants.{Posted, Signed, Shared, Receipted, Held, Known, Heard}
use Rattle.state.specs.Layout.{entries, heard_at, current_at}
use Rattle.state.specs.Facts.{in_range, is_peer}
use Rattle.state.specs.Places.{place}
use Rattle.state.specs.Contents.{contents, Canon, Holds}
use Rattle.state.specs.Cleared.{kept_from, heard_as, hearing}
use Rattle.state.proofs.Ranges.{range_within}
use Rattle.state.proofs.Frame as frame

module _ (q : ℕ) where
  -- an entry that goes, and one that stays

  pub kept_gone : (i : ℕ) (a : Entry) (bag : List Entry) → is_hash_of q a ≡ true → kept_from q i (a ∷ bag) ≡ kept_from q (suc i) bag
  unfolding kept_from
  kept_gone i a bag e = rw e

  pub kept_stays : (i : ℕ) (a : Entry) (bag : List Entry) → is_hash_of q a ≡ false → kept_from q i (a ∷ bag) ≡ i ∷ kept_from q (suc i) bag
  unfolding kept_from
  kept_stays i a bag e = rw e

  without_gone : (a : Entry) (bag : List Entry) → is_hash_of q a ≡ true → without_hashes q (a ∷ bag) ≡ without_hashes q bag
  unfolding without_hashes
  without_gone a bag e = rw e

  without_stays : (a : Entry) (bag : List Entry) → is_hash_of q a ≡ false → without_hashes q (a ∷ bag) ≡ a ∷ without_hashes q bag
  unfolding without_hashes
  without_stays a bag e = rw e

  -- there are as many numbers as entries that stay
  pub kept-length : (i : ℕ) (bag : List Entry) → length (kept_from q i bag) ≡ length (without_hashes q bag)
  unfolding kept_from without_hashes
  kept-length i [] = refl
  kept-length i (a ∷ bag) = go (either (is_hash_of q a)) (kept-length (suc i) bag)
    where
      go : (is_hash_of q a ≡ true) ⊎ (is_hash_of q a ≡ false) → length (kept_from q (suc i) bag) ≡ length (without_hashes q bag)
          → length (cond (is_hash_of q a) (kept_from q (suc i) bag) (i ∷ kept_from q (suc i) bag))
          ≡ length (cond (is_hash_of q a) (without_hashes q bag) (a ∷ without_hashes q bag))
      go (inl e) r = rw e r
      go (inr e) r = rw e (ap suc r)

  -- a number is at least its place, and below the bag's length; the entry of that number is the one at that place
  pub record Stays (i e x : ℕ) (bag : List Entry) : Type 0 where
    pub from : i + e ≤ x
    pub below : x < i + length bag
    pub entry : nth (without_hashes q bag) e ≡ nth bag (x - i)

  pub kept_at : (i : ℕ) (bag : List Entry) (e : ℕ) → e < length (kept_from q i bag) → Stays i e (get_or (kept_from q i bag) e 0) bag
  unfolding kept_from
  kept_at i [] e l = absurd (not-suc-le-zero l)
  kept_at i (a ∷ bag) e l = go (either (is_hash_of q a)) (kept_at (suc i) bag)
    where
      next : (e : ℕ) → Stays (suc i) e (get_or (kept_from q (suc i) bag) e 0) bag → nth bag (get_or (kept_from q (suc i) bag) e 0 - suc i)
          ≡ nth (a ∷ bag) (get_or (kept_from q (suc i) bag) e 0 - i)
      next e r =
          let x = get_or (kept_from q (suc i) bag) e 0 in
          ap (nth (a ∷ bag)) {x = suc (x - suc i)} {y = x - i} (omega (arith, r.from))

      gone : (e : ℕ) → is_hash_of q a ≡ true → Stays (suc i) e (get_or (kept_from q (suc i) bag) e 0) bag
          → Stays i e (get_or (kept_from q i (a ∷ bag)) e 0) (a ∷ bag)
      gone e g r = rw (kept_gone i a bag g) (record {
        from = omega (arith, r.from);
        below = omega (arith, r.below);
        entry = ap (λ l. nth l e) (without_gone a bag g) ∙ r.entry ∙ next e r;
      })

      stays : (e : ℕ) → is_hash_of q a ≡ false → Stays (suc i) e (get_or (kept_from q (suc i) bag) e 0) bag
          → Stays i (suc e) (get_or (kept_from q i (a ∷ bag)) (suc e) 0) (a ∷ bag)
      stays e g r = rw (kept_stays i a bag g) (record {
        from = omega (arith, r.from);
        below = omega (arith, r.below);
        entry = ap (λ l. nth l (suc e)) (without_stays a bag g) ∙ r.entry ∙ next e r;
      })

      first : is_hash_of q a ≡ false → Stays i 0 (get_or (kept_from q i (a ∷ bag)) 0 0) (a ∷ bag)
      first g = rw (kept_stays i a bag g) (record {
        from = omega arith;
        below = omega arith;
        entry = ap (λ l. nth l 0) (without_stays a bag g) ∙ ap (nth (a ∷ bag)) {x = 0} {y = i - i} (omega arith);
      })

      go : (is_hash_of q a ≡ true) ⊎ (is_hash_of q a ≡ false)
          → ((e : ℕ) → e < length (kept_from q (suc i) bag) → Stays (suc i) e (get_or (kept_from q (suc i) bag) e 0) bag)
          → Stays i e (get_or (kept_from q i (a ∷ bag)) e 0) (a ∷ bag)
      go (inl g) r = gone e g (r e (omega (arith, ap length (kept_gone i a bag g))))
      go (inr g) r = one e l
        where
          one : (e : ℕ) → e < length (kept_from q i (a ∷ bag)) → Stays i e (get_or (kept_from q i (a ∷ bag)) e 0) (a ∷ bag)
          one zero l = first g
          one (suc e) l = stays e g (r e (omega (arith, ap length (kept_stays i a bag g))))

-- heard bits replaced: the heard numbers are these, and all else is as it was
pub hearing_holds : (s t : List ℕ) (H : ℕ → ℕ → Bool) → Canon s → length t ≡ length s → Bytes t
    → ((i : ℕ) → (heard_at ≤ i → current_at ≤ i) → byte_at t i ≡ byte_at s i)
    → ((j e : ℕ) → is_peer j && ltb e entries ≡ true → bit_at t (place (Heard j e)) ≡ H j e)
    → ((j e : ℕ) → is_peer j && ltb e entries ≡ false → H j e ≡ false)
    → Holds t (hearing H (contents s))
unfolding hearing contents heard_as
hearing_holds s t H c long bytes same bits none =
    record {
      canon = frame.canon_same t s (λ i l. same i (λ z. omega arith)) c long bytes;
      says =
          λ i. record {
            has = fun_ext member i;
            number = fun_ext (frame.number_same t s (λ i p q. same i (λ z. p))) i;
            bag = frame.bag_same t s (λ i l. same i (λ z. omega arith)) i;
          };
    }
  where
    other : (f : Fact) → (in_range f ≡ true → place f < 8 * heard_at) → (in_range f && bit_at t (place f)) ≡ (in_range f && bit_at s (place f))
    other f h = go (either (in_range f))
      where
        go : (in_range f ≡ true) ⊎ (in_range f ≡ false) → (in_range f && bit_at t (place f)) ≡ (in_range f && bit_at s (place f))
        go (inl e) =
            ap (λ (b : Bool). in_range f && b) (bit_at_same t s (place f) (same (place f / 8) (λ z. absurd (omega (arith, h e)))))
        go (inr e) = rw e

    member : (f : Fact) → (in_range f && bit_at t (place f)) ≡ heard_as H (λ g. in_range g && bit_at s (place g)) f
    member (Posted i) = other (Posted i) (λ e. let w = range_within (Posted i) e in omega (arith, w))
    member (Signed k p i) = other (Signed k p i) (λ e. let w = range_within (Signed k p i) e in omega (arith, w))
    member (Shared k p i) = other (Shared k p i) (λ e. let w = range_within (Shared k p i) e in omega (arith, w))
    member (Receipted p i) = other (Receipted p i) (λ e. let w = range_within (Receipted p i) e in omega (arith, w))
    member (Held j p i) = other (Held j p i) (λ e. let w = range_within (Held j p i) e in omega (arith, w))
    member (Known j p i k) = other (Known j p i k) (λ e. let w = range_within (Known j p i k) e in omega (arith, w))
    member (Heard j e) = go (either (is_peer j && ltb e entries))
      where
        go : (is_peer j && ltb e entries ≡ true) ⊎ (is_peer j && ltb e entries ≡ false)
            → ((is_peer j && ltb e entries) && bit_at t (place (Heard j e))) ≡ H j e
        go (inl r) = rw r (bits j e r)
        go (inr r) = rw r (sym (none j e r))
