-- Heard entry numbers as the set of heard hashes: hearing one more, and a new entry that nobody has heard.
use Prim.Native.Nat.{ℕ, zero, suc, ◌+◌, ◌≤◌}
use native.Mathlib.Omega.{arith}
use mathlib.Core.Bool.{Bool, true, false, ◌&&◌, ◌||◌}
use mathlib.Core.List.{List, [], ◌∷◌, ◌++◌}
use mathlib.Core.Path.{◌≡◌, refl, ap, subst}
use lib.Dec.{eqb}
use lib.ListN.{length}
use borrow.Author.Tests.{eq-eqb, ne_eqb}
use Rattle.base.specs.Sets.{add1}
use Rattle.base.proofs.Truth.{or_l, or_swap}
use Rattle.rules.specs.declared.Entry.{Entry}
use Rattle.rules.specs.declared.Entry.TheVariants.{Hash}
use Rattle.rules.specs.Bag.{same_entry, entry_at}
use Rattle.view.specs.View.{told}

at_new : (a x : ℕ) (H : ℕ → Bool) → a ≡ x → add1 x H a ≡ true
unfolding add1
at_new a x H q = or_l (eqb a x) _ (eq-eqb a x q)

at_other : (a x : ℕ) (H : ℕ → Bool) → eqb a x ≡ false → add1 x H a ≡ H a
unfolding add1
at_other a x H q = rw q

told_ext : (G H : ℕ → Bool) (i : ℕ) (l : List Entry) (k p B : ℕ) → ((a : ℕ) → i ≤ a → G a ≡ H a) → told G i l k p B ≡ told H i l k p B
unfolding told
told_ext G H i [] k p B f = refl
told_ext G H i (a ∷ l) k p B f = rw (f i (omega arith), told_ext G H (suc i) l k p B (λ c h. f c (omega arith)))

told-from : (H : ℕ → Bool) (i e : ℕ) (l : List Entry) (k p B : ℕ)
    → told (add1 (i + e) H) i l k p B ≡ (same_entry (Hash k p B) (entry_at l e) || told H i l k p B)
unfolding told same_entry
told-from H i e [] k p B = refl
told-from H i zero (a ∷ l) k p B = rw (here, told_ext (add1 (i + 0) H) H (suc i) l k p B above) (go (H i) (same_entry (Hash k p B) a) _)
  where
    here : add1 (i + 0) H i ≡ true
    here = at_new i (i + 0) H (omega arith)

    above : (c : ℕ) → suc i ≤ c → add1 (i + 0) H c ≡ H c
    above c h = at_other c (i + 0) H (ne_eqb c (i + 0) (λ q. omega arith))

    go : (x y z : Bool) → (y || z) ≡ (y || ((x && y) || z))
    go x true z = refl
    go true false z = refl
    go false false z = refl
told-from H i (suc e) (a ∷ l) k p B =
    rw (at_other i (i + suc e) H (ne_eqb i (i + suc e) (λ q. omega arith)), rest (told-from H (suc i) e l k p B))
    (or_swap (H i && same_entry (Hash k p B) a) (same_entry (Hash k p B) (entry_at l e)) (told H (suc i) l k p B))
  where
    rest : told (add1 (suc i + e) H) (suc i) l k p B ≡ (same_entry (Hash k p B) (entry_at l e) || told H (suc i) l k p B)
        → told (add1 (i + suc e) H) (suc i) l k p B ≡ (same_entry (Hash k p B) (entry_at l e) || told H (suc i) l k p B)
    rest r =
        subst (λ (c : ℕ). told (add1 c H) (suc i) l k p B ≡ (same_entry (Hash k p B) (entry_at l e) || told H (suc i) l k p B))
        (omega arith) r

-- hearing entry e
pub told_hear : (H : ℕ → Bool) (e : ℕ) (l : List Entry) (k p B : ℕ)
    → told (add1 e H) 0 l k p B ≡ (same_entry (Hash k p B) (entry_at l e) || told H 0 l k p B)
told_hear H e l k p B =
    subst (λ (z : ℕ). told (add1 z H) 0 l k p B ≡ (same_entry (Hash k p B) (entry_at l e) || told H 0 l k p B)) (omega arith)
    (told-from H 0 e l k p B)

told-append : (H : ℕ → Bool) (i : ℕ) (l : List Entry) (a : Entry) (k p B : ℕ) → H (i + length l) ≡ false
    → told H i (l ++ (a ∷ [])) k p B ≡ told H i l k p B
unfolding told
told-append H i [] a k p B h = let z : H i ≡ false = subst (λ (c : ℕ). H c ≡ false) (omega arith) h in rw z
told-append H i (b ∷ l) a k p B h =
    ap (λ (z : Bool). (H i && same_entry (Hash k p B) b) || z)
    (told-append H (suc i) l a k p B (subst (λ (c : ℕ). H c ≡ false) (omega arith) h))

-- a new entry
pub told_new : (H : ℕ → Bool) (l : List Entry) (a : Entry) (k p B : ℕ) → H (length l) ≡ false
    → told H 0 (l ++ (a ∷ [])) k p B ≡ told H 0 l k p B
told_new H l a k p B h = told-append H 0 l a k p B (subst (λ (c : ℕ). H c ≡ false) (omega arith) h)
