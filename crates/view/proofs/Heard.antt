-- Heard entry numbers and heard hashes: each comes from the other.
use Prim.Native.Nat.{ℕ, zero, suc, ◌+◌, ◌<◌, ◌≤◌}
use native.Mathlib.Omega.{arith}
use mathlib.Core.Bool.{Bool, true, ◌&&◌}
use mathlib.Core.List.{List, [], ◌∷◌}
use mathlib.Core.Path.{◌≡◌, sym, subst}
use mathlib.Core.Logic.{◌⊎◌, inl, inr}
use lib.ListN.{length}
use Rattle.base.proofs.Truth.{false_true, and_i, and_l, and_r, or_l, or_r, or_cases}
use Rattle.rules.specs.declared.Entry.{Entry}
use Rattle.rules.specs.declared.Entry.TheVariants.{Hash, Backing, Board}
use Rattle.rules.specs.Bag.{same_entry, is_in, is_hash, entry_at, signer_of, period_of, board_of}
use Rattle.rules.specs.Table.{Table}
use Rattle.rules.proofs.Bag.{same_self, eq_of_same, at_in}
use Rattle.state.specs.declared.Fact.TheVariants.{Heard}
use Rattle.state.specs.Contents.{Contents}
use Rattle.view.specs.Good.{Good}
use Rattle.view.specs.View.{told}

-- a heard hash has a number that was heard, and stands there in the bag
pub told_at : (H : ℕ → Bool) (i : ℕ) (bag : List Entry) (k p B : ℕ) → told H i bag k p B ≡ true
    → (e : ℕ) × (e < length bag) × (H (i + e) ≡ true) × (entry_at bag e ≡ Hash k p B)
unfolding told
told_at H i [] k p B t = false_true t
told_at H i (a ∷ bag) k p B t = go (or_cases (H i && same_entry (Hash k p B) a) _ t) (told_at H (suc i) bag k p B)
  where
    go : (H i && same_entry (Hash k p B) a ≡ true) ⊎ (told H (suc i) bag k p B ≡ true)
        → (told H (suc i) bag k p B ≡ true → (e : ℕ) × (e < length bag) × (H (suc i + e) ≡ true) × (entry_at bag e ≡ Hash k p B))
        → (e : ℕ) × (e < length (a ∷ bag)) × (H (i + e) ≡ true) × (entry_at (a ∷ bag) e ≡ Hash k p B)
    go (inl h) r =
        (0, omega arith, subst (λ (x : ℕ). H x ≡ true) (omega arith) (and_l (H i) _ h), sym (eq_of_same (Hash k p B) a (and_r (H i) _ h)))
    go (inr h) r = (
      suc (r h).0,
      omega (arith, (r h).1),
      subst (λ (x : ℕ). H x ≡ true) {x = suc i + (r h).0} {y = i + suc (r h).0} (omega arith)
          (r h).2,
      (r h).3,
    )

pub told_in : (H : ℕ → Bool) (i : ℕ) (bag : List Entry) (k p B : ℕ) → told H i bag k p B ≡ true → is_in (Hash k p B) bag ≡ true
told_in H i bag k p B t = let f = told_at H i bag k p B t in at_in (Hash k p B) bag f.0 f.1 f.3

-- a heard number of a hash entry is that of a heard hash
pub number_told : (H : ℕ → Bool) (i e : ℕ) (bag : List Entry) → H (i + e) ≡ true → is_hash (entry_at bag e) ≡ true
    → told H i bag (signer_of (entry_at bag e)) (period_of (entry_at bag e)) (board_of (entry_at bag e)) ≡ true
unfolding told same_entry
number_told H i e [] h t = false_true t
number_told H i zero (Hash k p B ∷ bag) h t = or_l _ _ (and_i _ _ (subst (λ (x : ℕ). H x ≡ true) (omega arith) h) (same_self (Hash k p B)))
number_told H i zero (Backing k p B ∷ bag) h t = false_true t
number_told H i zero (Board p B ∷ bag) h t = false_true t
number_told H i (suc e) (a ∷ bag) h t =
    or_r (H i && same_entry (Hash (signer_of (entry_at bag e)) (period_of (entry_at bag e)) (board_of (entry_at bag e))) a) _
    (number_told H (suc i) e bag (subst (λ (x : ℕ). H x ≡ true) {x = i + suc e} {y = suc i + e} (omega arith) h) t)

-- whoever heard a number is a peer of the table
pub hearer : (T : Table) (c : Contents) → Good T c → (j e : ℕ) → c.has (Heard j e) ≡ true → (1 ≤ j) × (j ≤ T.n)
hearer T c G j e q =
    let a = entry_at c.bag e in
    let heard = subst (λ (x : ℕ). c.has (Heard j x) ≡ true) {x = e} {y = 0 + e} (omega arith) q in
    (G.valid.heard j (signer_of a) (period_of a) (board_of a)
    (number_told (λ a. c.has (Heard j a)) 0 e c.bag heard (G.sound.hears j e q))).0
