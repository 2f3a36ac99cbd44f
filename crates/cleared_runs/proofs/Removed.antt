-- A clear, in the run with clears alone: what the clears have left of the state is left with one period more.
use Prim.Native.Nat.{ℕ}
use mathlib.Core.Bool.{Bool, true, false, cond, ◌&&◌, not}
use mathlib.Core.List.{List}
use mathlib.Core.Path.{◌≡◌, refl, sym, ◌∙◌, subst}
use mathlib.Core.Logic.{◌⊎◌, inl, inr}
use lib.Dec.{eqb}
use borrow.Author.Tests.{eqb-true}
use Rattle.base.specs.Sets.{add1}
use Rattle.base.proofs.Truth.{split, true_false, either, and_r}
use Rattle.base.proofs.Sets.{new1, old1, grow1}
use Rattle.rules.specs.declared.Entry.{Entry}
use Rattle.rules.specs.declared.Entry.TheVariants.{Hash, Backing, Board}
use Rattle.rules.specs.declared.Step.{Step}
use Rattle.rules.specs.declared.Step.TheVariants.{ClearHashes}
use Rattle.rules.specs.Table.{Table}
use Rattle.rules.specs.Bag.{is_in, is_hash, period_of, is_hash_of, without_hashes, unheard}
use Rattle.rules.specs.State.{State}
use Rattle.rules.specs.Fields.{fields}
use Rattle.rules.specs.Backed.{unbacked}
use Rattle.rules.specs.Rules.{rule, answer, next}
use Rattle.rules.proofs.Answered.{answered}
use Rattle.rules.proofs.Each.{each}
use Rattle.rules.proofs.Bag.{in_without}
use Rattle.cleared_runs.specs.Cleared.{is_clear, Cleared}
use Rattle.cleared_runs.proofs.Places.{others_without}
use Rattle.cleared_runs.proofs.Translated.{renumbered}
use Rattle.cleared_runs.proofs.Kept.{rid}

is_true : (a : Bool) → not a && true ≡ false → a ≡ true
is_true true n = refl
is_true false n = true_false n

is_hash_of_lem : (q : ℕ) (a : Entry) → is_hash_of q a ≡ true → (is_hash a ≡ true) × (period_of a ≡ q)
is_hash_of_lem q (Hash k p B) e = (refl, eqb-true p q e)
is_hash_of_lem q (Backing k p B) e = (e, split e refl)
is_hash_of_lem q (Board p B) e = (e, split e refl)

module _ (T : Table) (S : ℕ → Bool) (u : State) (b : List Entry) (h : ℕ → ℕ → ℕ → ℕ → Bool) (L : Cleared T S u (rid u b h)) where
  abbrev v : State
  v = rid u b h

  ridded : (q : ℕ) → unbacked T u.to_back q ≡ false → Cleared T (add1 q S) u (rid u (without_hashes q b) (unheard q h))
  unfolding unheard
  ridded q none = record {
    rest = refl;
    backed = grow1 q S none L.backed;
    others = others_without q b ∙ L.others;
    within = λ a m. L.within a (and_r (not (is_hash_of q a)) _ (sym (in_without q a b) ∙ m));
    gone = λ a m n. gone a m (either (is_in a b)) (sym (in_without q a b) ∙ n);
    heard = λ j k p B m. L.heard j k p B (and_r (not (eqb p q)) _ m);
    unheard = λ j k p B m n. silent j k p B m (either (h j k p B)) n;
  }
    where
      this : (p : ℕ) → p ≡ q → add1 q S p ≡ true
      this p e = subst (λ (z : ℕ). add1 q S z ≡ true) (sym e) (new1 q S)

      gone : (a : Entry) → is_in a u.bag ≡ true → (is_in a b ≡ true) ⊎ (is_in a b ≡ false) → not (is_hash_of q a) && is_in a b ≡ false
          → (is_hash a ≡ true) × (add1 q S (period_of a) ≡ true)
      gone a m (inl e) n = let its = is_hash_of_lem q a (is_true (is_hash_of q a) (rw e at n)) in (its.0, this (period_of a) its.1)
      gone a m (inr e) n = let its = L.gone a m e in (its.0, old1 q S (period_of a) its.1)

      silent : (j k p B : ℕ) → u.heard j k p B ≡ true → (h j k p B ≡ true) ⊎ (h j k p B ≡ false) → not (eqb p q) && h j k p B ≡ false
          → add1 q S p ≡ true
      silent j k p B m (inl e) n = this p (eqb-true p q (is_true (eqb p q) (rw e at n)))
      silent j k p B m (inr e) n = old1 q S p (L.unheard j k p B m e)

  cleared : (q : ℕ) → Cleared T (cond (eqb (answer T v (ClearHashes q)) 0) (add1 q S) S) u (next T v (ClearHashes q))
  unfolding next rule
  cleared q = go (either (eqb (answer T v (ClearHashes q)) 0))
    where
      go : (eqb (answer T v (ClearHashes q)) 0 ≡ true) ⊎ (eqb (answer T v (ClearHashes q)) 0 ≡ false)
          → Cleared T (cond (eqb (answer T v (ClearHashes q)) 0) (add1 q S) S) u (next T v (ClearHashes q))
      go (inl e) = let c = answered T v (ClearHashes q) (eqb-true (answer T v (ClearHashes q)) 0 e) in rw e (ridded q c.1.0)
      go (inr e) = rw e L

  abbrev RemovedBy : Step → Type 0
  RemovedBy st = let to = renumbered u.bag b st in
      is_clear to ≡ true → Cleared T (cond (is_clear to && eqb (answer T v to) 0) (add1 (fields to).period S) S) u (next T v to)

  no_clear : (st : Step) → is_clear (renumbered u.bag b st) ≡ false → RemovedBy st
  no_clear st n o = split o n

  clear_removes : (q : ℕ) → RemovedBy (ClearHashes q)
  unfolding renumbered
  clear_removes q o = cleared q

  pub removed : (st : Step) → RemovedBy st
  unfolding renumbered
  removed = each RemovedBy (search (no_clear, clear_removes))
