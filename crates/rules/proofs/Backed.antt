-- Whether some honest peer has yet to back a period: the test, and what it says of each honest peer.
use Prim.Native.Nat.{ℕ, ◌+◌, ◌-◌, ◌≤◌, ◌<◌}
use native.Mathlib.Omega.{arith}
use mathlib.Core.Bool.{Bool, true, false, ◌&&◌}
use mathlib.Core.Path.{◌≡◌, subst}
use mathlib.Core.Logic.{◌⊎◌, inl, inr}
use lib.Dec.{ltb}
use borrow.Author.Tests.{lt-ltb, le-ltb, ltb-true, ltb-false, not-true}
use Rattle.base.proofs.Truth.{split, either, is_false, and_i, and_l, and_r}
use Rattle.base.proofs.Below.{any_at, any_found}
use Rattle.rules.specs.Table.{Table}
use Rattle.rules.specs.Backed.{not_backed, unbacked}
use Rattle.rules.specs.Valid.{Peer}

module _ (T : Table) (to_back : ℕ → ℕ) (p : ℕ) where
  abbrev waits : ℕ → Bool
  waits j = T.honest j && not_backed (to_back j) p

  pub yet : (j : ℕ) → T.honest j ≡ true → Peer T j → to_back j ≤ p → unbacked T to_back p ≡ true
  unfolding unbacked
  yet j h (l, m) b =
      any_at (λ k. waits (k + 1)) (j - 1) T.n (omega arith)
      (subst (λ (z : ℕ). waits z ≡ true) {x = j} {y = j - 1 + 1} (omega arith) (and_i _ _ h (rw (le-ltb p (to_back j) b))))

  pub all_backed : ((j : ℕ) → T.honest j ≡ true → Peer T j → p < to_back j) → unbacked T to_back p ≡ false
  unfolding unbacked
  all_backed above = is_false _ (λ e. found (any_found T.n (λ k. waits (k + 1)) e))
    where
      found : (k : ℕ) × (k < T.n) × (waits (k + 1) ≡ true) → ⊥
      found (k, l, e) = split
          (lt-ltb p (to_back (k + 1)) (above (k + 1) (and_l (T.honest (k + 1)) _ e) (omega arith, omega arith)))
          (not-true _ (and_r (T.honest (k + 1)) _ e))

  pub backed : unbacked T to_back p ≡ false → (j : ℕ) → T.honest j ≡ true → Peer T j → p < to_back j
  backed none j h peer = go (either (ltb p (to_back j)))
    where
      go : (ltb p (to_back j) ≡ true) ⊎ (ltb p (to_back j) ≡ false) → p < to_back j
      go (inl e) = ltb-true p (to_back j) e
      go (inr e) = split (yet j h peer (ltb-false p (to_back j) e)) none

-- a period that every honest peer has backed stays so, since c only rises
pub stays_backed : (T : Table) (before after : ℕ → ℕ) → ((k : ℕ) → before k ≤ after k) → (p : ℕ) → unbacked T before p ≡ false
    → unbacked T after p ≡ false
stays_backed T before after up p none =
    all_backed T after p (λ j h peer. omega (arith, backed T before p none j h peer, up j))
