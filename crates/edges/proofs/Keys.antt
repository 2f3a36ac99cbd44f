-- The two keys: no rule has a share in it but receipt's, on its item in its period, and share's, the peer's own of
-- earlier periods.
use Prim.Native.Nat.{ℕ}
use mathlib.Core.Bool.{Bool, true, false, cond}
use mathlib.Core.Path.{◌≡◌, refl, ap, fun_ext}
use lib.Dec.{eqb}
use Rattle.base.specs.Refusals.{Refusals, numbered, first}
use Rattle.base.proofs.Below.{any_ext}
use Rattle.rules.specs.declared.Step.{Step}
use Rattle.rules.specs.declared.Step.TheVariants.{Share, Receipt}
use Rattle.rules.specs.Table.{Table}
use Rattle.rules.specs.State.{State, with_shared}
use Rattle.rules.specs.Rules.{rule, answer, next}
use Rattle.edges.specs.Exact.{Sees, sharer, own, shares_aside}
use Rattle.rules.proofs.Each.{each}

-- a step that is taken in both of two states, or refused in both
both : (b : Bool) (s t u v : State) → shares_aside s ≡ shares_aside u → shares_aside t ≡ shares_aside v
    → shares_aside (cond b s t) ≡ shares_aside (cond b u v)
both true s t u v e f = e
both false s t u v e f = f

module _ (T : Table) (s : State) (shared : ℕ → ℕ → ℕ → Bool) where
  abbrev u : State
  u = with_shared s shared

  -- the shares that a step looks at are the same
  abbrev SeesSame : Step → Type 0
  SeesSame st = (k p x : ℕ) → Sees s st k p x → shared k p x ≡ s.shared k p x

  abbrev Same : Step → Type 0
  Same st = SeesSame st
      → ((rule T u st).refusals ≡ (rule T s st).refusals) × (shares_aside (rule T u st).effect ≡ shares_aside (rule T s st).effect)

  same_share : (j x : ℕ) → Same (Share j x)
  unfolding rule
  same_share j x e = (rw (any_ext (s.current j) (λ q. shared j q x) (λ q. s.shared j q x) (λ q l. e j q x (own j q x l))), refl)

  same_receipt : (p x : ℕ) → Same (Receipt p x)
  unfolding rule
  same_receipt p x e =
      let now : ℕ → Bool = λ k. shared k p x in
      let before : ℕ → Bool = λ k. s.shared k p x in
      let alike : now ≡ before = fun_ext (λ k. e k p x (sharer k p x)) in
      (rw alike, refl)

  same_rule : (st : Step) → Same st
  unfolding rule
  same_rule = each Same (search (same_share, same_receipt))

  pub shares_unseen : (st : Step) → SeesSame st
      → (answer T u st ≡ answer T s st) × (shares_aside (next T u st) ≡ shares_aside (next T s st))
  unfolding answer next
  shares_unseen st n =
      let r = same_rule st n in (
        ap (λ (l : Refusals). first (numbered l)) r.0,
        (rw r.0 (both (eqb (first (numbered (rule T s st).refusals)) 0) (rule T u st).effect u (rule T s st).effect s r.1 refl)),
      )
