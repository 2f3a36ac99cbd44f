-- When a share is answered 17, and the second share of an item in a period.
use Prim.Native.Nat.{ℕ, ◌<◌}
use native.Mathlib.Omega.{arith}
use mathlib.Core.Bool.{Bool, true, false}
use mathlib.Core.Path.{◌≡◌, refl, ◌∙◌}
use mathlib.Core.Logic.{◌⊎◌, inl, inr}
use lib.Dec.{eqb}
use borrow.Author.Tests.{ne_eqb}
use Rattle.base.specs.Sets.{add3}
use Rattle.base.proofs.Below.{any_at, any_found, any_ext}
use Rattle.base.proofs.Sets.{new3}
use Rattle.base.proofs.Truth.{is_false, either, and_false}
use Rattle.rules.specs.declared.Step.{Step}
use Rattle.rules.specs.declared.Step.TheVariants.{Share}
use Rattle.rules.specs.Table.{Table}
use Rattle.rules.specs.State.{State}
use Rattle.rules.specs.Rules.{rule, answer, next, given_before}
use Rattle.rules.proofs.Answered.{answered, done}
use Rattle.rules.proofs.Each.{each}
use Rattle.rules.proofs.Repeat.{repeated}
use Rattle.edges.specs.Steps.{Able, GaveEarlier}
use Rattle.edges.proofs.Tests.{row, Without, never}

module _ (T : Table) (s : State) where
  -- the test, as a statement
  module _ (j x : ℕ) where
    abbrev test : Bool
    test = given_before (s.shared j) (s.current j) x

    pub gave : GaveEarlier s j x → test ≡ true
    gave (q, l, e) = any_at (λ q. s.shared j q x) q (s.current j) l e

    pub gave_none : (GaveEarlier s j x → ⊥) → test ≡ false
    gave_none none = is_false _ (λ e. none (any_found (s.current j) (λ q. s.shared j q x) e))

  pub given : (j x : ℕ) → Able T s j → x < T.items → s.current j < T.periods → GaveEarlier s j x → answer T s (Share j x) ≡ 17
  unfolding answer rule
  given j x a b c g = search (row, gave) depth 8

  abbrev GivenTo : Step → Type 0
  GivenTo st = (j : ℕ) × ((x : ℕ) × (st ≡ Share j x) × GaveEarlier s j x)

  -- no other row has 17
  other : (st : Step) → Without 17 (rule T s st).refusals → answer T s st ≡ 17 → GivenTo st
  unfolding answer
  other st w e = absurd (never 17 (rule T s st).refusals (λ z. omega arith) w e)

  share_given : (j x : ℕ) → answer T s (Share j x) ≡ 17 → GivenTo (Share j x)
  unfolding rule
  share_given j x e = go (either (test j x))
    where
      go : (test j x ≡ true) ⊎ (test j x ≡ false) → GivenTo (Share j x)
      go (inl t) = (j, (x, refl, any_found (s.current j) (λ q. s.shared j q x) t))
      go (inr f) = other (Share j x) (search) e

  pub given_only : (st : Step) → answer T s st ≡ 17 → GivenTo st
  unfolding rule
  given_only = each (λ st. answer T s st ≡ 17 → GivenTo st) (search (share_given, other))

  -- a share in the open period is not one in an earlier period
  open_unseen : (j x : ℕ) → given_before (add3 j (s.current j) x s.shared j) (s.current j) x ≡ test j x
  unfolding add3
  open_unseen j x = any_ext (s.current j) (λ q. add3 j (s.current j) x s.shared j q x) (λ q. s.shared j q x)
      (λ q l. rw (ne_eqb q (s.current j) (omega arith), and_false (eqb j j)))

  pub share_again : (j x : ℕ) → answer T s (Share j x) ≡ 0
      → let u = next T s (Share j x) in (answer T u (Share j x) ≡ 0) × (next T u (Share j x) ≡ u)
  unfolding rule
  share_again j x zero =
      let c = answered T s (Share j x) zero in
      let not_given : given_before (add3 j (s.current j) x s.shared j) (s.current j) x ≡ false = open_unseen j x ∙ search in
      rw (done T s (Share j x) zero)
      (repeated T (rule T s (Share j x)).effect (Share j x) (search) (new3 j (s.current j) x s.shared))
