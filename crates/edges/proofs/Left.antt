-- What a step leaves as it was: the receipt shares, but for share and false share, and each counter of each peer, but
-- for its close or back.
use Prim.Native.Nat.{ℕ}
use mathlib.Core.Path.{◌≡◌, refl}
use Rattle.base.specs.Sets.{set_at}
use Rattle.base.proofs.Sets.{set_elim}
use Rattle.rules.specs.declared.Step.{Step}
use Rattle.rules.specs.declared.Step.TheVariants.{Share, Close, Back, FalseShare}
use Rattle.rules.specs.Table.{Table}
use Rattle.rules.specs.State.{State}
use Rattle.rules.specs.Rules.{rule, next}
use Rattle.rules.proofs.Answered.{by_step}
use Rattle.rules.proofs.Each.{each}

pub record Left (s : State) (st : Step) (t : State) : Type 0 where
  pub shared : ((j x : ℕ) → st ≡ Share j x → ⊥) → ((j p x : ℕ) → st ≡ FalseShare j p x → ⊥) → t.shared ≡ s.shared
  pub current : (j : ℕ) → (st ≡ Close j → ⊥) → t.current j ≡ s.current j
  pub to_back : (j : ℕ) → (st ≡ Back j → ⊥) → t.to_back j ≡ s.to_back j

-- the counter of another peer
others : (st : ℕ → Step) (a v : ℕ) (f : ℕ → ℕ) (j : ℕ) → (st a ≡ st j → ⊥) → set_at a v f j ≡ f j
others st a v f j n = set_elim (λ k w. (st a ≡ st k → ⊥) → w ≡ f k) a v f (λ n. absurd (n refl)) (λ k n. refl) j n

module _ (T : Table) (s : State) where
  left_share : (j x : ℕ) → Left s (Share j x) (rule T s (Share j x)).effect
  unfolding rule
  left_share j x = record { shared = λ n m. absurd (n j x refl); current = search; to_back = search }

  left_false_share : (j p x : ℕ) → Left s (FalseShare j p x) (rule T s (FalseShare j p x)).effect
  unfolding rule
  left_false_share j p x = record { shared = λ n m. absurd (m j p x refl); current = search; to_back = search }

  left_effect : (st : Step) → Left s st (rule T s st).effect
  unfolding rule
  left_effect = each (λ st. Left s st (rule T s st).effect) (search (left_share, left_false_share, others Close, others Back))

  -- taken or refused
  pub left : (st : Step) → Left s st (next T s st)
  left st = by_step T (Left s st) s (search) st (λ e c. left_effect st)
