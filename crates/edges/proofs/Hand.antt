-- The second hand of an item in a period: once an item is held, nothing that clashes with it is handed.
use Prim.Native.Nat.{ℕ, ◌<◌}
use mathlib.Core.Bool.{Bool, true, false, not}
use mathlib.Core.List.{List, [], ◌∷◌}
use mathlib.Core.Path.{◌≡◌, refl, ◌∙◌, subst}
use lib.Dec.{ltb}
use Rattle.base.proofs.Sets.{old1, old3, new3, grow_row}
use Rattle.rules.specs.declared.Step.{Step}
use Rattle.rules.specs.declared.Step.TheVariants.{Post, Hand}
use Rattle.rules.specs.Table.{Table}
use Rattle.rules.specs.State.{State}
use Rattle.rules.specs.Rules.{rule, answer, next}
use Rattle.rules.proofs.Answered.{Clear, answered, done, by_step, judged}
use Rattle.rules.proofs.Clashing.{Apart, apart_test, test_apart}
use Rattle.rules.proofs.Repeat.{repeated}
use Rattle.edges.specs.Steps.{after}
use Rattle.rules.proofs.Each.{each}

-- x is posted, j holds it in p, and nothing that j holds clashes with it
pub record Settled (T : Table) (j p x : ℕ) (posted : ℕ → Bool) (held : ℕ → ℕ → ℕ → Bool) : Type 0 where
  pub is_posted : posted x ≡ true
  pub is_held : held j p x ≡ true
  pub apart : Apart T (held j) x

module _ (T : Table) (j p x : ℕ) (sy : (y : ℕ) → T.clash x y ≡ T.clash y x) (in-P : p < T.periods) (in-m : x < T.items) where
  abbrev Now : State → Type 0
  Now s = Settled T j p x s.posted s.held

  -- another hand to j was not of an item that clashes with x
  hand_settled : (s : State) → Now s → (k y : ℕ) → Clear T s (Hand k y) → Now (rule T s (Hand k y)).effect
  unfolding rule
  hand_settled s I k y c = record {
    is_posted = I.is_posted;
    is_held = old3 k (s.current k) y s.held j p x I.is_held;
    apart = λ q z l m h. grow_row {P = λ q z. q < T.periods → z < T.items → T.clash x z ≡ false} k (s.current k) y s.held j
        (λ e l m. sy y ∙ test_apart T (s.held k) y (search) p x in-P in-m (subst (λ (i : ℕ). s.held i p x ≡ true) e I.is_held))
        (λ q z h l m. I.apart q z l m h) q z h l m;
  }

  post_settled : (s : State) → Now s → (y : ℕ) → Now (rule T s (Post y)).effect
  unfolding rule
  post_settled s I y = record { is_posted = old1 y s.posted x I.is_posted; is_held = I.is_held; apart = I.apart }

  step_settled : (s : State) → Now s → (st : Step) → Clear T s st → Now (rule T s st).effect
  unfolding rule
  step_settled s I = each (λ st. Clear T s st → Now (rule T s st).effect) (search (post_settled s I, hand_settled s I))

  next_settled : (s : State) → Now s → (st : Step) → Now (next T s st)
  next_settled s I st = by_step T Now s I st (λ e c. step_settled s I st c)

  after_settled : (s : State) → Now s → (steps : List Step) → Now (after T s steps)
  after_settled s I [] = I
  after_settled s I (st ∷ later) = after_settled (next T s st) (next_settled s I st) later

module _ (T : Table) (s : State) (j x : ℕ) (ir : T.clash x x ≡ false) (taken : answer T s (Hand j x) ≡ 0) where
  abbrev clear : Clear T s (Hand j x)
  clear = answered T s (Hand j x) taken

  settled : Settled T j (s.current j) x (rule T s (Hand j x)).effect.posted (rule T s (Hand j x)).effect.held
  unfolding rule
  settled =
      let c = clear in record {
        is_posted = search judged;
        is_held = new3 j (s.current j) x s.held;
        apart = λ q z l m h. grow_row {P = λ q z. q < T.periods → z < T.items → T.clash x z ≡ false} j (s.current j) x s.held j
            (λ e l m. ir) (λ q z h l m. test_apart T (s.held j) x (search) q z l m h) q z h l m;
      }

  -- where x is settled for a peer that is up and in the period, a hand answers 0 and changes nothing
  again : (u : State) → Settled T j (s.current j) x u.posted u.held → u.down j ≡ false → u.current j ≡ s.current j
      → (answer T u (Hand j x) ≡ 0) × (next T u (Hand j x) ≡ u)
  unfolding rule
  again u I d p =
      let c = clear in
      let in-period : not (ltb (u.current j) T.periods) ≡ false = rw p (search) in
      let known : not (u.posted x) ≡ false = rw I.is_posted in
      let no_clash_lem = apart_test T (u.held j) x I.apart in
      repeated T u (Hand j x) (search) (rw p I.is_held)

  pub second_hand : let u = next T s (Hand j x) in (answer T u (Hand j x) ≡ 0) × (next T u (Hand j x) ≡ u)
  unfolding rule
  second_hand = let c = clear in rw (done T s (Hand j x) taken) (again (rule T s (Hand j x)).effect settled (search) refl)

  pub second_hand_later : ((y : ℕ) → T.clash x y ≡ T.clash y x) → (between : List Step) → let u = after T (next T s (Hand j x)) between in
      u.down j ≡ false → u.current j ≡ s.current j → (answer T u (Hand j x) ≡ 0) × (next T u (Hand j x) ≡ u)
  unfolding rule
  second_hand_later sy between d p =
      let c = clear in
      let u = next T s (Hand j x) in
      let held : Settled T j (s.current j) x u.posted u.held = rw (done T s (Hand j x) taken) settled in
      again (after T u between) (after_settled T j (s.current j) x sy (search judged) (search judged) u held between) d p
