-- The marked edges of document 01 about steps, for every table and state.
use Rattle.std.specs.Prelude.{ℕ, ◌+◌, ◌<◌, true, false, List, [], ◌∷◌, ◌≡◌}
use Rattle.rules.specs.declared.Step.{Step}
use Rattle.rules.specs.declared.Step.TheVariants.{Hand, Take, Share}
use Rattle.rules.specs.Table.{Table, weigh}
use Rattle.rules.specs.State.{State}
use Rattle.rules.specs.Rules.{answer, next}
use Rattle.rules.specs.Valid.{Peer}

-- j is an honest peer of the table, and up
pub record Able (T : Table) (s : State) (j : ℕ) : Type 0 where
  pub peer : Peer T j
  pub honest : T.honest j ≡ true
  pub up : s.down j ≡ false

-- j gave a receipt share on x in a period before its open one
abbrev pub GaveEarlier : State → ℕ → ℕ → Type 0
GaveEarlier s j x = (q : ℕ) × (q < s.current j) × (s.shared j q x ≡ true)

-- the state after steps
abbrev pub after : Table → State → List Step → State
after T s [] = s
after T s (st ∷ later) = after T (next T s st) later

pub record StepEdges : Type 0 where
  -- ◆ take for p + 1, where that is below P: 9
  pub take_ahead : (T : Table) (s : State) (j k x : ℕ) → Able T s j → Peer T k → x < T.items
      → s.current j + 1 < T.periods
      → answer T s (Take j k (s.current j + 1) x) ≡ 9
  -- ◆ share with t - 1 signers: 12, where document 02's 17 does not come before it
  pub share_short : (T : Table) (s : State) (j x : ℕ) → Able T s j → x < T.items → s.current j < T.periods
      → (GaveEarlier s j x → ⊥)
      → weigh T (s.db j (s.current j) x) + 1 ≡ T.t → answer T s (Share j x) ≡ 12
  -- ◆ second hand of an item in a period: 0, and nothing changes
  pub second_hand : (T : Table) (s : State) (j x : ℕ) → T.clash x x ≡ false
      → answer T s (Hand j x) ≡ 0
      → let u = next T s (Hand j x) in (answer T u (Hand j x) ≡ 0) × (next T u (Hand j x) ≡ u)
  -- the same whatever steps lie between, while the peer is up and in that period
  pub second_hand_later : (T : Table) (s : State) (j x : ℕ) (between : List Step) → T.clash x x ≡ false
      → ((y : ℕ) → T.clash x y ≡ T.clash y x)
      → answer T s (Hand j x) ≡ 0 → let u = after T (next T s (Hand j x)) between in u.down j ≡ false
      → u.current j ≡ s.current j
      → (answer T u (Hand j x) ≡ 0) × (next T u (Hand j x) ≡ u)
