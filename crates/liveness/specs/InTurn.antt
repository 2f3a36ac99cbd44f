-- The close of a period in document 02's own order.
use Rattle.std.specs.Prelude.{ℕ, ◌<◌, Bool, true, List, ◌≡◌}
use Rattle.rules.specs.Table.{Table}
use Rattle.rules.specs.Valid.{Peer}
use Rattle.liveness.specs.Places.{Behaviour}
use Rattle.liveness.specs.Close.{Closed, Exchange, BacksAt, Undisturbed}

-- each hears all of the hashes, its own too
abbrev pub everyone : ℕ → ℕ → Bool
everyone j k = true

module _ (T : Table) (E : Behaviour) (earlier later : List (List ℕ)) (p : ℕ) where
  -- every peer fetches from every other, after which each sends its hash, each hears all of these, and each backs,
  -- with no backing of p before the last fetch
  pub record InTurn (X : Exchange T E earlier later p everyone) : Type 0 where
    pub fetches_first : (j k i : ℕ) → Peer T j → Peer T k → (j ≡ k → ⊥) → Peer T i → X.fetch_at j k < X.hash_at i
    pub hashes_first : (j k i : ℕ) → Peer T j → Peer T k → Peer T i → X.hash_at i < X.hear_at j k
    pub hears_first : (j k i : ℕ) → Peer T j → Peer T k → Peer T i → X.hear_at j k < X.back_at i
    pub none_early : (j k l : ℕ) → Peer T j → Peer T k → (j ≡ k → ⊥) → Peer T l → (i : ℕ)
        → BacksAt T E earlier later p i l → X.fetch_at j k < i

  pub record CloseInTurn : Type 0 where
    pub closed : Closed T (E.held earlier) p
    pub exchange : Exchange T E earlier later p everyone
    pub in_turn : InTurn exchange
    pub undisturbed : Undisturbed T E earlier later p
