-- The close of a period: what document 02's P3 supposes of a list of calls, in the order that is needed.
use Rattle.std.specs.Prelude.{ℕ, ◌<◌, Bool, true, false, List, ◌≡◌, length}
use Rattle.rules.specs.declared.Entry.TheVariants.{Hash}
use Rattle.rules.specs.declared.Step.TheVariants.{Fetch, SendHash, Hear, Back, Down}
use Rattle.std.specs.Prelude.{Some}
use Rattle.rules.specs.Table.{Table, quorum}
use Rattle.rules.specs.Bag.{entry_at}
use Rattle.rules.specs.State.{State}
use Rattle.rules.specs.Rules.{board_by}
use Rattle.rules.specs.Valid.{Peer}
use Rattle.rules.specs.Demand3.{Premise}
use Rattle.liveness.specs.Places.{Behaviour, step_at, held_at, answer_at}

-- a table that meets demand 3's premise, and all of whose peers are honest
pub record AllHonest (T : Table) : Type 0 where
  pub premise : Premise T
  pub honest : (k : ℕ) → Peer T k → T.honest k ≡ true

-- all are up, all have closed period p, and each has c = p
pub record Closed (T : Table) (s : State) (p : ℕ) : Type 0 where
  pub up : (k : ℕ) → Peer T k → s.down k ≡ false
  pub closed : (k : ℕ) → Peer T k → p < s.current k
  pub due : (k : ℕ) → Peer T k → s.to_back k ≡ p

-- The calls of `earlier`, and then those of `later`, in which the exchange of period p stands. Any other calls, of any
-- bytes, may stand between.
module _ (T : Table) (E : Behaviour) (earlier later : List (List ℕ)) (p : ℕ) where
  -- the places of the exchange in `later`, where j hears the hashes of those k for which `listens j k`
  pub record Exchange (listens : ℕ → ℕ → Bool) : Type 0 where
    -- every peer fetches from every other
    pub fetch_at : ℕ → ℕ → ℕ
    pub fetches : (j k : ℕ) → Peer T j → Peer T k → (j ≡ k → ⊥) → step_at later (fetch_at j k) ≡ Some (Fetch j k p)
    -- each sends its hash
    pub hash_at : ℕ → ℕ
    pub sends : (j : ℕ) → Peer T j → step_at later (hash_at j) ≡ Some (SendHash j p)
    -- each hears hashes: the entry that j names is the hash that k sent there
    pub hear_at : ℕ → ℕ → ℕ
    pub entry : ℕ → ℕ → ℕ
    pub hears : (j k : ℕ) → Peer T j → Peer T k → listens j k ≡ true
        → step_at later (hear_at j k) ≡ Some (Hear j (entry j k))
    pub of_these : (j k : ℕ) → Peer T j → Peer T k → listens j k ≡ true
        → entry_at (held_at E earlier later (hear_at j k)).bag (entry j k)
        ≡ Hash k p (board_by T (held_at E earlier later (hash_at k)) k p)
    -- and each backs
    pub back_at : ℕ → ℕ
    pub backs : (j : ℕ) → Peer T j → step_at later (back_at j) ≡ Some (Back j)

  -- at place i a back by j is accepted while j's c is p
  pub record BacksAt (i j : ℕ) : Type 0 where
    pub called : step_at later i ≡ Some (Back j)
    pub of_p : (held_at E earlier later i).to_back j ≡ p
    pub taken : answer_at E earlier later i ≡ 0

  pub record InOrder {listens : ℕ → ℕ → Bool} (X : Exchange listens) : Type 0 where
    -- each of j's fetches comes before j's hash
    pub fetch_first : (j k : ℕ) → Peer T j → Peer T k → (j ≡ k → ⊥) → X.fetch_at j k < X.hash_at j
    -- k's hash before j hears it
    pub hash_first : (j k : ℕ) → Peer T j → Peer T k → listens j k ≡ true → X.hash_at k < X.hear_at j k
    -- what j hears before j's back
    pub hear_first : (j k : ℕ) → Peer T j → Peer T k → listens j k ≡ true → X.hear_at j k < X.back_at j
    -- j's fetches before j's back: asked only where j does not hear its own hash, since else it follows
    pub back_last : (j k : ℕ) → Peer T j → Peer T k → (j ≡ k → ⊥) → listens j j ≡ false → X.fetch_at j k < X.back_at j
    -- no backing of p by j before j's last fetch
    pub none_early : (j k : ℕ) → Peer T j → Peer T k → (j ≡ k → ⊥) → (i : ℕ) → BacksAt i j → X.fetch_at j k < i

  -- no peer goes down, and the bag is never full: no call is answered 13
  pub record Undisturbed : Type 0 where
    pub none_down : (i j : ℕ) → Peer T j → step_at later i ≡ Some (Down j) → ⊥
    pub never_full_lem : (i : ℕ) → i < length later → answer_at E earlier later i ≡ 13 → ⊥

  -- the close, in which each peer hears a quorum of the hashes
  pub record Close : Type 0 where
    pub closed : Closed T (E.held earlier) p
    pub listens : ℕ → ℕ → Bool
    pub enough : (j : ℕ) → Peer T j → quorum T (listens j) ≡ true
    pub exchange : Exchange listens
    pub in_order : InOrder exchange
    pub undisturbed : Undisturbed
