-- What is promised of a close: it comes through.
use Rattle.std.specs.Prelude.{ℕ, ◌<◌, true, ◌&&◌, List, [], ◌∷◌, ◌++◌, ◌≡◌, ltb, length}
use Rattle.base.specs.Bits.{bit}
use Rattle.rules.specs.declared.Entry.TheVariants.{Backing}
use Rattle.rules.specs.declared.Step.TheVariants.{Publish}
use Rattle.std.specs.Prelude.{Some}
use Rattle.rules.specs.Table.{Table, quorum}
use Rattle.rules.specs.Bag.{entry_at, boards_in, capacity}
use Rattle.rules.specs.State.{State}
use Rattle.rules.specs.Form.{read}
use Rattle.rules.specs.Ideal.{is_there}
use Rattle.rules.specs.Valid.{Peer}
use Rattle.liveness.specs.Union.{union, union_board}
use Rattle.liveness.specs.Places.{Behaviour, held_at, answer_at}
use Rattle.liveness.specs.Close.{Close}
use Rattle.liveness.specs.InTurn.{CloseInTurn}

-- U is the board of period p: it is published, and no other is
pub record TheBoard (s : State) (p U : ℕ) : Type 0 where
  pub stands : is_there (boards_in s.bag) p U ≡ true
  pub alone : (B : ℕ) → is_there (boards_in s.bag) p B ≡ true → B ≡ U

-- After some calls the board U of period p can be published.
pub record Publishable (T : Table) (E : Behaviour) (calls : List (List ℕ)) (p U : ℕ) : Type 0 where
  -- each peer's backing of it is in the bag, under a number that a call can name
  pub backed : (k : ℕ) → Peer T k → (e : ℕ) × (e < capacity) × (entry_at (E.held calls).bag e ≡ Backing k p U)
  -- every backing of p in the bag is of U
  pub only : (e k B : ℕ) → entry_at (E.held calls).bag e ≡ Backing k p B → B ≡ U
  -- publishing any of them answers 0 unless the bag is full, and then the period's board is U
  pub publishes : (c : List ℕ) (e k B : ℕ) → read c ≡ Some (Publish e)
      → entry_at (E.held calls).bag e ≡ Backing k p B → (E.answers calls c ≡ 13 → ⊥)
      → (E.answers calls c ≡ 0) × TheBoard (E.held (calls ++ (c ∷ []))) p U

-- The promise, where U is the board of the union of the databases as they are after `earlier`, before the first fetch.
pub record ComesThrough (T : Table) (E : Behaviour) (earlier later : List (List ℕ)) (p : ℕ) : Type 0 where
  -- its items are those with t signers in the union
  pub items : (x : ℕ) → bit (union_board T (E.held earlier) p) x
      ≡ (ltb x T.items && quorum T (union T (E.held earlier) p x))
  -- the union is the same at every place of `later`, its end too
  pub same_union : (i x k : ℕ) → union T (held_at E earlier later i) p x k ≡ union T (E.held earlier) p x k
  -- after `later`, and after any calls whatever that follow, U can be published
  pub publishable : (more : List (List ℕ))
      → Publishable T E ((earlier ++ later) ++ more) p (union_board T (E.held earlier) p)

-- P3 of an engine
pub record AlwaysThrough (T : Table) (E : Behaviour) : Type 0 where
  -- whatever the calls, a close comes through
  pub through : (earlier later : List (List ℕ)) (p : ℕ) → Close T E earlier later p → ComesThrough T E earlier later p
  -- and so in document 02's order
  pub through_in_turn : (earlier later : List (List ℕ)) (p : ℕ) → CloseInTurn T E earlier later p
      → ComesThrough T E earlier later p
  -- where the bag has fewer than 256 entries no call is answered 13; so it is never full if this holds at each place
  pub room : (calls : List (List ℕ)) (c : List ℕ) → length (E.held calls).bag < capacity
      → E.answers calls c ≡ 13 → ⊥
  pub room_at : (earlier later : List (List ℕ)) (i : ℕ) → length (held_at E earlier later i).bag < capacity
      → answer_at E earlier later i ≡ 13 → ⊥
