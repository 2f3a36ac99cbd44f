-- The close of a period in a state that was lent, which no steps need lead to. Signatures may be outside that no
-- database has, and the bag may have backings and boards of the period, of any boards.
use Rattle.std.specs.Prelude.{ℕ, ◌<◌, true, false, ◌&&◌, List, [], ◌∷◌, ◌++◌, ◌≡◌, ltb, length}
use Rattle.base.specs.Bits.{bit}
use Rattle.rules.specs.declared.Entry.TheVariants.{Backing}
use Rattle.rules.specs.declared.Step.TheVariants.{Take, Publish}
use Rattle.std.specs.Prelude.{Some}
use Rattle.rules.specs.Table.{Table, quorum}
use Rattle.rules.specs.Bag.{is_in, entry_at, boards_in, capacity}
use Rattle.rules.specs.State.{State}
use Rattle.rules.specs.Form.{read}
use Rattle.rules.specs.Rules.{board_by}
use Rattle.rules.specs.Ideal.{is_there}
use Rattle.rules.specs.Valid.{Peer}
use Rattle.liveness.specs.Union.{union, union_board}
use Rattle.liveness.specs.Places.{Behaviour, step_at, held_at, answer_at}
use Rattle.liveness.specs.Close.{BacksAt, Close}
use Rattle.liveness.specs.InTurn.{CloseInTurn}

module _ (T : Table) (E : Behaviour) (earlier later : List (List ℕ)) (p : ℕ) where
  -- no take of p is accepted: between the calls of the close stand posts and steps for other periods
  abbrev pub NoTakes : Type 0
  NoTakes = (i j k x : ℕ) → step_at later i ≡ Some (Take j k p x) → answer_at E earlier later i ≡ 0 → ⊥

  -- or each that is accepted takes a signature that some peer's database of p has
  abbrev pub NothingNew : Type 0
  NothingNew = (i j k x : ℕ) → step_at later i ≡ Some (Take j k p x) → answer_at E earlier later i ≡ 0
      → union T (held_at E earlier later i) p x k ≡ true

-- After some calls the board U of period p can be published, where the bag was `before` when the close began.
pub record CanPublish (T : Table) (E : Behaviour) (before : State) (calls : List (List ℕ)) (p U : ℕ) : Type 0 where
  -- each peer's backing of it is in the bag, under a number that a call can name
  pub backed : (k : ℕ) → Peer T k → (e : ℕ) × (e < capacity) × (entry_at (E.held calls).bag e ≡ Backing k p U)
  -- every backing of p in the bag is of U, but for those that were there before
  pub only : (e k B : ℕ) → entry_at (E.held calls).bag e ≡ Backing k p B
      → is_in (Backing k p B) before.bag ≡ false → B ≡ U
  -- publishing any backing of U answers 0 unless the bag is full, and then U is published
  pub publishes : (c : List ℕ) (e k : ℕ) → read c ≡ Some (Publish e)
      → entry_at (E.held calls).bag e ≡ Backing k p U → (E.answers calls c ≡ 13 → ⊥)
      → (E.answers calls c ≡ 0) × (is_there (boards_in (E.held (calls ++ (c ∷ []))).bag) p U ≡ true)

-- The promise, where U is the board of the union of the databases as they are after `earlier`, before the first fetch.
pub record LentThrough (T : Table) (E : Behaviour) (earlier later : List (List ℕ)) (p : ℕ) : Type 0 where
  -- its items are those with t signers in the union
  pub items : (x : ℕ) → bit (union_board T (E.held earlier) p) x
      ≡ (ltb x T.items && quorum T (union T (E.held earlier) p x))
  -- the union is the same at every place of `later`, its end too
  pub same_union : (i x k : ℕ) → union T (held_at E earlier later i) p x k ≡ union T (E.held earlier) p x k
  -- each backing of p that is accepted in `later` is of U
  pub of-union : (i j : ℕ) → Peer T j → BacksAt T E earlier later p i j
      → board_by T (held_at E earlier later i) j p ≡ union_board T (E.held earlier) p
  -- and each peer has backed p when `later` ends
  pub over : (k : ℕ) → Peer T k → p < (E.held (earlier ++ later)).to_back k
  -- after `later`, and after any calls whatever that follow, U can be published
  pub publishable : (more : List (List ℕ))
      → CanPublish T E (E.held earlier) ((earlier ++ later) ++ more) p (union_board T (E.held earlier) p)

-- P3 of what those outside see from a store that was lent
pub record ThroughLent (T : Table) (E : Behaviour) : Type 0 where
  -- a close in document 02's order comes through, where no take of p is accepted meanwhile
  pub in_turn : (earlier later : List (List ℕ)) (p : ℕ) → CloseInTurn T E earlier later p → NoTakes T E earlier later p
      → LentThrough T E earlier later p
  -- and so in the order that is needed, where no take of p brings what no database has
  pub in_order : (earlier later : List (List ℕ)) (p : ℕ) → Close T E earlier later p → NothingNew T E earlier later p
      → LentThrough T E earlier later p
  -- where the bag has fewer than 256 entries no call is answered 13
  pub room : (calls : List (List ℕ)) (c : List ℕ) → length (E.held calls).bag < capacity
      → E.answers calls c ≡ 13 → ⊥
