-- The exchange of document 02 as a list of calls: every peer fetches from every other, each sends its hash, each hears
-- all of these, and each backs.
use Rattle.std.specs.Prelude.{ℕ, ◌+◌, ◌-◌, ◌*◌, ◌/◌, ◌%◌, ◌≤◌, ◌<◌, cond, List, [], ◌∷◌, ◌++◌, ◌≡◌, ltb, length}
use Rattle.base.specs.Bytes.{byte_at}
use Rattle.base.specs.Tab.{tab}
use Rattle.rules.specs.declared.Entry.TheVariants.{Hash}
use Rattle.rules.specs.declared.Step.{Step}
use Rattle.rules.specs.declared.Step.TheVariants.{Fetch, SendHash, Hear, Back, Publish}
use Rattle.rules.specs.Table.{Table}
use Rattle.rules.specs.Bag.{place_in, capacity}
use Rattle.rules.specs.State.{State}
use Rattle.rules.specs.Rules.{board_by}
use Rattle.form.specs.Written.{written}
use Rattle.liveness.specs.Union.{union_board}
use Rattle.liveness.specs.Places.{Behaviour, call_at}
use Rattle.liveness.specs.Close.{Closed}
use Rattle.liveness.specs.InTurn.{CloseInTurn}
use Rattle.liveness.specs.Through.{TheBoard}
use Rattle.liveness.specs.Lent.{NoTakes}

-- a call for each of the peers 1 to n
abbrev pub for_peers : ℕ → (ℕ → Step) → List (List ℕ)
for_peers n f = tab n (λ i. written (f (i + 1)))

-- for each of them and each peer
abbrev pub for_pairs : ℕ → (ℕ → ℕ → Step) → List (List ℕ)
for_pairs n f = tab (n * n) (λ i. written (f (i / n + 1) (i % n + 1)))

-- for each of them and each other: the peers but j, counted from 0, are 1, .., j - 1, j + 1, ..
abbrev pub other_than : ℕ → ℕ → ℕ
other_than j r = cond (ltb (r + 1) j) (r + 1) (r + 2)

abbrev pub for_others : ℕ → (ℕ → ℕ → Step) → List (List ℕ)
for_others n f = tab (n * (n - 1)) (λ i. let j = i / (n - 1) + 1 in written (f j (other_than j (i % (n - 1)))))

-- every peer fetches from every other, and each sends its hash
abbrev pub fetch_and_hash : ℕ → ℕ → List (List ℕ)
fetch_and_hash n p = for_others n (λ j k. Fetch j k p) ++ for_peers n (λ j. SendHash j p)

-- each hears all of these, where k's hash has the number `entry k`, and each backs
abbrev pub hear_and_back : ℕ → (ℕ → ℕ) → List (List ℕ)
hear_and_back n entry = for_pairs n (λ j k. Hear j (entry k)) ++ for_peers n Back

-- the number of the hash of k's board of p
abbrev pub hash_number : Table → State → ℕ → ℕ → ℕ
hash_number T s p k = place_in s.bag (Hash k p (board_by T s k p))

-- the whole exchange, after `earlier`
abbrev pub schedule : Table → Behaviour → List (List ℕ) → ℕ → List (List ℕ)
schedule T E earlier p =
    let first = fetch_and_hash T.n p in
    first ++ hear_and_back T.n (hash_number T (E.held (earlier ++ first)) p)

-- the bag has room for a hash and a backing of each peer
abbrev pub Room : Table → State → Type 0
Room T s = length s.bag + 2 * T.n ≤ capacity

-- after any calls that leave all peers up, with p closed and c = p, and with room in the bag
module _ (T : Table) (E : Behaviour) where
  pub record CanClose : Type 0 where
    -- the schedule is a close, in document 02's order
    pub closes : (earlier : List (List ℕ)) (p : ℕ) → Closed T (E.held earlier) p → Room T (E.held earlier)
        → CloseInTurn T E earlier (schedule T E earlier p) p
    -- and with room for the board too, one call more makes the union's board that of the period
    pub board_comes : (earlier : List (List ℕ)) (p : ℕ) → Closed T (E.held earlier) p
        → length (E.held earlier).bag + 2 * T.n < capacity
        → let scheduled = earlier ++ schedule T E earlier p in
        (e : ℕ) × (e < capacity)
        × TheBoard (E.held (scheduled ++ (written (Publish e) ∷ []))) p (union_board T (E.held earlier) p)

  -- each call of the schedule is thirteen bytes
  pub record InBytes (earlier : List (List ℕ)) (p i : ℕ) : Type 0 where
    pub thirteen : length (call_at (schedule T E earlier p) i) ≡ 13
    pub bytes : (b : ℕ) → byte_at (call_at (schedule T E earlier p) i) b < 256

  abbrev pub MadeOfBytes : Type 0
  MadeOfBytes = (earlier : List (List ℕ)) (p : ℕ) → Closed T (E.held earlier) p → Room T (E.held earlier)
      → (i : ℕ) → i < length (schedule T E earlier p) → InBytes earlier p i

  -- from a store that was lent the schedule is one too, and it has no takes
  abbrev pub LentCanClose : Type 0
  LentCanClose = (earlier : List (List ℕ)) (p : ℕ) → Closed T (E.held earlier) p → Room T (E.held earlier)
      → CloseInTurn T E earlier (schedule T E earlier p) p × NoTakes T E earlier (schedule T E earlier p) p
