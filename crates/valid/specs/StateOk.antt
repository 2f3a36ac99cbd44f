-- Row 14: a buffer that is a state of the table. Its length is right; every set, counter, flag and entry is within
-- the table's ranges; c is at most p; no two entries are the same; every heard number is a hash entry;
-- every unused byte is 0.
use Rattle.std.specs.Prelude.{ℕ, ◌+◌, ◌*◌, Bool, cond, ◌&&◌, ◌||◌, not, List, eqb, leb, ltb, length}
use Rattle.base.specs.Below.{every}
use Rattle.bits.specs.Row.{bit_at}
use Rattle.rules.specs.declared.Entry.{Entry}
use Rattle.rules.specs.Bag.{is_hash, entry_at}
use Rattle.state.specs.declared.Fact.{Fact}
use Rattle.state.specs.declared.Fact.TheVariants.{Posted, Signed, Shared, Receipted, Held, Known, Heard}
use Rattle.state.specs.declared.Number.TheVariants.{CurrentOf, ToBackOf, DownOf}
use Rattle.state.specs.Layout.{peers, current_at, size}
use Rattle.state.specs.Places.{fact_at}
use Rattle.state.specs.Contents.{Contents, contents}
use Rattle.header.specs.declared.Head.{Head}
use Rattle.bag_valid.specs.BagOk.{is_peer, bag_ok}

module _ (h : Head) where
  -- names of the table
  abbrev pub is_cell : ℕ → ℕ → Bool
  is_cell p i = ltb p h.periods && ltb i h.items

  abbrev pub is_spot : ℕ → ℕ → ℕ → Bool
  is_spot k p i = is_peer h k && is_cell p i

  -- a fact is of the table, and what is heard is a hash entry
  abbrev pub fact_ok : List Entry → Fact → Bool
  fact_ok bag (Posted i) = ltb i h.items
  fact_ok bag (Signed k p i) = is_spot k p i
  fact_ok bag (Shared k p i) = is_spot k p i
  fact_ok bag (Receipted p i) = is_cell p i
  fact_ok bag (Held j p i) = is_spot j p i
  fact_ok bag (Known j p i k) = is_peer h j && is_spot k p i
  fact_ok bag (Heard j e) = is_peer h j && is_hash (entry_at bag e)

  -- every fact that is there is of the table
  unfoldable pub facts_ok : List ℕ → Bool
  facts_ok s = every (8 * current_at) (λ a. not (bit_at s a) || fact_ok (contents s).bag (fact_at a))

  -- of peer j: p is at most P, c at most p, and the flag d is 0 or 1;
  -- a peer that the table does not have has none of these
  unfoldable pub numbers_ok : ℕ → ℕ → ℕ → ℕ → Bool
  numbers_ok j p c d = cond (leb j h.n) (leb p h.periods && (leb c p && leb d 1)) (eqb (p + c + d) 0)

  -- the three numbers of peer j
  unfoldable pub peer_ok : Contents → ℕ → Bool
  peer_ok c j = numbers_ok j (c.number (CurrentOf j)) (c.number (ToBackOf j)) (c.number (DownOf j))

  -- so it is of each peer for which there is room
  unfoldable pub peers_ok : List ℕ → Bool
  peers_ok s = every peers (λ i. peer_ok (contents s) (i + 1))

  -- row 14, with that of the bag
  unfoldable pub state_ok : List ℕ → Bool
  state_ok s = eqb (length s) size && (bag_ok h s && (peers_ok s && facts_ok s))
