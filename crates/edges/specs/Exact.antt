-- Edges of the steps that demand 3 does not see. An engine that gets one of them wrong may keep demand 3: the exact
-- rules shut it out.
use Rattle.std.specs.Prelude.{ℕ, ◌+◌, ◌≤◌, ◌<◌, Bool, true, false, ◌&&◌, not, ◌≡◌, length}
use Rattle.base.specs.Bits.{bit}
use Rattle.rules.specs.declared.Entry.{Entry}
use Rattle.rules.specs.declared.Entry.TheVariants.{Hash, Backing}
use Rattle.rules.specs.declared.Step.{Step}
use Rattle.rules.specs.declared.Step.TheVariants.{Hand, Sign, Take, Share, Receipt, Close, Fetch, SendHash, Hear, Back, Publish, FalseShare, FalseHash, FalseBacking, ClearHashes}
use Rattle.rules.specs.Table.{Table, weigh}
use Rattle.rules.specs.Bag.{is_in, is_hash, is_hash_of, is_backing, entry_at, period_of, board_of, board_named}
use Rattle.rules.specs.State.{State, with_signed, with_shared, with_db, with_heard}
use Rattle.rules.specs.Rules.{answer, next, board_by, backers}
use Rattle.rules.specs.Repeat.{There}
use Rattle.rules.specs.Valid.{Peer, Cell, BoardIn}
use Rattle.edges.specs.Steps.{Able, GaveEarlier}

-- The peers that a step needs up: the one that acts in steps 2 to 5 and 7 to 11, and the other of step 8. Its other
-- names are in range.
pub data NeedsUp (T : Table) : ℕ → Step → Type 0 where
  hand : (j x : ℕ) → x < T.items → NeedsUp T j (Hand j x)
  sign : (j x : ℕ) → x < T.items → NeedsUp T j (Sign j x)
  take : (j k p x : ℕ) → Peer T k → Cell T p x → NeedsUp T j (Take j k p x)
  share : (j x : ℕ) → x < T.items → NeedsUp T j (Share j x)
  close : (j : ℕ) → NeedsUp T j (Close j)
  fetch : (j k p : ℕ) → Peer T k → T.honest k ≡ true → p < T.periods → NeedsUp T j (Fetch j k p)
  fetch_other : (j k p : ℕ) → Peer T j → T.honest j ≡ true → p < T.periods → NeedsUp T k (Fetch j k p)
  hash : (j p : ℕ) → p < T.periods → NeedsUp T j (SendHash j p)
  hear : (j e : ℕ) → NeedsUp T j (Hear j e)
  back : (j : ℕ) → NeedsUp T j (Back j)

-- j's board of the next period that it backs
abbrev pub own_board : Table → State → ℕ → ℕ
own_board T s j = board_by T s j (s.to_back j)

-- those whose hash of that period and board j has heard
abbrev pub heard_own : Table → State → ℕ → ℕ → Bool
heard_own T s j k = s.heard j k (s.to_back j) (own_board T s j)

-- those that back the period and board of entry e
abbrev pub backers_at : State → ℕ → ℕ → Bool
backers_at s e = backers s.bag (period_of (entry_at s.bag e)) (board_of (entry_at s.bag e))

-- The peers that a step counts towards t, once it has passed the tests before that.
pub data Counts (T : Table) (s : State) : Step → (ℕ → Bool) → Type 0 where
  signers : (j x : ℕ) → Able T s j → x < T.items → s.current j < T.periods → (GaveEarlier s j x → ⊥)
      → Counts T s (Share j x) (s.db j (s.current j) x)
  sharers : (p x : ℕ) → Cell T p x → Counts T s (Receipt p x) (λ k. s.shared k p x)
  heard_signers : (j : ℕ) → Able T s j → s.to_back j < s.current j → Counts T s (Back j) (heard_own T s j)
  backed : (e : ℕ) → is_backing (entry_at s.bag e) ≡ true → Counts T s (Publish e) (backers_at s e)

-- every item of a board is posted
abbrev pub AllPosted : Table → State → ℕ → Type 0
AllPosted T s B = (x : ℕ) → x < T.items → bit B x ≡ true → s.posted x ≡ true

-- The entry that a step is to put into the bag, once it has passed the tests before that.
pub data Enters (T : Table) (s : State) : Step → Entry → Type 0 where
  own_hash : (j p : ℕ) → Able T s j → p < T.periods → p < s.current j
      → Enters T s (SendHash j p) (Hash j p (board_by T s j p))
  own_backing : (j : ℕ) → Able T s j → s.to_back j < s.current j → T.t ≤ weigh T (heard_own T s j)
      → Enters T s (Back j) (Backing j (s.to_back j) (own_board T s j))
  board : (e : ℕ) → is_backing (entry_at s.bag e) ≡ true → T.t ≤ weigh T (backers_at s e)
      → Enters T s (Publish e) (board_named s.bag e)
  false_hash : (j p B : ℕ) → Peer T j → BoardIn T p B → T.honest j ≡ false → AllPosted T s B
      → Enters T s (FalseHash j p B) (Hash j p B)
  false_backing : (j p B : ℕ) → Peer T j → BoardIn T p B → T.honest j ≡ false → AllPosted T s B
      → Enters T s (FalseBacking j p B) (Backing j p B)

-- The receipt shares that a step looks at: a receipt at those on its item in its period, a share at the peer's own on
-- the item in earlier periods.
pub data Sees (s : State) : Step → ℕ → ℕ → ℕ → Type 0 where
  sharer : (k p x : ℕ) → Sees s (Receipt p x) k p x
  own : (j q x : ℕ) → q < s.current j → Sees s (Share j x) j q x

-- what is held but for the receipt shares
abbrev pub shares_aside : State → State
shares_aside s = with_shared s (λ k p x. false)

pub record ExactEdges (T : Table) (s : State) : Type 0 where
  -- a step that is refused changes nothing
  pub refused : (st : Step) → (answer T s st ≡ 0 → ⊥) → next T s st ≡ s
  -- one that is answered 0 has its effect: it is there afterwards; close and back raise their counter by one
  pub stored : (st : Step) → ((j : ℕ) → st ≡ Close j → ⊥) → ((j : ℕ) → st ≡ Back j → ⊥) → answer T s st ≡ 0
      → There T (next T s st) st
  pub closes : (j : ℕ) → answer T s (Close j) ≡ 0 → (next T s (Close j)).current j ≡ s.current j + 1
  pub backs : (j : ℕ) → answer T s (Back j) ≡ 0
      → let u = next T s (Back j) in
      (u.to_back j ≡ s.to_back j + 1) × (is_in (Backing j (s.to_back j) (own_board T s j)) u.bag ≡ true)
  -- the two counters of a peer move only through close and back
  pub current_kept : (j : ℕ) (st : Step) → (st ≡ Close j → ⊥) → (next T s st).current j ≡ s.current j
  pub to_back_kept : (j : ℕ) (st : Step) → (st ≡ Back j → ⊥) → (next T s st).to_back j ≡ s.to_back j
  -- 8: where a peer that the step needs up is down, whatever stands further down document 01's table; never where all
  -- are up
  pub down : (j : ℕ) (st : Step) → NeedsUp T j st → Peer T j → T.honest j ≡ true → s.down j ≡ true → answer T s st ≡ 8
  pub all_up : (st : Step) → ((j : ℕ) → s.down j ≡ false) → answer T s st ≡ 8 → ⊥
  -- 9: a take for any period beyond p, and for no other
  pub take_beyond : (j k p x : ℕ) → Able T s j → Peer T k → Cell T p x → s.current j < p
      → answer T s (Take j k p x) ≡ 9
  pub take_within : (j k p x : ℕ) → p ≤ s.current j → answer T s (Take j k p x) ≡ 9 → ⊥
  -- 10 before 9 in step 10: an entry that is absent or of another kind, whatever its period; 9 for a hash of a period
  -- that is not closed
  pub hear_absent : (j e : ℕ) → Able T s j → length s.bag ≤ e → answer T s (Hear j e) ≡ 10
  pub hear_kind : (j e : ℕ) → Able T s j → is_hash (entry_at s.bag e) ≡ false → answer T s (Hear j e) ≡ 10
  pub hear_open : (j e : ℕ) → Able T s j → is_hash (entry_at s.bag e) ≡ true
      → s.current j ≤ period_of (entry_at s.bag e) → answer T s (Hear j e) ≡ 9
  -- 17: to a share alone, and exactly where the peer gave one on the item in an earlier period, whoever signed it: so
  -- before 12; but after 9
  pub given : (j x : ℕ) → Able T s j → x < T.items → s.current j < T.periods → GaveEarlier s j x
      → answer T s (Share j x) ≡ 17
  pub given_only : (st : Step) → answer T s st ≡ 17 → (j : ℕ) × ((x : ℕ) × (st ≡ Share j x) × GaveEarlier s j x)
  pub share_closed : (j x : ℕ) → Able T s j → x < T.items → T.periods ≤ s.current j → answer T s (Share j x) ≡ 9
  -- a share given again in its own period: 0, and nothing changes
  pub share_again : (j x : ℕ) → answer T s (Share j x) ≡ 0
      → let u = next T s (Share j x) in (answer T u (Share j x) ≡ 0) × (next T u (Share j x) ≡ u)
  -- 12: exactly where those that the step counts are fewer than t
  pub short : (st : Step) (S : ℕ → Bool) → Counts T s st S → weigh T S < T.t → answer T s st ≡ 12
  pub enough : (st : Step) (S : ℕ → Bool) → Counts T s st S → T.t ≤ weigh T S → answer T s st ≡ 12 → ⊥
  -- hashes heard of other boards make no difference to a back
  pub back_others : (j : ℕ) (heard : ℕ → ℕ → ℕ → ℕ → Bool)
      → ((k : ℕ) → heard j k (s.to_back j) (own_board T s j) ≡ heard_own T s j k)
      → answer T (with_heard s heard) (Back j) ≡ answer T s (Back j)
  -- 13: exactly where the entry is not there and 256 are; an entry that is there, or room for it: 0
  pub full_new : (st : Step) (a : Entry) → Enters T s st a → is_in a s.bag ≡ false → 256 ≤ length s.bag
      → answer T s st ≡ 13
  pub full_there : (st : Step) (a : Entry) → Enters T s st a → is_in a s.bag ≡ true → answer T s st ≡ 0
  pub full_room : (st : Step) (a : Entry) → Enters T s st a → length s.bag < 256 → answer T s st ≡ 0
  pub full_only : (st : Step) → answer T s st ≡ 13 → 256 ≤ length s.bag
  -- 19: 9 exactly where an honest peer has yet to back the period, which its c says, whatever the bag has and whoever
  -- is down; else the period's hashes go, and nothing else of the bag
  pub clear_early : (j p : ℕ) → Peer T j → T.honest j ≡ true → p < T.periods → s.to_back j ≤ p
      → answer T s (ClearHashes p) ≡ 9
  pub clear_taken : (p : ℕ) → p < T.periods → ((j : ℕ) → T.honest j ≡ true → Peer T j → p < s.to_back j)
      → answer T s (ClearHashes p) ≡ 0
  pub clear_goes : (p : ℕ) → answer T s (ClearHashes p) ≡ 0 → (a : Entry)
      → is_in a (next T s (ClearHashes p)).bag ≡ (not (is_hash_of p a) && is_in a s.bag)
  -- A receipt share never counts as a signature: a take of what was not signed answers 10, and no step looks at shares
  -- but receipt and share, and they only at those of `Sees`. So an item may be held and signed again.
  pub take_unsigned : (j k p x : ℕ) → Able T s j → Peer T k → Cell T p x → p ≤ s.current j
      → s.signed k p x ≡ false → answer T s (Take j k p x) ≡ 10
  pub shares_unseen : (st : Step) (shared : ℕ → ℕ → ℕ → Bool)
      → ((k p x : ℕ) → Sees s st k p x → shared k p x ≡ s.shared k p x)
      → let u = with_shared s shared in
      (answer T u st ≡ answer T s st) × (shares_aside (next T u st) ≡ shares_aside (next T s st))
  -- Nor the reverse: receipt does not look at signatures, and no step but share and false share makes a share.
  pub signatures_unseen : (p x : ℕ) (signed : ℕ → ℕ → ℕ → Bool) (db : ℕ → ℕ → ℕ → ℕ → Bool)
      → answer T (with_db (with_signed s signed) db) (Receipt p x) ≡ answer T s (Receipt p x)
  pub shares_kept : (st : Step) → ((j x : ℕ) → st ≡ Share j x → ⊥) → ((j p x : ℕ) → st ≡ FalseShare j p x → ⊥)
      → (next T s st).shared ≡ s.shared
