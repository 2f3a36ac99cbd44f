-- The refusals of a step as document 01's table has them: number after number, each with the ops that it is for; and
-- document 02's where it puts them.
use Rattle.std.specs.Prelude.{ℕ, Bool, false, ◌&&◌, ◌||◌, not, List, [], ◌∷◌, ◌≡◌, eqb, ltb}
use Rattle.base.specs.Refusals.{Refusals, name, role, down, period, unknown, clash, given, short, full, numbered, first}
use Rattle.rules.specs.declared.Entry.TheVariants.{Hash, Backing}
use Rattle.rules.specs.declared.Step.{Step}
use Rattle.rules.specs.Table.{Table, quorum, clashing}
use Rattle.rules.specs.Bag.{is_hash, is_backing, entry_at, period_of, board_of, board_named, is_full}
use Rattle.rules.specs.State.{State}
use Rattle.rules.specs.Backed.{unbacked}
use Rattle.rules.specs.Rules.{answer, board_by, backers, no_peer, no_period, no_item, no_board, none_open, not_closed, given_before, unposted}
use Rattle.rules.specs.declared.Fields.{Fields}
use Rattle.rules.specs.Fields.{fields}

abbrev pub one_of : ℕ → List ℕ → Bool
one_of op [] = false
one_of op (n ∷ ops) = eqb op n || one_of op ops

module _ (T : Table) (s : State) (f : Fields) where
  -- the rows, with j the peer, k the other, p and c the peer's counters, x the item and a the entry of the bag that
  -- it numbers
  unfoldable pub by_row : Refusals
  by_row =
      let op = one_of f.op in
      let j = f.peer in
      let k = f.other in
      let x = f.item in
      let p = s.current j in
      let c = s.to_back j in
      let a = entry_at s.bag x in
      -- name: peer, other, period or item (not entry) out of range; board bit m or above
      (name, op (2 ∷ 3 ∷ 4 ∷ 5 ∷ 7 ∷ 8 ∷ 9 ∷ 10 ∷ 11 ∷ 13 ∷ 14 ∷ 15 ∷ 16 ∷ 17 ∷ 18 ∷ []) && no_peer T.n j)
      ∷ (name, op (4 ∷ 8 ∷ []) && no_peer T.n k)
      ∷ (name, op (4 ∷ 6 ∷ 8 ∷ 9 ∷ 13 ∷ 14 ∷ 15 ∷ 16 ∷ 19 ∷ []) && no_period T.periods f.period)
      ∷ (name, op (1 ∷ 2 ∷ 3 ∷ 4 ∷ 5 ∷ 6 ∷ 13 ∷ 14 ∷ []) && no_item T.items x)
      ∷ (name, op (15 ∷ 16 ∷ []) && no_board T.items f.board)
      -- role: honest or dishonest peer needed
      ∷ (role, op (2 ∷ 3 ∷ 4 ∷ 5 ∷ 7 ∷ 8 ∷ 9 ∷ 10 ∷ 11 ∷ 17 ∷ 18 ∷ []) && not (T.honest j))
      ∷ (role, op (8 ∷ []) && not (T.honest k))
      ∷ (role, op (13 ∷ 14 ∷ 15 ∷ 16 ∷ []) && T.honest j)
      -- down: peer (2 to 5, 7 to 11) or other (8) is down
      ∷ (down, op (2 ∷ 3 ∷ 4 ∷ 5 ∷ 7 ∷ 8 ∷ 9 ∷ 10 ∷ 11 ∷ []) && s.down j)
      ∷ (down, op (8 ∷ []) && s.down k)
      -- op 10 judges 10 before 9
      ∷ (unknown, op (10 ∷ []) && not (is_hash a))
      -- period: 2, 3, 5, 7 none open; 4 beyond p; 8, 9, 10 not closed; 11 c = p; and document 02's 19, an honest
      -- peer has yet to back it
      ∷ (period, op (2 ∷ 3 ∷ 5 ∷ 7 ∷ []) && none_open T.periods p)
      ∷ (period, op (4 ∷ []) && ltb p f.period)
      ∷ (period, op (8 ∷ 9 ∷ []) && not_closed p f.period)
      ∷ (period, op (8 ∷ []) && not_closed (s.current k) f.period)
      ∷ (period, op (10 ∷ []) && not_closed p (period_of a))
      ∷ (period, op (11 ∷ []) && not_closed p c)
      ∷ (period, op (19 ∷ []) && unbacked T s.to_back f.period)
      -- unknown: 2, 13 to 16 an item not posted; 3 not held in p; 4 signature absent; 12 entry absent or of another
      -- kind
      ∷ (unknown, op (2 ∷ 13 ∷ 14 ∷ []) && not (s.posted x))
      ∷ (unknown, op (15 ∷ 16 ∷ []) && unposted T s f.board)
      ∷ (unknown, op (3 ∷ []) && not (s.held j p x))
      ∷ (unknown, op (4 ∷ []) && not (s.signed k f.period x))
      ∷ (unknown, op (12 ∷ []) && not (is_backing a))
      -- clash: j holds, in any period, an item that clashes
      ∷ (clash, op (2 ∷ []) && clashing T (s.held j) x)
      -- given, of document 02, after period and before short: 5 j gave one for the item in an earlier period
      ∷ (given, op (5 ∷ []) && given_before (s.shared j) p x)
      -- short: 5, 6, 11, 12 fewer than t
      ∷ (short, op (5 ∷ []) && not (quorum T (s.db j p x)))
      ∷ (short, op (6 ∷ []) && not (quorum T (λ i. s.shared i f.period x)))
      ∷ (short, op (11 ∷ []) && not (quorum T (λ i. s.heard j i c (board_by T s j c))))
      ∷ (short, op (12 ∷ []) && not (quorum T (backers s.bag (period_of a) (board_of a))))
      -- full: a new entry, and 256 are there
      ∷ (full, op (9 ∷ []) && is_full (Hash j f.period (board_by T s j f.period)) s.bag)
      ∷ (full, op (11 ∷ []) && is_full (Backing j c (board_by T s j c)) s.bag)
      ∷ (full, op (12 ∷ []) && is_full (board_named s.bag x) s.bag)
      ∷ (full, op (15 ∷ []) && is_full (Hash j f.period f.board) s.bag)
      ∷ (full, op (16 ∷ []) && is_full (Backing j f.period f.board) s.bag)
      ∷ []

-- the rules, which go step by step, refuse as the table does, which goes number by number
pub record RowEdges : Type 0 where
  pub by_row_lem : (T : Table) (s : State) (st : Step) → answer T s st ≡ first (numbered (by_row T s (fields st)))
