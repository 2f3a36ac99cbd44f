-- The rules of the field peer: of each thing that comes its refusals, in the order in which they are judged, what it
-- does to the box, and what is sent. It sees its own box and what comes, and nothing else.
use Rattle.std.specs.Prelude.{ℕ, ◌+◌, Bool, true, false, cond, ◌&&◌, ◌||◌, not, [], ◌∷◌, eqb, ltb}
use Rattle.std.proofs.Math.Option.{Option, none, some}
use Rattle.base.specs.Refusals.{Refusals, name, role, down, period, unknown, clash, given, short, full, numbered, first}
use Rattle.base.specs.Below.{any}
use Rattle.base.specs.Sets.{add2, add3}
use Rattle.rules.specs.declared.Entry.TheVariants.{Hash}
use Rattle.rules.specs.Table.{Table, quorum, clashing}
use Rattle.rules.specs.Bag.{is_in, enter, is_full}
use Rattle.rules.specs.Rules.{board_from, given_before, no_peer, no_period, no_item, no_board, none_open, not_closed}
use Rattle.field_rules.specs.Box.{Box, box_down, box_held, box_db, box_gave, box_current, box_to_back, box_heard}
use Rattle.field_rules.specs.Message.{Message, handed, taken, fetched, told, signs, shares, closes, hashes, backs, falls, rises, Sent, signature, share, hash, backing, row_items, row_peers}

-- rows that have an item or a signer out of the table's range
unfoldable pub stray_rows : Table → (ℕ → ℕ → Bool) → Bool
stray_rows T rows = any row_items
    (λ x. any row_peers (λ k. rows x (k + 1) && (no_item T.items x || no_peer T.n (k + 1))))

-- a database with the signers of rows, by item, added in period p
unfoldable pub own_rows : ℕ → (ℕ → ℕ → Bool) → (ℕ → ℕ → ℕ → Bool) → ℕ → ℕ → ℕ → Bool
own_rows p rows db q x k = (eqb q p && rows x k) || db q x k

-- the peer's board of period p
abbrev pub own_board : Table → Box → ℕ → ℕ
own_board T b p = board_from T (b.db p)

-- the refusals in the order in which they are judged; where none applies, the box after it, and what is sent
pub record FieldRule : Type 0 where
  pub refusals : Refusals
  pub effect : Box
  pub sends : Option Sent

module _ (T : Table) (j : ℕ) (b : Box) where
  -- The rule of each, under its op and document 01's words, for peer j: k is the other, x an item, B a board; p and c
  -- are b.current and b.to_back.
  unfoldable pub field_rule : Message → FieldRule
  -- 2, hand: j holds the item in p
  field_rule (handed x) = record {
    refusals =
        (name, no_item T.items x)
        ∷ (down, b.down)
        ∷ (period, none_open T.periods b.current)
        ∷ (clash, clashing T b.held x)
        ∷ [];
    effect = box_held b (add2 b.current x b.held);
    sends = none;
  }
  -- 4, take: the signature enters j's database, for the open period or a closed one
  field_rule (taken k p x) = record {
    refusals =
        (name, no_peer T.n k)
        ∷ (name, no_period T.periods p)
        ∷ (name, no_item T.items x)
        ∷ (down, b.down)
        ∷ (period, ltb b.current p)
        ∷ [];
    effect = box_db b (add3 p x k b.db);
    sends = none;
  }
  -- 8, fetch: j adds the other's database of a period that it has closed
  field_rule (fetched k p rows) = record {
    refusals =
        (name, no_peer T.n k)
        ∷ (name, no_period T.periods p)
        ∷ (name, stray_rows T rows)
        ∷ (down, b.down)
        ∷ (period, not_closed b.current p)
        ∷ [];
    effect = box_db b (own_rows p rows b.db);
    sends = none;
  }
  -- 10, hear: j notes a hash of a closed period; full is for its own store, of 256, since it cannot see the bag
  field_rule (told k p B) = record {
    refusals =
        (name, no_peer T.n k)
        ∷ (name, no_period T.periods p)
        ∷ (name, no_board T.items B)
        ∷ (down, b.down)
        ∷ (period, not_closed b.current p)
        ∷ (full, is_full (Hash k p B) b.heard)
        ∷ [];
    effect = box_heard b (enter (Hash k p B) b.heard);
    sends = none;
  }
  -- 3, sign: j's signature on an item held in p goes outside and into j's database
  field_rule (signs x) = record {
    refusals =
        (name, no_item T.items x)
        ∷ (down, b.down)
        ∷ (period, none_open T.periods b.current)
        ∷ (unknown, not (b.held b.current x))
        ∷ [];
    effect = box_db b (add3 b.current x j b.db);
    sends = some (signature b.current x);
  }
  -- 5, share: j holds t signers on the item in p, and gave no share for it in an earlier period; its share goes outside
  field_rule (shares x) = record {
    refusals =
        (name, no_item T.items x)
        ∷ (down, b.down)
        ∷ (period, none_open T.periods b.current)
        ∷ (given, given_before b.gave b.current x)
        ∷ (short, not (quorum T (b.db b.current x)))
        ∷ [];
    effect = box_gave b (add2 b.current x b.gave);
    sends = some (share b.current x);
  }
  -- 7, close: p rises by one
  field_rule closes = record {
    refusals = (down, b.down) ∷ (period, none_open T.periods b.current) ∷ [];
    effect = box_current b (b.current + 1);
    sends = none;
  }
  -- 9, hash: j's board of the closed period goes outside as a hash
  field_rule (hashes p) = record {
    refusals = (name, no_period T.periods p) ∷ (down, b.down) ∷ (period, not_closed b.current p) ∷ [];
    effect = b;
    sends = some (hash p (own_board T b p));
  }
  -- 11, back: t different signers among the heard hashes have j's board of period c; that backing goes outside, c rises
  field_rule backs = let c = b.to_back in let B = own_board T b c in record {
    refusals =
        (down, b.down)
        ∷ (period, not_closed b.current c)
        ∷ (short, not (quorum T (λ k. is_in (Hash k c B) b.heard)))
        ∷ [];
    effect = box_to_back b (c + 1);
    sends = some (backing c B);
  }
  -- 17, down, and 18, up
  field_rule falls = record { refusals = []; effect = box_down b true; sends = none }
  field_rule rises = record { refusals = []; effect = box_down b false; sends = none }

-- The answer, the box after it, and what is sent.
pub record Handled : Type 0 where
  pub answer : ℕ
  pub after : Box
  pub sent : Option Sent

-- the first refusal that applies, the peer's own name and role before all others, or 0
unfoldable pub handle_answer : Table → ℕ → Box → Message → ℕ
handle_answer T j b m =
    first (numbered ((name, no_peer T.n j) ∷ (role, not (T.honest j)) ∷ (field_rule T j b m).refusals))

-- a refusal changes and sends nothing; what is answered 0 sends, a repeat again
unfoldable pub handle : Table → ℕ → Box → Message → Handled
handle T j b m =
    let a = handle_answer T j b m in
    let r = field_rule T j b m in
    record { answer = a; after = cond (eqb a 0) r.effect b; sent = cond (eqb a 0) r.sends none }

-- a repeat of it is done already: what it asks for is sent again, and nothing changes. A second back is none: it is of
-- the next period
unfoldable pub repeats : Message → Bool
repeats (signs x) = true
repeats (shares x) = true
repeats (hashes p) = true
repeats (handed x) = false
repeats (taken k p x) = false
repeats (fetched k p rows) = false
repeats (told k p B) = false
repeats closes = false
repeats backs = false
repeats falls = false
repeats rises = false
