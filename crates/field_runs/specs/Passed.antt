-- The rehearsal's side: what a step passes to peer j, what j sends with it, and j's part of the state.
use Rattle.std.specs.Prelude.{ℕ, Bool, cond, ◌&&◌, not, List, eqb, ltb}
use Rattle.std.proofs.Math.Option.{Option, none, some}
use Rattle.rules.specs.declared.Entry.{Entry}
use Rattle.rules.specs.declared.Step.{Step}
use Rattle.rules.specs.declared.Step.TheVariants.{Post, Hand, Sign, Take, Share, Receipt, Close, Fetch, SendHash, Hear, Back, Publish, FalseSignature, FalseShare, FalseHash, FalseBacking, Down, Up, ClearHashes}
use Rattle.rules.specs.Form.{Call}
use Rattle.std.specs.Prelude.{Some, None}
use Rattle.rules.specs.Table.{Table}
use Rattle.rules.specs.Bag.{entry_at, is_hash, signer_of, period_of, board_of}
use Rattle.rules.specs.State.{State}
use Rattle.rules.specs.Rules.{board_by, no_peer}
use Rattle.field_rules.specs.Box.{Box}
use Rattle.field_rules.specs.Message.{Message, handed, taken, fetched, told, signs, shares, closes, hashes, backs, falls, rises, Sent, signature, share, hash, backing}

-- a message or a sending, where the test holds
unfoldable pub when : {A : Type 0} → Bool → A → Option A
when b a = cond b (some a) none

-- the other fetchable its database of period p be fetched: a peer, honest, up, and it has closed the period
unfoldable pub fetchable : Table → State → ℕ → ℕ → Bool
fetchable T s k p = not (no_peer T.n k) && (T.honest k && (not (s.down k) && ltb p (s.current k)))

module _ (T : Table) (j : ℕ) (s : State) where
  -- What a step passes to peer j. A step of another's passes none, nor does one that something outside j bars: an item
  -- not posted, a signature or hash absent, the other's name, role or state.
  unfoldable pub passed : Step → Option Message
  passed (Hand i x) = when (eqb i j && s.posted x) (handed x)
  passed (Sign i x) = when (eqb i j) (signs x)
  passed (Take i k p x) = when (eqb i j && (not (no_peer T.n k) && s.signed k p x)) (taken k p x)
  passed (Share i x) = when (eqb i j) (shares x)
  passed (Close i) = when (eqb i j) closes
  passed (Fetch i k p) = when (eqb i j && fetchable T s k p) (fetched k p (s.db k p))
  passed (SendHash i p) = when (eqb i j) (hashes p)
  passed (Hear i e) = let a = entry_at s.bag e in when (eqb i j && is_hash a)
      (told (signer_of a) (period_of a) (board_of a))
  passed (Back i) = when (eqb i j) backs
  passed (Down i) = when (eqb i j) falls
  passed (Up i) = when (eqb i j) rises
  -- a clear is not told to the peer
  passed (ClearHashes p) = none
  passed (Post x) = none
  passed (Receipt p x) = none
  passed (Publish e) = none
  passed (FalseSignature i p x) = none
  passed (FalseShare i p x) = none
  passed (FalseHash i p B) = none
  passed (FalseBacking i p B) = none

  -- what goes out of peer j with a step that is not refused; whether it is outside already does not matter
  unfoldable pub sends_of : Step → Option Sent
  sends_of (Sign i x) = when (eqb i j) (signature (s.current j) x)
  sends_of (Share i x) = when (eqb i j) (share (s.current j) x)
  sends_of (SendHash i p) = when (eqb i j) (hash p (board_by T s j p))
  sends_of (Back i) = when (eqb i j) (backing (s.to_back j) (board_by T s j (s.to_back j)))
  sends_of (FalseSignature i p x) = when (eqb i j) (signature p x)
  sends_of (FalseShare i p x) = when (eqb i j) (share p x)
  sends_of (FalseHash i p B) = when (eqb i j) (hash p B)
  sends_of (FalseBacking i p B) = when (eqb i j) (backing p B)
  sends_of (Post x) = none
  sends_of (Hand i x) = none
  sends_of (Take i k p x) = none
  sends_of (Receipt p x) = none
  sends_of (Close i) = none
  sends_of (Fetch i k p) = none
  sends_of (Hear i e) = none
  sends_of (Publish e) = none
  sends_of (Down i) = none
  sends_of (Up i) = none
  sends_of (ClearHashes p) = none

  -- what j sends with a step and its answer
  unfoldable pub sent_by : Step → ℕ → Option Sent
  sent_by st a = cond (eqb a 0) (sends_of st) none

  -- the same of a call: one that is malformed passes and sends nothing
  unfoldable pub passed_call : Call → Option Message
  passed_call (Some st) = passed st
  passed_call None = none

  unfoldable pub sent_call : Call → ℕ → Option Sent
  sent_call (Some st) a = sent_by st a
  sent_call None a = none

-- peer j's part of a state, as a box that has heard the hashes H
abbrev pub part_of : State → ℕ → List Entry → Box
part_of s j H = record {
  down = s.down j;
  held = s.held j;
  db = s.db j;
  gave = s.shared j;
  current = s.current j;
  to_back = s.to_back
      j;
  heard = H;
}
