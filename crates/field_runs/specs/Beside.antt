-- The box beside an engine that gets a list of calls: what it is fed with, when neither store is full, and what then
-- holds of the two.
use Rattle.std.specs.Prelude.{ℕ, ◌≤◌, Bool, true, ◌&&◌, not, List, [], ◌∷◌, ◌≡◌, eqb, ltb, length}
use Rattle.std.proofs.Math.Option.{Option, none, some}
use Rattle.rules.specs.declared.Entry.TheVariants.{Hash}
use Rattle.rules.specs.Table.{Table}
use Rattle.rules.specs.Bag.{is_in, capacity}
use Rattle.rules.specs.State.{State}
use Rattle.rules.specs.Form.{read}
use Rattle.rules.specs.Run.{Engine, store_from}
use Rattle.field_rules.specs.Box.{Box}
use Rattle.field_rules.specs.Message.{Message, Sent}
use Rattle.field_rules.specs.Rules.{handle}
use Rattle.field_rules.specs.Replies.{Reply, with_sent, box_after, box_replies, box_sends}
use Rattle.field_runs.specs.Passed.{passed_call, sent_call, part_of}

-- with a message more, where there is one
unfoldable pub with_message : Option Message → List Message → List Message
with_message none ms = ms
with_message (some m) ms = m ∷ ms

-- with a reply more, where a message passes
unfoldable pub with_reply : Option Message → Reply → List Reply → List Reply
with_reply none r rs = rs
with_reply (some m) r rs = r ∷ rs

-- an answer other than 13
abbrev pub not_full : ℕ → Bool
not_full a = not (eqb a 13)

module _ (T : Table) (j : ℕ) where
  -- the box after what a call passes, if it passes anything
  unfoldable pub fed_with : Box → Option Message → Box
  fed_with b none = b
  fed_with b (some m) = (handle T j b m).after

  -- where a message passes, neither the engine, whose answer is a, nor the box answers 13
  unfoldable pub room_in : Box → ℕ → Option Message → Bool
  room_in b a none = true
  room_in b a (some m) = not_full a && not_full (handle T j b m).answer

  module _ {X : Type 0} (E : Engine X) where
    -- what a call passes to peer j, and what j sends with it
    abbrev pub passes : X → List ℕ → Option Message
    passes x c = passed_call T j (E.holds x) (read c)

    abbrev pub sends : X → List ℕ → Option Sent
    sends x c = sent_call T j (E.holds x) (read c) (E.answers x c)

    -- the messages that calls pass to peer j, and the engine's replies to those calls
    unfoldable pub messages : X → List (List ℕ) → List Message
    messages x [] = []
    messages x (c ∷ calls) = with_message (passes x c) (messages (E.leaves x c) calls)

    unfoldable pub replies : X → List (List ℕ) → List Reply
    replies x [] = []
    replies x (c ∷ calls) = with_reply (passes x c) (E.answers x c, sends x c) (replies (E.leaves x c) calls)

    -- all that peer j sends along calls, whether they pass it a message or not
    unfoldable pub all_sent : X → List (List ℕ) → List Sent
    all_sent x [] = []
    all_sent x (c ∷ calls) = with_sent (sends x c) (all_sent (E.leaves x c) calls)

    -- no call that passes j a message is answered 13 on either side
    unfoldable pub neither_full : X → Box → List (List ℕ) → Bool
    neither_full x b [] = true
    neither_full x b (c ∷ calls) = room_in b (E.answers x c) (passes x c) && neither_full (E.leaves x c)
        (fed_with b (passes x c)) calls

    -- both stores have fewer than 256 at every place
    abbrev pub both_below : X → Box → Bool
    both_below x b = ltb (length (E.holds x).bag) capacity && ltb (length b.heard) capacity

    unfoldable pub always_below : X → Box → List (List ℕ) → Bool
    always_below x b [] = true
    always_below x b (c ∷ calls) = both_below x b && always_below (E.leaves x c) (fed_with b (passes x c)) calls

-- the box has exactly peer j's part of the state: all that is j's, and of the periods from c on the same hashes heard
pub record Part (s : State) (j : ℕ) (b : Box) : Type 0 where
  pub own : b ≡ part_of s j b.heard
  pub heard : (k p B : ℕ) → s.to_back j ≤ p → is_in (Hash k p B) b.heard ≡ s.heard j k p B

-- What holds of the store x and the box b that stand beside each other, and of any call c that comes next.
pub record InStep (T : Table) (j : ℕ) {X : Type 0} (E : Engine X) (x : X) (b : Box) : Type 0 where
  pub part : Part (E.holds x) j b
  -- where a message passes, and neither side answers 13 to it, the engine answers as the box does, and j sends what the
  -- box sends
  pub answers : (c : List ℕ) (m : Message) → passes T j E x c ≡ some m → room_in T j b (E.answers x c) (some m) ≡ true
      → E.answers x c ≡ (handle T j b m).answer
  pub sent : (c : List ℕ) (m : Message) → passes T j E x c ≡ some m → room_in T j b (E.answers x c) (some m) ≡ true
      → sends T j E x c ≡ (handle T j b m).sent
  -- where none passes, j sends nothing
  pub silent : (c : List ℕ) → passes T j E x c ≡ none → sends T j E x c ≡ none

-- Of a whole list of calls from x on, beside the box from b on: the answers to the calls that pass j a message, and all
-- that j sends, are those of the box that is fed with the messages.
pub record AsBox (T : Table) (j : ℕ) {X : Type 0} (E : Engine X) (x : X) (b : Box) (calls : List (List ℕ)) : Type 0
  where
    pub replies : replies T j E x calls ≡ box_replies T j b (messages T j E x calls)
    pub sent : all_sent T j E x calls ≡ box_sends T j b (messages T j E x calls)

-- two states have the same part of peer j, and of the periods from c on the same hashes heard by it
pub record SamePart (s t : State) (j : ℕ) : Type 0 where
  pub own : part_of s j [] ≡ part_of t j []
  pub heard : (k p B : ℕ) → s.to_back j ≤ p → s.heard j k p B ≡ t.heard j k p B

-- What two lists of calls from x on have in common, if they pass peer j the same messages, whatever else differs.
pub record SameForJ (T : Table) (j : ℕ) {X : Type 0} (E : Engine X) (x : X) (b : Box) (calls others : List (List ℕ)) :
    Type 0 where
  -- the box: what it holds, its answers, and what it sends
  pub boxes : box_after T j b (messages T j E x calls) ≡ box_after T j b (messages T j E x others)
  pub boxes_reply : box_replies T j b (messages T j E x calls) ≡ box_replies T j b (messages T j E x others)
  -- the engine: its answers to the calls that pass j a message, all that j sends, and j's part
  pub replies : replies T j E x calls ≡ replies T j E x others
  pub sent : all_sent T j E x calls ≡ all_sent T j E x others
  pub parts : SamePart (E.holds (store_from E x calls)) (E.holds (store_from E x others)) j
