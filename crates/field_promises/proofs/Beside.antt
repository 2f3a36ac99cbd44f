-- The box on bytes, fed with what calls pass to peer j: message by message it answers, sends and holds what the box of
-- the rules does.
use Prim.Native.Nat.{ℕ}
use mathlib.Core.Bool.{Bool, true, false, cond, ◌&&◌}
use mathlib.Core.List.{List, [], ◌∷◌}
use mathlib.Core.Option.{Option, none, some}
use mathlib.Core.Path.{◌≡◌, refl, sym, ap, subst, ap₂, ◌∙◌}
use lib.Dec.{eqb}
use lib.ListN.{length}
use Rattle.base.proofs.Truth.{eqb_self}
use Rattle.header.specs.declared.Head.{Head}
use Rattle.header.specs.Header.{head_of}
use Rattle.ballot.specs.Table.{refusal}
use Rattle.clash.specs.Clash.{clash_in}
use Rattle.rules.specs.Table.{Table}
use Rattle.view.specs.Ready.{Room, Ready as Fits-engine}
use Rattle.engine.specs.Engine.{rules_table, step_answer, step_bytes}
use Rattle.engine.proofs.Calls.{room_of}
use Rattle.guarantee.specs.Demand3.{by_bytes}
use Rattle.guarantee.proofs.Demand3.{bytes_follow}
use Rattle.rules.specs.Form.{read}
use Rattle.field_runs.proofs.Placed.{call-placed}
use Rattle.field_rules.specs.Box.{Box}
use Rattle.field_rules.specs.Message.{Message}
use Rattle.field_rules.specs.Rules.{handle}
use Rattle.field_rules.specs.BoxIn.{BoxIn, InPlace}
use Rattle.field_rules.specs.MessageBytes.{message_bytes, read_as, InBytes, sent_bytes, handle_reading, is_brought, read_message, read_step, Reading}
use Rattle.field_rules.specs.Replies.{box_after, Reply, box_replies}
use Rattle.field_runs.specs.Beside.{with_message, passes, messages, with_reply, fed_with, room_in, not_full, sends, replies, neither_full}
use Rattle.field_rules.proofs.BoxIn.{box_stays_valid}
use Rattle.field_rules.proofs.MessageBytes.{reads_back}
use Rattle.field_state.specs.Holding.{box_of, Holds}
use Rattle.field_state.specs.Encode.{encode}
use Rattle.field_state.specs.Ready.{Ready}
use Rattle.field.specs.Calls.{call_answer, call_bytes, call_sent, message_answer, message_leaves, own_answer, own_leaves, own_sends}
use Rattle.field_valid.proofs.Ok.{ok_of_ready}
use Rattle.field_state.proofs.Decoded.{encode_holds}
use Rattle.field_promises.proofs.Runs.{holds_ready, whichever, fits_valid}
use borrow.Author.Tests.{eq-eqb}
use Rattle.field_promises.specs.Fed.{shown, Shown, with_shown, field_answer, field_bytes, field_sent, field_after, field_replies, fed_bytes, room_on, neither_full_on, board_replies}

-- bytes that are ready say what they say
pub says_itself : {h : Head} (s : List ℕ) → Ready h s → Holds s (box_of s)
says_itself s R = record { canon = R.canon; says = refl }

-- a place of a list where nothing passes, and one where m does
module _ (table : List ℕ) (j : ℕ) (out s : List ℕ) (b : Box) (a : ℕ) where
  none_case : (rest others : Bool) → rest ≡ others
      → (room_on table j out s a none && rest) ≡ (room_in (rules_table table) j b a none && others)
  unfolding room_on room_in
  none_case rest others e = e

  some_case : (m : Message) (rest others : Bool) → room_on table j out s a (some m) ≡ room_in (rules_table table) j b a (some m)
      → rest ≡ others
      → (room_on table j out s a (some m) && rest) ≡ (room_in (rules_table table) j b a (some m) && others)
  some_case m rest others f e = ap₂ (λ (x y : Bool). x && y) f e

-- every message has its place in bytes
abbrev pub AllPlaced : List Message → Type 0
AllPlaced [] = Unit {0}
AllPlaced (m ∷ ms) = (InPlace m × InBytes m) × AllPlaced ms

-- what is refused changes nothing
refused-after : (T : Table) (j : ℕ) (b : Box) (m : Message) → eqb (handle T j b m).answer 0 ≡ false → b ≡ (handle T j b m).after
unfolding handle
refused-after T j b m e = rw e

-- the replies of a box, and of the board, as outputs show them
unfoldable pub shown_all : ℕ → List ℕ → List Message → List Reply → List Shown
shown_all j out [] rs = []
shown_all j out (m ∷ ms) [] = []
shown_all j out (m ∷ ms) (r ∷ rs) = (r.0, shown j out m r.0 r.1) ∷ shown_all j out ms rs

module _ (table : List ℕ) (fit : refusal table ≡ 0) (j : ℕ) (out : List ℕ) (long : length out ≡ 13) where
  abbrev T : Table
  T = rules_table table

  abbrev h : Head
  h = head_of table

  taken_room : Room h
  taken_room = room_of table (sym fit) refl

  -- one message, on bytes that say b: the call is handled as b handles it
  module _ (s : List ℕ) (b : Box) (R : Ready h s) (H : Holds s b) (m : Message) (place : InPlace m) (fits : InBytes m) where
    abbrev L : Reading
    L = read_as m (message_bytes j m)

    answer_as : field_answer table j out s m ≡ call_answer table j s true L
    unfolding field_answer read_as
    answer_as = go (is_brought m)
      where
        go : (t : Bool)
            → cond t (message_answer table j s (message_bytes j m)) (own_answer table j s (message_bytes j m) out)
            ≡ call_answer table j s true (cond t (read_message (message_bytes j m)) (read_step (message_bytes j m)))
        go true = refl
        go false = rw (eq-eqb (length out) 13 long)

    bytes_as : field_bytes table j out s m ≡ call_bytes table j s true L
    unfolding field_bytes read_as
    bytes_as = go (is_brought m)
      where
        go : (t : Bool)
            → cond t (message_leaves table j s (message_bytes j m)) (own_leaves table j s (message_bytes j m) out)
            ≡ call_bytes table j s true (cond t (read_message (message_bytes j m)) (read_step (message_bytes j m)))
        go true = refl
        go false = rw (eq-eqb (length out) 13 long)

    sent_as : field_sent table j out s m ≡ cond (is_brought m) out (call_sent table j s true L out)
    unfolding field_sent read_as
    sent_as = go (is_brought m)
      where
        go : (t : Bool) → cond t out (own_sends table j s (message_bytes j m) out)
            ≡ cond t out (call_sent table j s true (cond t (read_message (message_bytes j m)) (read_step (message_bytes j m))) out)
        go true = refl
        go false = rw (eq-eqb (length out) 13 long)

    pub answer_one : field_answer table j out s m ≡ (handle T j b m).answer
    unfolding call_answer handle_reading
    answer_one =
        answer_as
        ∙ rw (reads_back j m place fits, fit, ok_of_ready h s R, eqb_self j) (ap (λ (z : Box). (handle T j z m).answer) H.says)

    pub sent_one : field_sent table j out s m ≡ shown j out m (handle T j b m).answer (handle T j b m).sent
    unfolding call_sent call_answer handle_reading shown
    sent_one =
        sent_as
        ∙ rw (reads_back j m place fits, fit, ok_of_ready h s R, eqb_self j)
        (ap (λ (z : Box). cond (is_brought m) out (cond (eqb (handle T j z m).answer 0) (sent_bytes j (handle T j z m).sent) out))
        H.says)

    brought-one : Holds (call_bytes table j s true L) (handle T j b m).after
    unfolding call_bytes call_answer handle_reading
    brought-one =
        rw (reads_back j m place fits, fit, ok_of_ready h s R, eqb_self j)
        (subst (λ (z : Box). Holds (cond (eqb (handle T j (box_of s) m).answer 0) (encode (handle T j (box_of s) m).after) s)
        (handle T j z m).after)
        H.says (go (eqb (handle T j (box_of s) m).answer 0) refl))
      where
        go : (t : Bool) → eqb (handle T j (box_of s) m).answer 0 ≡ t
            → Holds (cond t (encode (handle T j (box_of s) m).after) s) (handle T j (box_of s) m).after
        go true e = encode_holds (handle T j (box_of s) m).after
            (fits_valid h (clash_in table) taken_room _ (box_stays_valid T j (box_of s) (R.good (clash_in table)) m place))
        go false e = record { canon = R.canon; says = refused-after T j (box_of s) m e }

    pub bytes_one : Holds (field_bytes table j out s m) (handle T j b m).after
    bytes_one = subst (λ (t : List ℕ). Holds t (handle T j b m).after) (sym bytes_as) brought-one

    pub ready_one : Ready h (field_bytes table j out s m)
    ready_one =
        let next : BoxIn T (handle T j b m).after =
        box_stays_valid T j b (subst (λ (z : Box). BoxIn T z) H.says (R.good (clash_in table))) m place in
        holds_ready h taken_room _ (handle T j b m).after bytes_one (λ other. whichever h (clash_in table) other _ next)

  -- a list of them
  pub fed_holds : (ms : List Message) → AllPlaced ms → (s : List ℕ) (b : Box) → Ready h s → Holds s b
      → Holds (field_after table j out s ms) (box_after T j b ms)
  unfolding field_after box_after
  fed_holds [] ok s b R H = H
  fed_holds (m ∷ ms) ok s b R H =
      fed_holds ms ok.1 (field_bytes table j out s m) (handle T j b m).after (ready_one s b R H m ok.0.0 ok.0.1)
      (bytes_one s b R H m ok.0.0 ok.0.1)

  pub fed_ready : (ms : List Message) → AllPlaced ms → (s : List ℕ) (b : Box) → Ready h s → Holds s b
      → Ready h (field_after table j out s ms)
  unfolding field_after
  fed_ready [] ok s b R H = R
  fed_ready (m ∷ ms) ok s b R H =
      fed_ready ms ok.1 (field_bytes table j out s m) (handle T j b m).after (ready_one s b R H m ok.0.0 ok.0.1)
      (bytes_one s b R H m ok.0.0 ok.0.1)

  pub fed_replies : (ms : List Message) → AllPlaced ms → (s : List ℕ) (b : Box) → Ready h s → Holds s b
      → field_replies table j out s ms ≡ shown_all j out ms (box_replies T j b ms)
  unfolding field_replies box_replies shown_all
  fed_replies [] ok s b R H = refl
  fed_replies (m ∷ ms) ok s b R H =
      rw (
        answer_one s b R H m ok.0.0 ok.0.1,
        sent_one s b R H m ok.0.0 ok.0.1,
        fed_replies ms ok.1 (field_bytes table j out s m) (handle T j b m).after (ready_one s b R H m ok.0.0 ok.0.1)
            (bytes_one s b R H m ok.0.0 ok.0.1),
      )

  -- what a call passes has its place
  pub passed_placed : (y : List ℕ) → Fits-engine h y → (c : List ℕ) (m : Message) → passes T j (by_bytes table) y c ≡ some m
      → InPlace m × InBytes m
  passed_placed y R c m e =
      call-placed T (taken_room.items, taken_room.peers) j ((by_bytes table).holds y) ((bytes_follow table fit).valid y R) (read c) m e

  pub placed-calls : (y : List ℕ) → Fits-engine h y → (calls : List (List ℕ)) → AllPlaced (messages T j (by_bytes table) y calls)
  unfolding messages with_message
  placed-calls y R [] = tt
  placed-calls y R (c ∷ calls) =
      go (passes T j (by_bytes table) y c) refl
      (placed-calls ((by_bytes table).leaves y c) ((bytes_follow table fit).stays_ready y R c) calls)
    where
      go : (o : Option Message) → passes T j (by_bytes table) y c ≡ o
          → AllPlaced (messages T j (by_bytes table) ((by_bytes table).leaves y c) calls)
          → AllPlaced (with_message o (messages T j (by_bytes table) ((by_bytes table).leaves y c) calls))
      go none e p = p
      go (some m) e p = (passed_placed y R c m e, p)

  -- 13 on bytes is 13 of the box
  pub room-one : (s : List ℕ) (b : Box) → Ready h s → Holds s b → (a : ℕ) (m : Message) → InPlace m → InBytes m
      → room_on table j out s a (some m) ≡ room_in T j b a (some m)
  unfolding room_on room_in
  room-one s b R H a m place fits = ap (λ (r : ℕ). not_full a && not_full r) (answer_one s b R H m place fits)

  pub room_same : (calls : List (List ℕ)) (y : List ℕ) → Fits-engine h y → (s : List ℕ) (b : Box) → Ready h s → Holds s b
      → neither_full_on table j out y s calls ≡ neither_full T j (by_bytes table) y b calls
  unfolding neither_full_on neither_full fed_bytes fed_with
  room_same [] y G s b R H = refl
  room_same (c ∷ calls) y G s b R H =
      go (passes T j (by_bytes table) y c) refl (room_same calls ((by_bytes table).leaves y c) ((bytes_follow table fit).stays_ready y G c))
    where
      go : (o : Option Message) → passes T j (by_bytes table) y c ≡ o
          → ((t : List ℕ) (d : Box) → Ready h t → Holds t d
          → neither_full_on table j out ((by_bytes table).leaves y c) t calls ≡ neither_full T j (by_bytes table) ((by_bytes table).leaves y c) d
          calls)
          → (room_on table j out s (step_answer table y c) o && neither_full_on table j out (step_bytes table y c) (fed_bytes table j out s o)
          calls)
          ≡ (room_in T j b (step_answer table y c) o && neither_full T j (by_bytes table) (step_bytes table y c) (fed_with T j b o) calls)
      go none e rest = none_case table j out s b (step_answer table y c) _ _ (rest s b R H)
      go (some m) e rest =
          let p = passed_placed y G c m e in
          some_case table j out s b (step_answer table y c) m _ _ (room-one s b R H (step_answer table y c) m p.0 p.1)
          (rest (field_bytes table j out s m) (handle T j b m).after (ready_one s b R H m p.0 p.1)
          (bytes_one s b R H m p.0 p.1))

  -- the board's replies are those of `replies`, as outputs show them
  pub board-shown : (calls : List (List ℕ)) (y : List ℕ)
      → board_replies table j out y calls ≡ shown_all j out (messages T j (by_bytes table) y calls) (replies T j (by_bytes table) y calls)
  unfolding board_replies messages replies shown_all with_message with_reply with_shown
  board-shown [] y = refl
  board-shown (c ∷ calls) y = go (passes T j (by_bytes table) y c) (board-shown calls (step_bytes table y c))
    where
      go : (o : Option Message) → board_replies table j out (step_bytes table y c) calls
          ≡ shown_all j out (messages T j (by_bytes table) (step_bytes table y c) calls)
          (replies T j (by_bytes table) (step_bytes table y c) calls)
          → with_shown o (λ m. (step_answer table y c, shown j out m (step_answer table y c) (sends T j (by_bytes table) y c)))
          (board_replies table j out (step_bytes table y c) calls)
          ≡ shown_all j out (with_message o (messages T j (by_bytes table) (step_bytes table y c) calls))
          (with_reply o (step_answer table y c, sends T j (by_bytes table) y c) (replies T j (by_bytes table) (step_bytes table y c) calls))
      go none rest = rest
      go (some m) rest = ap
          (λ (l : List Shown). (step_answer table y c, shown j out m (step_answer table y c) (sends T j (by_bytes table) y c)) ∷ l) rest
