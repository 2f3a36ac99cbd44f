-- One peer for the field, on bytes: beside the board on bytes, from the fresh states of both.
use Prim.Native.Nat.{ℕ}
use mathlib.Core.Bool.{true}
use mathlib.Core.List.{List}
use mathlib.Core.Path.{◌≡◌, refl, sym, ap, subst, ap₂, ◌∙◌}
use lib.ListN.{length}
use Rattle.base.proofs.Truth.{false_true}
use Rattle.header.specs.Header.{head_of}
use Rattle.ballot.specs.Table.{refusal}
use Rattle.rules.specs.Valid.{Peer}
use Rattle.rules.specs.Run.{store_after}
use Rattle.view.specs.Ready.{Ready as Fits-engine}
use Rattle.engine.specs.Engine.{rules_table, fresh_state, step_answer}
use Rattle.engine.proofs.Calls.{room_of}
use Rattle.engine.proofs.States.{ready_state}
use Rattle.guarantee.specs.Demand3.{by_bytes}
use Rattle.guarantee.proofs.Demand3.{bytes_follow}
use Rattle.field_rules.specs.Box.{Box, fresh_box}
use Rattle.field_rules.specs.Message.{Message, handed, taken, fetched, told, signs, shares, closes, hashes, backs, falls, rises}
use Rattle.field_rules.specs.Rules.{Handled, handle, repeats}
use Rattle.field_rules.specs.MessageBytes.{InBytes}
use Rattle.field_rules.specs.BoxIn.{InPlace}
use Rattle.field_rules.proofs.Again.{sends_again}
use Rattle.field_runs.specs.Beside.{messages, neither_full, InStep}
use Rattle.field_runs.specs.OnePeer.{OnePeer}
use Rattle.field_runs.proofs.InStep.{ready_after}
use Rattle.field_state.specs.Holding.{box_of, Holds}
use Rattle.field_state.specs.Encode.{encode}
use Rattle.field_state.specs.Ready.{Ready}
use Rattle.field_state.proofs.Encoded.{holds_bytes}
use Rattle.field_valid.proofs.Ok.{ok_of_ready}
use Rattle.field_promises.specs.Fed.{Zeros, shown, field_answer, field_bytes, field_after, field_replies, neither_full_on, board_replies}
use Rattle.field_promises.specs.FieldPeer.{FieldInStep, SameOnBytes, Again, FieldPeer}
use Rattle.field_promises.proofs.OnBytes.{one_peer_on_bytes}
use Rattle.field_promises.proofs.Runs.{zeros-fresh, zeros_ready}
use Rattle.field_promises.proofs.Kept.{box_ready}
use Rattle.field_promises.proofs.Beside.{says_itself, AllPlaced, shown_all, answer_one, sent_one, bytes_one, ready_one, fed_holds, fed_ready, fed_replies, passed_placed, placed-calls, room-one, room_same, board-shown}

-- a signature, a share or a hash, asked for once more

placed : (m : Message) → repeats m ≡ true → InPlace m × InBytes m
unfolding repeats
placed (signs x) r = (tt, tt)
placed (shares x) r = (tt, tt)
placed (hashes p) r = (tt, tt)
placed (handed x) r = (tt, tt)
placed (taken k p x) r = (tt, tt)
placed (fetched k p rows) r = false_true r
placed (told k p B) r = false_true r
placed closes r = (tt, tt)
placed backs r = (tt, tt)
placed falls r = (tt, tt)
placed rises r = (tt, tt)

module _ (table : List ℕ) (fit : refusal table ≡ 0) (j : ℕ) (out : List ℕ) (long : length out ≡ 13) (s : List ℕ)
    (R : Ready (head_of table) s) where
  once_more : (m : Message) → repeats m ≡ true → field_answer table j out s m ≡ 0 → Again table j out s m
  once_more m r zero =
      let T = rules_table table in
      let place = placed m r in
      let b = box_of s in
      let H = says_itself s R in
      let after = (handle T j b m).after in
      let first = answer_one table fit j out long s b R H m place.0 place.1 in
      let same : handle T j after m ≡ handle T j b m = sends_again T j b m r (sym first ∙ zero) in
      let t = field_bytes table j out s m in
      let Q = ready_one table fit j out long s b R H m place.0 place.1 in
      let G = bytes_one table fit j out long s b R H m place.0 place.1 in
      record {
        answers =
            answer_one table fit j out long t after Q G m place.0 place.1 ∙ ap (λ (z : Handled). z.answer) same
            ∙ sym first ∙ zero;
        sends =
            sent_one table fit j out long t after Q G m place.0 place.1
            ∙ ap (λ (z : Handled). shown j out m z.answer z.sent) same
            ∙ sym (sent_one table fit j out long s b R H m place.0 place.1);
        leaves =
            holds_bytes _ _ (bytes_one table fit j out long t after Q G m place.0 place.1)
            ∙ ap (λ (z : Handled). encode z.after) same ∙ sym (holds_bytes t after G);
      }

-- one peer for the field, on bytes
module _ (table : List ℕ) (fit : refusal table ≡ 0) (j : ℕ) (peer : Peer (rules_table table) j) (honest : (rules_table table).honest j ≡ true)
    (zeros : List ℕ) (Z : Zeros zeros) (out : List ℕ) (long : length out ≡ 13) where
  starts_ready : Ready (head_of table) zeros
  starts_ready = zeros_ready (head_of table) (room_of table (sym fit) refl) zeros Z.long Z.zero

  starts_fresh : Holds zeros fresh_box
  starts_fresh = zeros-fresh zeros Z.long Z.zero

  engine_ready : Fits-engine (head_of table) fresh_state
  engine_ready = (bytes_follow table fit).starts_ready

  all_placed : (calls : List (List ℕ)) → AllPlaced (messages (rules_table table) j (by_bytes table) fresh_state calls)
  all_placed calls = placed-calls table fit j out long fresh_state engine_ready calls

  pub same_room : (calls : List (List ℕ))
      → neither_full_on table j out fresh_state zeros calls ≡ neither_full (rules_table table) j (by_bytes table) fresh_state fresh_box calls
  same_room calls = room_same table fit j out long calls fresh_state engine_ready zeros fresh_box starts_ready starts_fresh

  roomy : (calls : List (List ℕ)) → neither_full_on table j out fresh_state zeros calls ≡ true
      → neither_full (rules_table table) j (by_bytes table) fresh_state fresh_box calls ≡ true
  roomy calls r = sym (same_room calls) ∙ r

  -- a store and bytes beside each other
  now_in_step : (y s : List ℕ) → Fits-engine (head_of table) y → Ready (head_of table) s
      → InStep (rules_table table) j (by_bytes table) y (box_of s)
      → FieldInStep table j out y s
  now_in_step y s G R I = record {
    taken = ok_of_ready (head_of table) s R;
    part = I.part;
    answers = λ c m e r.
        let p = passed_placed table fit j out long y G c m e in
        answer_one table fit j out long s (box_of s) R (says_itself s R) m p.0 p.1
        ∙ sym (I.answers c m e
        (sym (room-one table fit j out long s (box_of s) R (says_itself s R) (step_answer table y c) m p.0 p.1) ∙ r));
    sent = λ c m e r.
        let p = passed_placed table fit j out long y G c m e in
        let q = sym (room-one table fit j out long s (box_of s) R (says_itself s R) (step_answer table y c) m p.0 p.1) ∙ r in
        sent_one table fit j out long s (box_of s) R (says_itself s R) m p.0 p.1
        ∙ ap₂ (shown j out m) (sym (I.answers c m e q)) (sym (I.sent c m e q));
    silent = I.silent;
  }

  all_replies : (calls : List (List ℕ)) → neither_full_on table j out fresh_state zeros calls ≡ true
      → field_replies table j out zeros (messages (rules_table table) j (by_bytes table) fresh_state calls)
      ≡ board_replies table j out fresh_state calls
  all_replies calls r =
      fed_replies table fit j out long _ (all_placed calls) zeros fresh_box starts_ready starts_fresh
      ∙ ap (shown_all j out (messages (rules_table table) j (by_bytes table) fresh_state calls))
      (sym ((one_peer_on_bytes table fit j peer honest).as_box calls (roomy calls r)).replies)
      ∙ sym (board-shown table fit j out long calls fresh_state)

  ready_calls : (calls : List (List ℕ)) → Fits-engine (head_of table) (store_after (by_bytes table) calls)
  ready_calls calls = ready_after (rules_table table) j peer honest (by_bytes table) (Fits-engine (head_of table)) (bytes_follow table fit)
      fresh_state engine_ready calls

  one : OnePeer (rules_table table) j (by_bytes table) (Fits-engine (head_of table))
  one = one_peer_on_bytes table fit j peer honest

  at-each-place : (calls : List (List ℕ)) → neither_full_on table j out fresh_state zeros calls ≡ true
      → FieldInStep table j out (store_after (by_bytes table) calls)
      (field_after table j out zeros (messages (rules_table table) j (by_bytes table) fresh_state calls))
  at-each-place calls r =
      let ms = messages (rules_table table) j (by_bytes table) fresh_state calls in
      let H = fed_holds table fit j out long ms (all_placed calls) zeros fresh_box starts_ready starts_fresh in
      now_in_step (store_after (by_bytes table) calls) (field_after table j out zeros ms) (ready_calls calls)
      (fed_ready table fit j out long ms (all_placed calls) zeros fresh_box starts_ready starts_fresh)
      (subst (λ (z : Box). InStep (rules_table table) j (by_bytes table) (store_after (by_bytes table) calls) z) (sym H.says)
      (one.in_step calls (roomy calls r)))

  same_messages : (calls others : List (List ℕ))
      → messages (rules_table table) j (by_bytes table) fresh_state calls ≡ messages (rules_table table) j (by_bytes table) fresh_state others
      → neither_full_on table j out fresh_state zeros calls ≡ true → neither_full_on table j out fresh_state zeros others ≡ true
      → SameOnBytes table j zeros out calls others
  same_messages calls others e r q =
      let same = one.only_messages calls others e (roomy calls r) (roomy others q) in
      record {
        boxes = ap (field_after table j out zeros) e;
        boxes_reply = ap (field_replies table j out zeros) e;
        replies = sym (all_replies calls r) ∙ ap (field_replies table j out zeros) e ∙ all_replies others q;
        sent = same.sent;
        parts = same.parts;
      }

  pub field_peer : FieldPeer table j zeros out
  field_peer = record {
    in_step = at-each-place;
    replies = all_replies;
    box = λ calls. fed_holds table fit j out long _ (all_placed calls) zeros fresh_box starts_ready starts_fresh;
    delivers = λ y S. one.delivers y (ready_state table fit y S);
    in_its_name = λ y S. one.in_its_name y (ready_state table fit y S);
    room = λ calls l. same_room calls ∙ one.room calls l;
    only_messages = same_messages;
    again = λ s B m. once_more table fit j out long s (box_ready table fit s B) m;
    as_it_is = one.as_it_is;
  }
