-- Case R, computed by the rules of its table, which the engine on bytes follows; so it is of the field peer on bytes.
use Prim.Native.Nat.{ℕ}
use native.Mathlib.Omega.{arith}
use mathlib.Core.Bool.{true}
use mathlib.Core.List.{List, [], ◌∷◌}
use mathlib.Core.Path.{◌≡◌, refl, ap, ap₂, ◌∙◌}
use mathlib.Core.Option.{none, some}
use lib.ListN.{length-replicate}
use Rattle.base.specs.Below.{any, every}
use Rattle.base.specs.Bits.{bit, member, pack}
use Rattle.base.specs.Bytes.{number_at, part, same_bytes}
use Rattle.base.specs.Refusals.{first}
use Rattle.base.specs.Sets.{add1, add2, add3, add4, set_at}
use Rattle.base.specs.Weight.{weight}
use Rattle.base.proofs.Bytes.{zeros-at}
use Rattle.header.specs.Header.{header_size, field_of, weight_in, peers_with, head_of}
use Rattle.header.specs.Quorum.{weight_of}
use Rattle.clash.specs.Clash.{clash, clash_in}
use Rattle.rules.specs.Table.{Table, clashing}
use Rattle.rules.specs.Bag.{same_entry, is_in, enter, is_full}
use Rattle.rules.specs.State.{State, fresh}
use Rattle.rules.specs.Form.{all_zero, formed, select, ops, later_ops, read}
use Rattle.rules.specs.Rules.{board_from, rule, answer, next, reply, leave}
use Rattle.rules.specs.Run.{by_rules}
use Rattle.rules.specs.Valid.{Peer}
use Rattle.rules.specs.Follows.{Follows}
use Rattle.view.specs.Ready.{Ready}
use Rattle.engine.specs.Engine.{rules_table, fresh_state}
use Rattle.edges.specs.Cases.{calls, case_r}
use Rattle.guarantee.specs.Demand3.{by_bytes}
use Rattle.guarantee.proofs.Demand3.{bytes_follow}
use Rattle.guarantee.proofs.TotalsWorked.{input}
use Rattle.field_rules.specs.Box.{fresh_box}
use Rattle.field_rules.specs.Message.{Message, handed, told, signs, shares, closes, hashes, backs, signature, share, hash, backing}
use Rattle.field_rules.specs.Rules.{field_rule, handle_answer, handle}
use Rattle.field_rules.specs.MessageBytes.{sent_bytes, is_brought}
use Rattle.field_rules.specs.Replies.{Reply}
use Rattle.field_runs.specs.Passed.{when, fetchable, passed, sends_of, sent_by, passed_call, sent_call}
use Rattle.field_runs.specs.Beside.{with_message, with_reply, fed_with, room_in, messages, replies, neither_full}
use Rattle.field_runs.proofs.ByRules.{messages_as_ruled, replies_as_ruled, room_as_ruled}
use Rattle.field_state.specs.Layout.{size}
use Rattle.field_promises.specs.Fed.{Zeros, shown, neither_full_on}
use Rattle.field_promises.specs.Worked.{table, zeros, out, sends, FieldWorked}
use Rattle.field_promises.proofs.Beside.{shown_all, board-shown}
use Rattle.field_promises.proofs.FieldPeer.{field_peer, same_room}

abbrev T : Table
T = rules_table table

abbrev day : List Message
day = handed 0 ∷ signs 0 ∷ shares 0 ∷ closes ∷ hashes 0 ∷ told 1 0 1 ∷ backs ∷ []

abbrev answered : List Reply
answered =
    (0, none) ∷ (0, some (signature 0 0)) ∷ (0, some (share 0 0)) ∷ (0, none) ∷ (0, some (hash 0 1)) ∷ (0, none)
    ∷ (0, some (backing 0 1)) ∷ []

record Computed : Type 0 where
  passed : messages T 1 (by_rules T) fresh (calls case_r) ≡ day
  replies : replies T 1 (by_rules T) fresh (calls case_r) ≡ answered
  roomy : neither_full T 1 (by_rules T) fresh fresh_box (calls case_r) ≡ true
  peer : Peer T 1
  honest : T.honest 1 ≡ true

computed : Computed
unfolding header_size field_of weight_in peers_with weight_of first any every bit member pack number_at part same_bytes clash_in clash add1 add2
    add3 add4 set_at weight clashing same_entry is_in enter is_full all_zero formed select ops later_ops read board_from rule answer next reply
    leave field_rule handle_answer handle when fetchable passed sends_of sent_by passed_call sent_call with_message with_reply fed_with room_in
    messages replies neither_full
computed = record { passed = refl; replies = refl; roomy = refl; peer = (omega arith, omega arith); honest = refl }

shown-bytes : shown_all 1 out day answered
    ≡ ((0, out) ∷ (0, sends 3 1 0 0 0) ∷ (0, sends 5 1 0 0 0) ∷ (0, sends 0 0 0 0 0) ∷ (0, sends 9 1 0 0 1) ∷ (0, out)
    ∷ (0, sends 11 1 0 0 1) ∷ [])
unfolding shown_all shown is_brought sent_bytes
shown-bytes = refl

abbrev F : Follows T (by_bytes table) (Ready (head_of table))
F = bytes_follow table input.case_r_taken_lem

by_messages : messages T 1 (by_bytes table) fresh_state (calls case_r) ≡ day
by_messages =
    messages_as_ruled T 1 (by_bytes table) (Ready (head_of table)) F (calls case_r) fresh_state F.starts_ready
    ∙ ap (λ (s : State). messages T 1 (by_rules T) s (calls case_r)) F.starts_fresh ∙ computed.passed

by_replies : replies T 1 (by_bytes table) fresh_state (calls case_r) ≡ answered
by_replies =
    replies_as_ruled T 1 (by_bytes table) (Ready (head_of table)) F (calls case_r) fresh_state F.starts_ready
    ∙ ap (λ (s : State). replies T 1 (by_rules T) s (calls case_r)) F.starts_fresh ∙ computed.replies

by_room : neither_full T 1 (by_bytes table) fresh_state fresh_box (calls case_r) ≡ true
by_room =
    room_as_ruled T 1 (by_bytes table) (Ready (head_of table)) F (calls case_r) fresh_state F.starts_ready fresh_box
    ∙ ap (λ (s : State). neither_full T 1 (by_rules T) s fresh_box (calls case_r)) F.starts_fresh ∙ computed.roomy

all-zero : Zeros zeros
all-zero = record { long = length-replicate {A = ℕ} size 0; zero = zeros-at size }

pub field_worked : FieldWorked
field_worked =
    let taken = input.case_r_taken_lem in
    let room : neither_full_on table 1 out fresh_state zeros (calls case_r) ≡ true =
    same_room table taken 1 computed.peer computed.honest zeros all-zero out refl (calls case_r) ∙ by_room in
    record {
      taken = taken;
      peer = computed.peer;
      honest = computed.honest;
      fresh = all-zero;
      roomy = room;
      passed = by_messages;
      replies =
          (field_peer table taken 1 computed.peer computed.honest zeros all-zero out refl).replies (calls case_r) room
          ∙ board-shown table taken 1 out refl (calls case_r) fresh_state
          ∙ ap₂ (λ (ms : List Message) (rs : List Reply). shown_all 1 out ms rs) by_messages by_replies ∙ shown-bytes;
    }
