-- The box depends on the messages alone; so, while neither store is full, do peer j's replies, what it sends and its part in the engine,
-- whatever else differs.
use Prim.Native.Nat.{ℕ, ◌≤◌}
use mathlib.Core.Bool.{true}
use mathlib.Core.List.{List, [], ◌∷◌}
use mathlib.Core.Option.{Option, none, some}
use mathlib.Core.Path.{◌≡◌, refl, sym, ap, ◌∙◌, subst}
use Rattle.base.proofs.Truth.{and_l, and_r}
use Rattle.rules.specs.Table.{Table}
use Rattle.rules.specs.State.{State, fresh}
use Rattle.rules.specs.Run.{Engine}
use Rattle.rules.specs.Valid.{Peer}
use Rattle.rules.specs.Follows.{Follows}
use Rattle.field_rules.specs.Box.{Box, fresh_box, box_heard}
use Rattle.field_rules.specs.Message.{Message, Sent}
use Rattle.field_rules.specs.Replies.{Reply, with_sent, box_after, box_replies, box_sends}
use Rattle.field_runs.specs.Beside.{with_message, with_reply, fed_with, room_in, passes, sends, messages, replies, all_sent, neither_full, Part, SamePart, InStep, AsBox, SameForJ}
use Rattle.field_runs.proofs.InStep.{fresh-part, part-call, part-after, now_in_step}

-- two states of which one box has peer j's part
one-part : (s t : State) (j : ℕ) (b : Box) → Part s j b → Part t j b → SamePart s t j
one-part s t j b P Q = record {
  own = ap (λ (z : Box). box_heard z []) (sym P.own ∙ Q.own);
  heard = λ k p B d. sym (P.heard k p B d) ∙ Q.heard k p B
      (subst (λ (c : ℕ). c ≤ p) (ap (λ (z : Box). z.to_back) (sym P.own ∙ Q.own)) d);
}

module _ (T : Table) (j : ℕ) (peer : Peer T j) (honest : T.honest j ≡ true) {X : Type 0} (E : Engine X) (Ready : X → Type 0)
    (F : Follows T E Ready) where
  -- one call more before what is as the box
  module _ (x : X) (b : Box) (c : List ℕ) (I : InStep T j E x b) where
    reply_more : (o : Option Message) → passes T j E x c ≡ o → room_in T j b (E.answers x c) o ≡ true
        → (rs : List Reply) (ms : List Message) → rs ≡ box_replies T j (fed_with T j b o) ms
        → with_reply o (E.answers x c, sends T j E x c) rs ≡ box_replies T j b (with_message o ms)
    unfolding box_replies with_reply with_message fed_with
    reply_more none e r rs ms h = h
    reply_more (some m) e r rs ms h = rw (I.sent c m e r, I.answers c m e r, h)

    sent_more : (o : Option Message) → passes T j E x c ≡ o → room_in T j b (E.answers x c) o ≡ true → (l : List Sent) (ms : List Message)
        → l ≡ box_sends T j (fed_with T j b o) ms
        → with_sent (sends T j E x c) l ≡ box_sends T j b (with_message o ms)
    unfolding box_sends with_message fed_with with_sent
    sent_more none e r l ms h = rw (I.silent c e) h
    sent_more (some m) e r l ms h = rw (I.sent c m e r, h)

  pub as_box_from : (x : X) → Ready x → (b : Box) → Part (E.holds x) j b → (calls : List (List ℕ)) → neither_full T j E x b calls ≡ true
      → AsBox T j E x b calls
  unfolding replies all_sent messages neither_full box_replies box_sends
  as_box_from x R b P [] r = record { replies = refl; sent = refl }
  as_box_from x R b P (c ∷ calls) r =
      let o = passes T j E x c in
      let here : room_in T j b (E.answers x c) o ≡ true = and_l (room_in T j b (E.answers x c) o)
      (neither_full T j E (E.leaves x c) (fed_with T j b o) calls) r in
      let I = now_in_step T j peer honest E Ready F x R b P in
      let later = as_box_from (E.leaves x c) (F.stays_ready x R c) (fed_with T j b o) (part-call T j peer honest E Ready F x R b P c here)
      calls (and_r (room_in T j b (E.answers x c) o) _ r) in
      record {
        replies = reply_more x b c I o refl here _ (messages T j E (E.leaves x c) calls) later.replies;
        sent = sent_more x b c I
            o refl here _ (messages T j E (E.leaves x c) calls) later.sent;
      }

  -- from fresh on both sides
  pub as_box : (x : X) → Ready x → E.holds x ≡ fresh → (calls : List (List ℕ)) → neither_full T j E x fresh_box calls ≡ true
      → AsBox T j E x fresh_box calls
  as_box x R e calls r = as_box_from x R fresh_box (rw e (fresh-part j)) calls r

  -- Two lists of calls, from fresh, that pass peer j the same messages.
  pub only_messages : (x : X) → Ready x → E.holds x ≡ fresh → (calls others : List (List ℕ))
      → messages T j E x calls ≡ messages T j E x others
      → neither_full T j E x fresh_box calls ≡ true → neither_full T j E x fresh_box others ≡ true → SameForJ T j E x fresh_box calls others
  only_messages x R e calls others same r q =
      let one = as_box x R e calls r in
      let two = as_box x R e others q in
      let boxes = ap (box_after T j fresh_box) same in
      let part = part-after T j peer honest E Ready F x R fresh_box (rw e (fresh-part j)) in
      record {
        boxes = boxes;
        boxes_reply = ap (box_replies T j fresh_box) same;
        replies = one.replies ∙ ap (box_replies T j fresh_box) same ∙ sym two.replies;
        sent = one.sent ∙ ap (box_sends T j fresh_box) same ∙ sym two.sent;
        parts = one-part _ _ j (box_after T j fresh_box (messages T j E x calls)) (part calls r) (rw boxes (part others q));
      }
