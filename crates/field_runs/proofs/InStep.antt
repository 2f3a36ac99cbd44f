-- The box is in step with peer j of every engine that follows the rules, over every list of calls: one step, one call, and all.
use Prim.Native.Nat.{ℕ, ◌≤◌}
use mathlib.Core.Bool.{true, false}
use mathlib.Core.List.{List, [], ◌∷◌}
use mathlib.Core.Option.{Option, none, some}
use mathlib.Core.Path.{◌≡◌, refl, sym, ◌∙◌, subst}
use mathlib.Core.Logic.{◌⊎◌, inl, inr}
use lib.Dec.{eqb}
use borrow.Author.Tests.{eqb-true, not-true}
use Rattle.base.specs.Refusals.{name, role}
use Rattle.base.proofs.Truth.{either, and_l, and_r}
use Rattle.rules.specs.declared.Entry.{Entry}
use Rattle.rules.specs.declared.Entry.TheVariants.{Hash}
use Rattle.rules.specs.declared.Step.{Step}
use Rattle.rules.specs.Form.{Call}
use Rattle.std.specs.Prelude.{Some, None}
use Rattle.rules.specs.Table.{Table}
use Rattle.rules.specs.Bag.{is_in}
use Rattle.rules.specs.State.{State, fresh}
use Rattle.rules.specs.Form.{read}
use Rattle.rules.specs.Rules.{answer, next, reply, leave}
use Rattle.rules.specs.Run.{Engine, store_from}
use Rattle.rules.specs.Valid.{Valid, Peer}
use Rattle.rules.proofs.Answered.{answered}
use Rattle.rules.specs.Follows.{Follows}
use Rattle.field_rules.specs.Box.{Box, fresh_box}
use Rattle.field_rules.specs.Message.{Message}
use Rattle.field_rules.specs.Rules.{handle_answer, handle}
use Rattle.field_runs.specs.Passed.{passed, sent_by, passed_call, sent_call, part_of}
use Rattle.field_rules.specs.Replies.{box_after}
use Rattle.field_runs.specs.Beside.{with_message, not_full, fed_with, room_in, passes, messages, neither_full, Part, InStep}
use Rattle.field_runs.proofs.Like.{right}
use Rattle.field_runs.proofs.Passing.{none_some, neg, a_peer}
use Rattle.field_runs.proofs.Step.{Match, matched, stays}

pub fresh-part : (j : ℕ) → Part fresh j fresh_box
unfolding is_in
fresh-part j = record { own = refl; heard = λ k p B d. refl }

module _ (T : Table) (j : ℕ) (peer : Peer T j) (honest : T.honest j ≡ true) where
  -- one step

  -- of a step and the message that it passes
  pub record Stepped (s : State) (b : Box) (st : Step) (m : Message) : Type 0 where
    pub answers : answer T s st ≡ (handle T j b m).answer
    pub sent : sent_by T j s st (answer T s st) ≡ (handle T j b m).sent
    pub after : Part (next T s st) j (handle T j b m).after

  module _ (s : State) (G : Valid T s) where
    module _ (H : List Entry) (A : (k p B : ℕ) → s.to_back j ≤ p → is_in (Hash k p B) H ≡ s.heard j k p B) (st : Step) (m : Message)
        (e : passed T j s st ≡ some m) where
      abbrev box : Box
      box = part_of s j H

      match : Match T j peer honest s G H A st m
      match = matched T j peer honest s G H A st m e

      -- j's own name and role pass, and the rest of the rows are alike
      same_answer : room_in T j box (answer T s st) (some m) ≡ true → answer T s st ≡ handle_answer T j box m
      unfolding answer handle_answer room_in handle
      same_answer r = (right {w = name} (a_peer T j peer) (right {w = role} (neg (T.honest j) honest) match.like)).same
          (not-true _ (and_l (not_full (answer T s st)) (not_full (handle_answer T j box m)) r))
          (not-true _ (and_r (not_full (answer T s st)) (not_full (handle_answer T j box m)) r))

      both_step : answer T s st ≡ handle_answer T j box m → Stepped s box st m
      unfolding handle sent_by next
      both_step same = go (either (eqb (answer T s st) 0))
        where
          go : (eqb (answer T s st) 0 ≡ true) ⊎ (eqb (answer T s st) 0 ≡ false) → Stepped s box st m
          go (inl z) = record { answers = same; sent = rw (← same, z) match.sent; after = rw (← same, z) match.after }
          go (inr z) = record { answers = same; sent = rw (← same, z); after = rw (← same, z) (record { own = refl; heard = A }) }

    pub step_passed : (b : Box) → Part s j b → (st : Step) (m : Message) → passed T j s st ≡ some m
        → room_in T j b (answer T s st) (some m) ≡ true → Stepped s b st m
    step_passed b P st m e = subst (λ (z : Box). room_in T j z (answer T s st) (some m) ≡ true → Stepped s z st m) (sym P.own)
        (λ r. both_step b.heard P.heard st m e (same_answer b.heard P.heard st m e r))

    -- of a step that passes none
    pub record Silent (b : Box) (st : Step) : Type 0 where
      pub sent : sent_by T j s st (answer T s st) ≡ none
      pub after : Part (next T s st) j b

    quiet : (H : List Entry) → ((k p B : ℕ) → s.to_back j ≤ p → is_in (Hash k p B) H ≡ s.heard j k p B) → (st : Step)
        → passed T j s st ≡ none → Silent (part_of s j H) st
    unfolding sent_by next
    quiet H A st e = go (either (eqb (answer T s st) 0))
      where
        go : (eqb (answer T s st) 0 ≡ true) ⊎ (eqb (answer T s st) 0 ≡ false) → Silent (part_of s j H) st
        go (inl z) = let stay = stays T j peer honest s G H A st e (answered T s st (eqb-true (answer T s st) 0 z)) in record
            { sent = rw z stay.silent; after = rw z stay.still }
        go (inr z) = record { sent = rw z; after = rw z (record { own = refl; heard = A }) }

    pub step_silent : (b : Box) → Part s j b → (st : Step) → passed T j s st ≡ none → Silent b st
    step_silent b P st e = subst (λ (z : Box). Silent z st) (sym P.own) (quiet b.heard P.heard st e)

    -- one call

    call_passed : (b : Box) → Part s j b → (c : Call) (m : Message) → passed_call T j s c ≡ some m
        → room_in T j b (reply T s c) (some m) ≡ true
        → (reply T s c ≡ (handle T j b m).answer) × (sent_call T j s c (reply T s c) ≡ (handle T j b m).sent) × Part (leave T s c) j
        (handle T j b m).after
    unfolding passed_call sent_call reply leave
    call_passed b P (Some st) m e r = let one = step_passed b P st m e r in (one.answers, one.sent, one.after)
    call_passed b P None m e r = absurd (none_some m e)

    call_silent : (b : Box) → Part s j b → (c : Call) → passed_call T j s c ≡ none
        → (sent_call T j s c (reply T s c) ≡ none) × Part (leave T s c) j b
    unfolding passed_call sent_call reply leave
    call_silent b P (Some st) e = let one = step_silent b P st e in (one.sent, one.after)
    call_silent b P None e = (refl, P)

    call-part : (b : Box) → Part s j b → (c : Call) → room_in T j b (reply T s c) (passed_call T j s c) ≡ true
        → Part (leave T s c) j (fed_with T j b (passed_call T j s c))
    unfolding fed_with
    call-part b P c r = go (passed_call T j s c) refl r
      where
        go : (o : Option Message) → passed_call T j s c ≡ o → room_in T j b (reply T s c) o ≡ true → Part (leave T s c) j (fed_with T j b o)
        go none e r = (call_silent b P c e).1
        go (some m) e r = (call_passed b P c m e r).2

  -- all calls, of any engine that follows the rules

  module _ {X : Type 0} (E : Engine X) (Ready : X → Type 0) (F : Follows T E Ready) where
    pub part-call : (x : X) → Ready x → (b : Box) → Part (E.holds x) j b → (c : List ℕ)
        → room_in T j b (E.answers x c) (passes T j E x c) ≡ true
        → Part (E.holds (E.leaves x c)) j (fed_with T j b (passes T j E x c))
    part-call x R b P c r = rw (F.leaves x R c) (call-part (E.holds x) (F.valid x R) b P (read c) (rw (F.answers x R c) at r))

    -- the box that the messages leave is the box that was fed with them call by call
    pub fed-first : (x : X) (b : Box) (c : List ℕ) (calls : List (List ℕ))
        → box_after T j b (messages T j E x (c ∷ calls)) ≡ box_after T j (fed_with T j b (passes T j E x c))
        (messages T j E (E.leaves x c) calls)
    unfolding box_after messages with_message fed_with
    fed-first x b c calls = go (passes T j E x c)
      where
        go : (o : Option Message)
            → box_after T j b (with_message o (messages T j E (E.leaves x c) calls)) ≡ box_after T j (fed_with T j b o)
            (messages T j E (E.leaves x c) calls)
        go none = refl
        go (some m) = refl

    none-fed : (x : X) (b : Box) → box_after T j b (messages T j E x []) ≡ b
    unfolding box_after messages
    none-fed x b = refl

    pub part-after : (x : X) → Ready x → (b : Box) → Part (E.holds x) j b → (calls : List (List ℕ)) → neither_full T j E x b calls ≡ true
        → Part (E.holds (store_from E x calls)) j (box_after T j b (messages T j E x calls))
    unfolding store_from neither_full
    part-after x R b P [] r = rw (none-fed x b) P
    part-after x R b P (c ∷ calls) r = rw (fed-first x b c calls)
        (part-after (E.leaves x c) (F.stays_ready x R c) (fed_with T j b (passes T j E x c))
        (part-call x R b P c (and_l _ (neither_full T j E (E.leaves x c) (fed_with T j b (passes T j E x c)) calls) r)) calls
        (and_r (room_in T j b (E.answers x c) (passes T j E x c)) _ r))

    pub ready_after : (x : X) → Ready x → (calls : List (List ℕ)) → Ready (store_from E x calls)
    unfolding store_from
    ready_after x R [] = R
    ready_after x R (c ∷ calls) = ready_after (E.leaves x c) (F.stays_ready x R c) calls

    -- beside each other, with j's part in the box: any next call
    pub now_in_step : (x : X) → Ready x → (b : Box) → Part (E.holds x) j b → InStep T j E x b
    now_in_step x R b P = record {
      part = P;
      answers = λ c m e r. F.answers x R c ∙ (call_passed (E.holds x) (F.valid x R) b P (read c) m e (rw (F.answers x R c) at r)).0;
      sent = λ c m e r. rw (F.answers x R c) (call_passed (E.holds x) (F.valid x R) b P (read c) m e (rw (F.answers x R c) at r)).1;
      silent = λ c e. rw (F.answers x R c) (call_silent (E.holds x) (F.valid x R) b P (read c) e).0;
    }

    -- From fresh on both sides: after any calls, of which none that passes j a message is answered 13 on either side, the box is in step
    -- with peer j.
    pub in_step : (x : X) → Ready x → E.holds x ≡ fresh → (calls : List (List ℕ)) → neither_full T j E x fresh_box calls ≡ true
        → InStep T j E (store_from E x calls) (box_after T j fresh_box (messages T j E x calls))
    in_step x R e calls r = now_in_step (store_from E x calls) (ready_after x R calls) (box_after T j fresh_box (messages T j E x calls))
        (part-after x R fresh_box (rw e (fresh-part j)) calls r)
