-- What the calls answer, leave and send, at each return.
use Prim.Native.Nat.{ℕ}
use native.Mathlib.Omega.{arith}
use mathlib.Core.Bool.{Bool, true, false, cond, ◌&&◌}
use mathlib.Core.List.{List, [], ◌∷◌}
use mathlib.Core.Option.{none}
use mathlib.Core.Path.{◌≡◌, refl, sym, ap, subst, ◌∙◌}
use lib.Dec.{eqb}
use lib.ListN.{length}
use Rattle.std.specs.Prelude.{Result, Ok, Err}
use Rattle.std.specs.Result.{IsErr}
use borrow.Author.Tests.{ne_eqb, eq-eqb}
use Rattle.base.specs.declared.refusal.Refusal.{Refusal}
use Rattle.base.specs.Refusals.{answer_of}
use Rattle.base.proofs.Refusals.{refused_ne0}
use Rattle.base.proofs.Truth.{and_false, and_i}
use Rattle.base.specs.Bytes.{byte_at, number_at}
use Rattle.bits.specs.Row.{Bytes}
use Rattle.header.specs.declared.Head.{Head}
use Rattle.header.specs.Header.{head_of, items_of}
use Rattle.ballot.specs.Table.{refusal}
use Rattle.clash.specs.Clash.{clash_in}
use Rattle.rules.specs.Table.{Table}
use Rattle.rules.specs.Rules.{board_from}
use Rattle.view.specs.View.{no_clash, table_of}
use Rattle.engine.specs.Engine.{rules_table}
use Rattle.engine.proofs.Calls.{room_read}
use Rattle.field_rules.specs.Message.{Message, signs, shares, closes, hashes, backs, falls, rises}
use Rattle.field_rules.specs.Rules.{field_rule, handle_answer, handle, Handled}
use Rattle.field_rules.specs.MessageBytes.{Reading, to, malformed, reading, choose, read_message, read_step, sent_bytes, handle_reading}
use Rattle.field_state.specs.Holding.{box_of}
use Rattle.field_state.specs.Ready.{Ready}
use Rattle.field_state.specs.Encode.{encode}
use Rattle.field_valid.specs.BoxOk.{box_ok}
use Rattle.field_form.specs.Handling.{HandlesReading, SendsReading}
use Rattle.field_rules.specs.MessageBytes.{own}
use Rattle.field.specs.Calls.{call_answer, call_bytes, call_sent}
use Rattle.field_state.proofs.Encoded.{holds_bytes}
use Rattle.field_valid.proofs.Ok.{ready_of_ok, ok_of_ready}

-- what a call promises
pub record Called (table : List ℕ) (j : ℕ) (s t : List ℕ) (room : Bool) (L : Reading) (o u : List ℕ) (r : ℕ) : Type 0 where
  pub answers : r ≡ call_answer table j s room L
  pub leaves : t ≡ call_bytes table j s room L
  pub sends : u ≡ call_sent table j s room L o

module _ (table : List ℕ) (j : ℕ) (s : List ℕ) (room : Bool) (L : Reading) (o : List ℕ) where
  -- a refused call leaves the state's bytes and the output as they were
  kept : eqb (call_answer table j s room L) 0 ≡ false → s ≡ call_bytes table j s room L
  unfolding call_bytes
  kept e = sym (ap (λ (b : Bool). cond b (encode (handle_reading (rules_table table) j (box_of s) L).after) s) e)

  unwritten : eqb (call_answer table j s room L) 0 ≡ false → o ≡ call_sent table j s room L o
  unfolding call_sent
  unwritten e = sym (ap (λ (b : Bool). cond b (sent_bytes j (handle_reading (rules_table table) j (box_of s) L).sent) o) e)

  refused : {r : ℕ} → r ≡ call_answer table j s room L → (r ≡ 0 → ⊥) → Called table j s s room L o o r
  refused {r} e n =
      let no : eqb (call_answer table j s room L) 0 ≡ false = ap (λ (a : ℕ). eqb a 0) (sym e) ∙ ne_eqb r 0 n in
      record { answers = e; leaves = kept no; sends = unwritten no }

  table_answer : {r : ℕ} → r ≡ refusal table → (r ≡ 0 → ⊥) → r ≡ call_answer table j s room L
  unfolding call_answer
  table_answer {r} e n = rw (← e, ne_eqb r 0 n)

  state_answer : (fit : refusal table ≡ 0) → (box_ok (head_of table) s && room) ≡ false → 14 ≡ call_answer table j s room L
  unfolding call_answer
  state_answer fit n = rw (fit, n)

  pub bad_table : (q : Result (Unit {0}) Refusal) → IsErr q → answer_of q ≡ refusal table → Called table j s s room L o o (answer_of q)
  bad_table (Ok a) n e = absurd cc
  bad_table (Err r) n e = refused (table_answer e (refused_ne0 r)) (refused_ne0 r)

  pub bad_state : (fit : refusal table ≡ 0) → (box_ok (head_of table) s && room) ≡ false → Called table j s s room L o o 14
  bad_state fit n = refused (state_answer fit n) (λ z. omega (arith, z))

  pub heard_so : (fit : refusal table ≡ 0) → (box_ok (head_of table) s && room) ≡ true → (t u : List ℕ) {r : ℕ}
      → SendsReading (rules_table table) j s t L o u r
      → (eqb r 0 ≡ false → t ≡ s) → Called table j s t room L o u r
  unfolding call_answer call_bytes call_sent
  heard_so fit ok t u {r} S still = record {
    answers = rw (fit, ok) S.handles.answers;
    leaves = rw (fit, ok, ← S.handles.answers) (go (eqb r 0) refl);
    sends = rw (fit, ok, ← S.handles.answers) S.sends;
  }
    where
      go : (b : Bool) → eqb r 0 ≡ b → t ≡ cond b (encode (handle_reading (rules_table table) j (box_of s) L).after) s
      go true e = holds_bytes t _ S.handles.leaves
      go false e = still e

-- what is refused leaves the box as it was
refused_same : (T : Table) (j : ℕ) (s : List ℕ) (m : Message) → eqb (handle T j (box_of s) m).answer 0 ≡ false
    → (handle T j (box_of s) m).after ≡ box_of s
unfolding handle
refused_same T j s m e = rw e

reading_same : (T : Table) (j : ℕ) (s : List ℕ) (L : Reading) → eqb (handle_reading T j (box_of s) L).answer 0 ≡ false
    → (handle_reading T j (box_of s) L).after ≡ box_of s
unfolding handle_reading
reading_same T j s malformed e = refl
reading_same T j s (to i m) e = go (eqb i j) e
  where
    go : (b : Bool) → eqb (cond b (handle T j (box_of s) m) (record { answer = 6; after = box_of s; sent = none })).answer 0 ≡ false
        → (cond b (handle T j (box_of s) m) (record { answer = 6; after = box_of s; sent = none })).after ≡ box_of s
    go true e = refused_same T j s m e
    go false e = refl

-- so the bytes are
refused-bytes : (T : Table) (h : Head) (j : ℕ) (s t : List ℕ) (L : Reading) {r : ℕ} → Ready h s → HandlesReading T j s t L r
    → eqb r 0 ≡ false
    → t ≡ s
refused-bytes T h j s t L {r} R H e =
    holds_bytes t _ H.leaves ∙ ap encode (reading_same T j s L (ap (λ (a : ℕ). eqb a 0) (sym H.answers) ∙ e))
    ∙ sym (holds_bytes s (box_of s) (record { canon = R.canon; says = refl }))

-- no act of the peer's own is judged by what clashes
module _ (h : Head) (clash : ℕ → ℕ → Bool) (j : ℕ) (s : List ℕ) where
  abbrev Same : Reading → Type 0
  Same L = handle_reading (table_of h no_clash) j (box_of s) L ≡ handle_reading (table_of h clash) j (box_of s) L

  same_reading : (ok : Bool) (i : ℕ) (m : Message) → handle (table_of h no_clash) j (box_of s) m ≡ handle (table_of h clash) j (box_of s) m
      → Same (reading ok i m)
  unfolding reading handle_reading
  same_reading true i m e = ap (λ (z : Handled). cond (eqb i j) z (record { answer = 6; after = box_of s; sent = none })) e
  same_reading false i m e = refl

  same_choice : (op n : ℕ) (L : Reading) (rest : List (ℕ × Reading)) → Same L → Same (choose op rest) → Same (choose op ((n, L) ∷ rest))
  unfolding choose
  same_choice op n L rest a b = go (eqb op n)
    where
      go : (t : Bool) → Same (cond t L (choose op rest))
      go true = a
      go false = b

  same_none : (op : ℕ) → Same (choose op [])
  unfolding choose handle_reading
  same_none op = refl

  same_own : (op i k p x B : ℕ) → Same (choose op (own i k p x B))
  unfolding handle handle_answer field_rule board_from
  same_own op i k p x B =
      same_choice op 3 _ _ (same_reading _ i (signs x) refl)
      (same_choice op 5 _ _ (same_reading _ i (shares x) refl)
      (same_choice op 7 _ _ (same_reading _ i closes refl)
      (same_choice op 9 _ _ (same_reading _ i (hashes p) refl)
      (same_choice op 11 _ _ (same_reading _ i backs refl)
      (same_choice op 17 _ _ (same_reading _ i falls refl)
      (same_choice op 18 _ _ (same_reading _ i rises refl) (same_none op)))))))

  same_step : (c : List ℕ) → Same (read_step c)
  unfolding read_step handle_reading
  same_step c = go (eqb (length c) 13)
    where
      go : (t : Bool)
          → Same (cond t (choose (byte_at c 0) (own (byte_at c 1) (byte_at c 2) (byte_at c 3) (byte_at c 4) (number_at c 5 8))) malformed)
      go true = same_own (byte_at c 0) (byte_at c 1) (byte_at c 2) (byte_at c 3) (byte_at c 4) (number_at c 5 8)
      go false = refl

  step_too : (t c o u : List ℕ) {r : ℕ} → SendsReading (table_of h no_clash) j s t (read_step c) o u r
      → SendsReading (table_of h clash) j s t (read_step c) o u r
  step_too t c o u S =
      let e = same_step c in
      record {
        handles = record { answers = rw (← e) S.handles.answers; leaves = rw (← e) S.handles.leaves };
        sends = rw (← e) S.sends;
      }

-- the calls, return by return
module _ (table : List ℕ) (good : 0 ≡ refusal table) (h : Head) (head : h ≡ head_of table) where
  pub items-read : h.items ≡ items_of table
  items-read = ap (λ (h : Head). h.items) head

  module _ (j : ℕ) (s : List ℕ) {ok : Bool} (tested : ok ≡ box_ok h s) where
    pub ready_read : Bytes s → ok ≡ true → Ready h s
    ready_read bytes y = ready_of_ok h s (room_read table good h head) bytes (sym tested ∙ y)

    box_test : ok ≡ box_ok (head_of table) s
    box_test = tested ∙ ap (λ (h : Head). box_ok h s) head

    pub state_refused : (room : Bool) (L : Reading) (o : List ℕ) → ok ≡ false → Called table j s s room L o o 14
    state_refused room L o n = bad_state table j s room L o (sym good) (ap (λ (b : Bool). b && room) (sym box_test ∙ n))

    pub output_refused : (L : Reading) (o : List ℕ) → (length o ≡ 13 → ⊥) → Called table j s s (eqb (length o) 13) L o o 14
    output_refused L o n = bad_state table j s (eqb (length o) 13) L o (sym good)
        (ap (λ (b : Bool). box_ok (head_of table) s && b) (ne_eqb (length o) 13 n) ∙ and_false (box_ok (head_of table) s))

    pub brought_so : (m t : List ℕ) {r : ℕ} → Ready h s → HandlesReading (table_of h (clash_in table)) j s t (read_message m) r
        → (r ≡ call_answer table j s true (read_message m)) × (t ≡ call_bytes table j s true (read_message m))
    brought_so m t {r} R H =
        let G : HandlesReading (rules_table table) j s t (read_message m) r = subst
        (λ (h : Head). HandlesReading (table_of h (clash_in table)) j s t (read_message m) r) head H in
        let y : (box_ok (head_of table) s && true) ≡ true = and_i _ _ (subst (λ (h : Head). box_ok h s ≡ true) head (ok_of_ready h s R)) refl
        in
        let o = cond (eqb r 0) (sent_bytes j (handle_reading (rules_table table) j (box_of s) (read_message m)).sent) [] in
        let C = heard_so table j s true (read_message m) [] (sym good) y t o (record { handles = G; sends = refl })
        (refused-bytes (rules_table table) h j s t (read_message m) R G) in
        (C.answers, C.leaves)

    pub acted_so : (c o t u : List ℕ) {r : ℕ} → length o ≡ 13 → Ready h s → SendsReading (table_of h no_clash) j s t (read_step c) o u r
        → Called table j s t (eqb (length o) 13) (read_step c) o u r
    acted_so c o t u {r} l R S =
        let G : SendsReading (rules_table table) j s t (read_step c) o u r =
        subst (λ (h : Head). SendsReading (table_of h (clash_in table)) j s t (read_step c) o u r) head
        (step_too h (clash_in table) j s t c o u S)
        in
        heard_so table j s (eqb (length o) 13) (read_step c) o (sym good)
        (and_i _ _ (subst (λ (h : Head). box_ok h s ≡ true) head (ok_of_ready h s R)) (eq-eqb (length o) 13 l)) t u G
        (refused-bytes (rules_table table) h j s t (read_step c) R G.handles)

-- the same as the first call has it, which sends nothing
module _ (table : List ℕ) (j : ℕ) (s : List ℕ) (m : List ℕ) where
  pub bring_table : (q : Result (Unit {0}) Refusal) → IsErr q → answer_of q ≡ refusal table
      → (answer_of q ≡ call_answer table j s true (read_message m)) × (s ≡ call_bytes table j s true (read_message m))
  bring_table q n e = let C = bad_table table j s true (read_message m) [] q n e in (C.answers, C.leaves)

  pub bring_state : 0 ≡ refusal table → (h : Head) → h ≡ head_of table → {ok : Bool} → ok ≡ box_ok h s → ok ≡ false
      → (14 ≡ call_answer table j s true (read_message m)) × (s ≡ call_bytes table j s true (read_message m))
  bring_state good h head tested n =
      let C = state_refused table good h head j s tested true (read_message m) [] n in (C.answers, C.leaves)

-- what the second call promises, in its parts
pub act_parts : (table : List ℕ) (j : ℕ) (s t : List ℕ) (c o u : List ℕ) (r : ℕ) → Called table j s t (eqb (length o) 13) (read_step c) o u r
    → (r ≡ call_answer table j s (eqb (length o) 13) (read_step c))
    × ((t ≡ call_bytes table j s (eqb (length o) 13) (read_step c)) × (u ≡ call_sent table j s (eqb (length o) 13) (read_step c) o))
act_parts table j s t c o u r C = (C.answers, (C.leaves, C.sends))
