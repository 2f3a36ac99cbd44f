-- Calls that pass the tests of a plan are a close.
use Prim.Native.Nat.{ℕ, zero, suc, ◌+◌, ◌<◌}
use native.Mathlib.Omega.{arith}
use mathlib.Core.Bool.{Bool, true, false, ◌&&◌, ◌||◌, not}
use mathlib.Core.List.{List, [], ◌∷◌, ◌++◌, append-nil, append_assoc}
use mathlib.Core.Path.{◌≡◌, refl, sym, ap, subst, ◌∙◌}
use mathlib.Core.Logic.{⊎_elim}
use lib.Dec.{eqb, ltb}
use lib.ListN.{length, take}
use borrow.Author.Tests.{eqb-true, eq-eqb, ltb-true, not-true}
use Rattle.base.proofs.Below.{every-at}
use Rattle.base.proofs.Bytes.{eq_of_same}
use Rattle.base.proofs.Truth.{split, false_true, and_i, and_l, and_r, or_cases, imp_e, eqb_self}
use Rattle.rules.specs.declared.Entry.TheVariants.{Hash}
use Rattle.rules.specs.declared.Step.{Step}
use Rattle.rules.specs.declared.Step.TheVariants.{Take, Fetch, SendHash, Hear, Back, Down}
use Rattle.rules.specs.Form.{Call}
use Rattle.std.specs.Prelude.{Some}
use Rattle.rules.specs.Table.{Table, quorum}
use Rattle.rules.specs.Bag.{same_entry, entry_at}
use Rattle.rules.specs.State.{State}
use Rattle.rules.specs.Fields.{fields}
use Rattle.rules.specs.Form.{read}
use Rattle.rules.specs.Rules.{reply, board_by}
use Rattle.rules.specs.Valid.{Peer}
use Rattle.rules.proofs.Bag as bag
use Rattle.form.specs.Written.{written}
use Rattle.form.proofs.Written.{read-written}
use Rattle.liveness.specs.Places.{Behaviour, call_at, step_at, held_at, answer_at}
use Rattle.liveness.specs.Close.{Closed, Exchange, BacksAt, InOrder, Close}
use Rattle.liveness.specs.InTurn.{InTurn, CloseInTurn, everyone}
use Rattle.liveness.specs.Lent.{NoTakes}
use Rattle.liveness.proofs.Places.{Obeys, in_list}
use Rattle.closes.specs.Plan.{Plan, said_in, peers, pairs, every_place, stands_at, where_backed, late_enough, board_sent, hash_heard, Planned, last_enough, InTurnPlanned}

-- a test for all but the pairs of one peer
other : (j k : ℕ) (b : Bool) → eqb j k || b ≡ true → (j ≡ k → ⊥) → b ≡ true
other j k b e d = ⊎_elim (λ u. absurd (d (eqb-true j k u))) (λ h. h) (or_cases (eqb j k) b e)

module _ {T : Table} {E : Behaviour} (O : Obeys T E) where
  -- what every call of a list passes, the call at each place passes
  passed_from : (f : ℕ → State → Call → Bool) (k : ℕ) (earlier later : List (List ℕ)) (i : ℕ)
      → every_place T f k (E.held earlier) later ≡ true → i < length later
      → f (k + i) (held_at E earlier later i) (step_at later i) ≡ true
  unfolding every_place
  passed_from f k earlier [] i e l = absurd (omega arith)
  passed_from f k earlier (c ∷ rest) zero e l =
      subst (λ (a : ℕ). f a (E.held (earlier ++ [])) (read c) ≡ true) {x = k} {y = k + 0} (omega arith)
      (subst (λ (m : List (List ℕ)). f k (E.held m) (read c) ≡ true) (sym (append-nil earlier)) (and_l _ _ e))
  passed_from f k earlier (c ∷ rest) (suc i) e l =
      let next = and_r (f k (E.held earlier) (read c)) _ e in
      let all = subst (λ (v : State). every_place T f (suc k) v rest ≡ true) (sym (O.one_more earlier c)) next in
      let here = passed_from f (suc k) (earlier ++ (c ∷ [])) rest i all (omega arith) in
      subst (λ (a : ℕ). f a (E.held (earlier ++ (c ∷ take i rest))) (step_at rest i) ≡ true)
      {x = suc k + i} {y = k + suc i} (omega arith)
      (subst (λ (m : List (List ℕ)). f (suc k + i) (E.held m) (step_at rest i) ≡ true)
      (append_assoc earlier (c ∷ []) (take i rest)) here)

  passed : (f : ℕ → State → Call → Bool) (earlier later : List (List ℕ)) → every_place T f 0 (E.held earlier) later ≡ true
      → (i : ℕ) → i < length later → f i (held_at E earlier later i) (step_at later i) ≡ true
  passed f earlier later e i l =
      subst (λ (a : ℕ). f a (held_at E earlier later i) (step_at later i) ≡ true) {x = 0 + i} {y = i} (omega arith)
      (passed_from f 0 earlier later i e l)

module _ (T : Table) where
  of-peers : (f : ℕ → Bool) → peers T f ≡ true → (k : ℕ) → Peer T k → f k ≡ true
  of-peers f e zero h = absurd (omega arith)
  of-peers f e (suc k) h = every-at (λ a. f (suc a)) T.n e k (omega arith)

  of-pairs : (f : ℕ → ℕ → Bool) → pairs T f ≡ true → (j k : ℕ) → Peer T j → Peer T k → f j k ≡ true
  of-pairs f e j k hj hk = of-peers (λ k. f j k) (of-peers (λ j. peers T (λ k. f j k)) e j hj) k hk

module _ {T : Table} {E : Behaviour} (O : Obeys T E) (p : ℕ) (P : Plan) (earlier later : List (List ℕ))
    (K : Planned T p P (E.held earlier) later) where
  abbrev begin : State
  begin = E.held earlier

  abbrev now : ℕ → State
  now i = held_at E earlier later i

  closed : Closed T begin p
  closed = record {
    up = λ k h. not-true _ (of-peers T (λ k. not (begin.down k)) K.up k h);
    closed = λ k h. ltb-true p _ (of-peers T (λ k. ltb p (begin.current k)) K.closed k h);
    due = λ k h. eqb-true _ p (of-peers T (λ k. eqb (begin.to_back k) p) K.due k h);
  }

  -- the places

  stands : (i : ℕ) (st : Step) → (fields st).board ≡ 0 → stands_at T p P begin later i st ≡ true → step_at later i ≡ Some st
  stands i st plain e = ap read (eq_of_same (call_at later i) (written st) e) ∙ read-written st (omega (arith, plain))

  fetches : (j k : ℕ) → Peer T j → Peer T k → (j ≡ k → ⊥) → step_at later (P.fetch_at j k) ≡ Some (Fetch j k p)
  fetches j k hj hk d = stands (P.fetch_at j k) (Fetch j k p) refl
      (other j k _ (of-pairs T (λ j k. eqb j k || stands_at T p P begin later (P.fetch_at j k) (Fetch j k p)) K.fetches j k hj hk) d)

  sends : (j : ℕ) → Peer T j → step_at later (P.hash_at j) ≡ Some (SendHash j p)
  sends j h = stands (P.hash_at j) (SendHash j p) refl
      (of-peers T (λ j. stands_at T p P begin later (P.hash_at j) (SendHash j p)) K.sends j h)

  hears : (j k : ℕ) → Peer T j → Peer T k → P.listens j k ≡ true → step_at later (P.hear_at j k) ≡ Some (Hear j (P.entry j k))
  hears j k hj hk w =
      let test : ℕ → ℕ → Bool = λ j k. not (P.listens j k) || stands_at T p P begin later (P.hear_at j k) (Hear j (P.entry j k)) in
      stands (P.hear_at j k) (Hear j (P.entry j k)) refl (imp_e (P.listens j k) _ (of-pairs T test K.hears j k hj hk) w)

  backs : (j : ℕ) → Peer T j → step_at later (P.back_at j) ≡ Some (Back j)
  backs j h = stands (P.back_at j) (Back j) refl (of-peers T (λ j. stands_at T p P begin later (P.back_at j) (Back j)) K.backs j h)

  -- what is held there

  sent : (k : ℕ) → Peer T k → board_by T (now (P.hash_at k)) k p ≡ P.board k
  sent k h =
      let i = P.hash_at k in
      let test : ℕ → Bool = λ k. not (eqb i (P.hash_at k)) || eqb (board_by T (now i) k p) (P.board k) in
      let all = passed O (board_sent T p P begin later) earlier later K.sent i (in_list later i (SendHash k p) (sends k h)) in
      eqb-true _ _ (imp_e (eqb i i) _ (of-peers T test all k h) (eqb_self i))

  heard : (j k : ℕ) → Peer T j → Peer T k → P.listens j k ≡ true
      → entry_at (now (P.hear_at j k)).bag (P.entry j k) ≡ Hash k p (P.board k)
  heard j k hj hk w =
      let i = P.hear_at j k in
      let test : ℕ → ℕ → Bool = λ j k. not (P.listens j k && eqb i (P.hear_at j k))
      || same_entry (entry_at (now i).bag (P.entry j k)) (Hash k p (P.board k)) in
      let within = in_list later i (Hear j (P.entry j k)) (hears j k hj hk w) in
      let all = passed O (hash_heard T p P begin later) earlier later K.of_these i within in
      bag.eq_of_same _ _ (imp_e (P.listens j k && eqb i i) _ (of-pairs T test all j k hj hk) (and_i _ _ w (eqb_self i)))

  -- the exchange, where each hears those that the plan says, or fewer
  exchange_with : (listens : ℕ → ℕ → Bool) → ((j k : ℕ) → Peer T j → Peer T k → listens j k ≡ true → P.listens j k ≡ true)
      → Exchange T E earlier later p listens
  exchange_with listens planned = record {
    fetch_at = P.fetch_at;
    fetches = fetches;
    hash_at = P.hash_at;
    sends = sends;
    hear_at = P.hear_at;
    entry = P.entry;
    hears = λ j k hj hk w. hears j k hj hk (planned j k hj hk w);
    of_these = λ j k hj hk w. heard j k hj hk (planned j k hj hk w) ∙ sym (ap (Hash k p) (sent k hk));
    back_at = P.back_at;
    backs = backs;
  }

  abbrev exchange : Exchange T E earlier later p P.listens
  exchange = exchange_with P.listens (λ j k hj hk w. w)

  -- the order

  -- a back that is accepted passes the test
  at_back : (f : ℕ → ℕ → Bool) → every_place T (where_backed T p P begin later f) 0 begin later ≡ true
      → (i j : ℕ) → BacksAt T E earlier later p i j → f j i ≡ true
  at_back f every_back i j b =
      let all = passed O (where_backed T p P begin later f) earlier later every_back i (in_list later i (Back j) b.called) in
      let here = subst (λ (c : Call). where_backed T p P begin later f i (now i) c ≡ true) b.called all in
      let said = sym (O.answers (earlier ++ take i later) (call_at later i)) ∙ b.taken in
      let zero = subst (λ (c : Call). reply T (now i) c ≡ 0) b.called said in
      imp_e (eqb 11 11 && eqb (reply T (now i) (Some (Back j))) 0) _ here (and_i _ _ refl (eq-eqb _ 0 zero))

  late : (j k : ℕ) → Peer T j → Peer T k → (j ≡ k → ⊥) → (i : ℕ) → BacksAt T E earlier later p i j → P.fetch_at j k < i
  late j k hj hk d i b =
      let after = at_back (late_enough T p P begin later) K.none_early i j b in
      ltb-true _ _ (other j k _ (of-peers T (λ k. eqb j k || ltb (P.fetch_at j k) i) after k hk) d)

  in_order : InOrder T E earlier later p exchange
  unfolding exchange_with
  in_order = record {
    fetch_first = λ j k hj hk d. ltb-true _ _
        (other j k _ (of-pairs T (λ j k. eqb j k || ltb (P.fetch_at j k) (P.hash_at j)) K.fetch_first j k hj hk) d);
    hash_first = λ j k hj hk w. ltb-true _ _ (imp_e (P.listens j k) _
        (of-pairs T (λ j k. not (P.listens j k) || ltb (P.hash_at k) (P.hear_at j k)) K.hash_first j k hj hk) w);
    hear_first = λ j k hj hk w. ltb-true _ _ (imp_e (P.listens j k) _
        (of-pairs T (λ j k. not (P.listens j k) || ltb (P.hear_at j k) (P.back_at j)) K.hear_first j k hj hk) w);
    back_last = λ j k hj hk d w.
        let test : ℕ → ℕ → Bool = λ j k. eqb j k || (P.listens j j || ltb (P.fetch_at j k) (P.back_at j)) in
        let Either-is = or_cases (P.listens j j) _ (other j k _ (of-pairs T test K.back_last j k hj hk) d) in
        ltb-true _ _ (⊎_elim (λ u. split u w) (λ u. u) Either-is);
    none_early = late;
  }

  none_down : (i j : ℕ) → Peer T j → step_at later i ≡ Some (Down j) → ⊥
  none_down i j h e =
      let all = passed O (λ i s c. not (eqb (said_in c).op 17)) earlier later K.none_down i (in_list later i (Down j) e) in
      let here : false ≡ true = subst (λ (c : Call). not (eqb (said_in c).op 17) ≡ true) e all in
      false_true here

  never_full_lem : (i : ℕ) → i < length later → answer_at E earlier later i ≡ 13 → ⊥
  never_full_lem i l e =
      let here = passed O (λ i s c. not (eqb (reply T s c) 13)) earlier later K.never_full_lem i l in
      split (eq-eqb _ 13 (sym (O.answers (earlier ++ take i later) (call_at later i)) ∙ e)) (not-true _ here)

  pub is_close : Close T E earlier later p
  is_close = record {
    closed = closed;
    listens = P.listens;
    enough = of-peers T (λ j. quorum T (P.listens j)) K.enough;
    exchange = exchange;
    in_order = in_order;
    undisturbed = record { none_down = none_down; never_full_lem = never_full_lem };
  }

  -- and where they pass those of document 02's order, in that order
  module _ (L : InTurnPlanned T p P begin later) where
    listened : (j k : ℕ) → Peer T j → Peer T k → P.listens j k ≡ true
    listened = of-pairs T (λ j k. P.listens j k) L.all_heard

    abbrev hear_all : Exchange T E earlier later p everyone
    hear_all = exchange_with everyone (λ j k hj hk w. listened j k hj hk)

    last : (j k l : ℕ) → Peer T j → Peer T k → (j ≡ k → ⊥) → Peer T l → (i : ℕ) → BacksAt T E earlier later p i l
        → P.fetch_at j k < i
    last j k l hj hk d hl i b =
        let after = at_back (last_enough T p P begin later) L.all_before i l b in
        ltb-true _ _ (other j k _ (of-pairs T (λ j k. eqb j k || ltb (P.fetch_at j k) i) after j k hj hk) d)

    in_turn : InTurn T E earlier later p hear_all
    unfolding exchange_with
    in_turn = record {
      fetches_first = λ j k i hj hk d hi. ltb-true _ _ (other j k _ (of-pairs T (λ j k. eqb j k || ltb (P.fetch_at j k) (P.hash_at i))
          (of-peers T (λ i. pairs T (λ j k. eqb j k || ltb (P.fetch_at j k) (P.hash_at i))) L.fetches_first i hi) j k hj hk) d);
      hashes_first = λ j k i hj hk hi. ltb-true _ _ (of-pairs T (λ j k. ltb (P.hash_at i) (P.hear_at j k))
          (of-peers T (λ i. pairs T (λ j k. ltb (P.hash_at i) (P.hear_at j k))) L.hashes_first i hi) j k hj hk);
      hears_first = λ j k i hj hk hi. ltb-true _ _ (of-pairs T (λ j k. ltb (P.hear_at j k) (P.back_at i))
          (of-peers T (λ i. pairs T (λ j k. ltb (P.hear_at j k) (P.back_at i))) L.hears_first i hi) j k hj hk);
      none_early = last;
    }

    pub is_in_turn : CloseInTurn T E earlier later p
    is_in_turn = record {
      closed = closed;
      exchange = hear_all;
      in_turn = in_turn;
      undisturbed = record { none_down = none_down; never_full_lem = never_full_lem };
    }

-- calls of which none is a take
pub no_takes : {T : Table} {E : Behaviour} (O : Obeys T E) (earlier later : List (List ℕ)) (p : ℕ)
    → every_place T (λ i s c. not (eqb (said_in c).op 4)) 0 (E.held earlier) later ≡ true → NoTakes T E earlier later p
no_takes O earlier later p none i j k x e a =
    let all = passed O (λ i s c. not (eqb (said_in c).op 4)) earlier later none i (in_list later i (Take j k p x) e) in
    let here : false ≡ true = subst (λ (c : Call). not (eqb (said_in c).op 4) ≡ true) e all in
    false_true here
