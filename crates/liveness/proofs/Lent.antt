-- A close comes through, from any state: what the peers heard when they back is the union's board. P3 of states that were
-- lent.
use Prim.Native.Nat.{ℕ, suc, ◌≤◌, ◌<◌}
use native.Mathlib.Omega.{arith}
use mathlib.Core.Bool.{Bool, true, false}
use mathlib.Core.List.{List, ◌++◌}
use mathlib.Core.Path.{◌≡◌, refl, sym, ap, subst, ◌∙◌}
use mathlib.Core.Logic.{◌⊎◌, inl, inr, ⊎_elim}
use lib.ListN.{length}
use borrow.Author.Tests.{leb-true, le-leb}
use Rattle.base.specs.Sets.{add4}
use Rattle.base.proofs.Truth.{either, split, true_false}
use Rattle.base.proofs.Weight.{weight_within}
use Rattle.base.proofs.Sets.{new4}
use Rattle.rules.specs.declared.Entry.{Entry}
use Rattle.rules.specs.declared.Entry.TheVariants.{Hash}
use Rattle.rules.specs.declared.Step.TheVariants.{Hear, Back}
use Rattle.std.specs.Prelude.{Some}
use Rattle.rules.specs.Table.{Table, weigh}
use Rattle.rules.specs.Bag.{entry_at, signer_of, period_of, board_of}
use Rattle.rules.specs.State.{State}
use Rattle.rules.specs.Form.{read}
use Rattle.rules.specs.Rules.{rule, answer, board_by}
use Rattle.rules.specs.Run.{Engine}
use Rattle.rules.specs.Follows.{Follows}
use Rattle.rules.specs.Valid.{Peer}
use Rattle.edges.specs.Exact.{heard_own, own_backing}
use Rattle.edges.proofs.Exact.{exact_edges}
use Rattle.liveness.specs.Union.{union_board}
use Rattle.liveness.specs.Places.{Behaviour, behaviour_from, held_at, answer_at}
use Rattle.liveness.specs.Close.{AllHonest, Exchange, BacksAt, InOrder, Close}
use Rattle.liveness.specs.InTurn.{CloseInTurn, everyone}
use Rattle.liveness.specs.Lent.{NothingNew, LentThrough, ThroughLent}
use Rattle.liveness.proofs.Places.{Obeys, obeys_from, in_list, its_answer, now_step, now_done, at-end, along, keeps}
use Rattle.liveness.proofs.Answers.{hear-done, entered, call-room}
use Rattle.liveness.proofs.Union.{union-items}
use Rattle.liveness.proofs.Fetches.{Steady, steady}
use Rattle.liveness.proofs.Backed.{BackedIn, backed_step}
use Rattle.liveness.proofs.Settled.{all_enough, Settled, settled_run, can_publish}

module _ {T : Table} {E : Behaviour} (Y : Obeys T E) (A : AllHonest T) (earlier later : List (List ℕ)) (p : ℕ)
    (K : Close T E earlier later p) (known : NothingNew T E earlier later p) where
  abbrev begin : State
  begin = E.held earlier

  abbrev now : ℕ → State
  now i = held_at E earlier later i

  -- the union's board
  abbrev U : ℕ
  U = union_board T begin p

  abbrev X : Exchange T E earlier later p K.listens
  X = K.exchange

  abbrev O : InOrder T E earlier later p X
  O = K.in_order

  abbrev S : Steady T E earlier later p X.fetch_at
  S = steady Y A earlier later p K.closed K.undisturbed.none_down known X.fetch_at X.fetches

  -- what j hears of k is the hash of U

  hash_of : (j k : ℕ) → Peer T j → Peer T k → K.listens j k ≡ true
      → entry_at (now (X.hear_at j k)).bag (X.entry j k) ≡ Hash k p U
  hash_of j k hj hk w =
      let sent = S.its_board (X.hash_at k) k hk (λ m hm d. O.fetch_first k m hk hm d) in
      X.of_these j k hj hk w ∙ ap (Hash k p) sent

  heard : (i j k : ℕ) → Peer T j → Peer T k → K.listens j k ≡ true → X.hear_at j k < i → (now i).to_back j ≤ p → (now i).heard j k p U ≡ true
  unfolding rule
  heard i j k hj hk w before late =
      let at = X.hear_at j k in
      let it = hash_of j k hj hk w in
      let zero = hear-done T (now at) j (X.entry j k) k p U (S.able at j hj) it (S.closed at j hj) in
      let left = now_done Y earlier later at (Hear j (X.entry j k)) (X.hears j k hj hk w) zero in
      let noted : Entry → Bool = λ a. add4 j (signer_of a) (period_of a) (board_of a) (now at).heard j k p U in
      let new = subst (λ (a : Entry). noted a ≡ true) (sym it) (new4 j k p U (now at).heard) in
      (keeps Y earlier later (suc at) i before).heard j k p U hj (A.honest j hj) late
      (subst (λ (v : State). v.heard j k p U ≡ true) (sym left) new)

  -- whoever backs p has fetched all
  backs_union : (i j : ℕ) → Peer T j → BacksAt T E earlier later p i j → board_by T (now i) j p ≡ U
  backs_union i j h b = S.its_board i j h (λ k hk d. O.none_early j k h hk d i b)

  backed : (i : ℕ) → BackedIn T p U begin (now i)
  backed = along Y earlier later (BackedIn T p U begin)
      (record { due = λ k h. inl (K.closed.due k h); only = λ k B b n. split b n })
      (λ i st e a c I. backed_step T p U begin A (now i) I st (λ j u h n. backs_union i j h (record {
        called = e ∙ ap Some u;
        of_p = n;
        taken = its_answer Y earlier later i st e ∙ a;
      })) c)

  fetched : (j k : ℕ) → Peer T j → Peer T k → (j ≡ k → ⊥) → X.fetch_at j k < X.back_at j
  fetched j k hj hk d = go (either (K.listens j j))
    where
      go : (K.listens j j ≡ true) ⊎ (K.listens j j ≡ false) → X.fetch_at j k < X.back_at j
      go (inl w) = omega (arith, O.fetch_first j k hj hk d, O.hash_first j j hj hj w, O.hear_first j j hj hj w)
      go (inr w) = O.back_last j k hj hk d w

  -- where j backs, it has fetched all, and has heard a quorum of hashes of its board
  module _ (j : ℕ) (hj : Peer T j) where
    abbrev at : ℕ
    at = X.back_at j

    own : board_by T (now at) j p ≡ U
    own = S.its_board at j hj (λ k hk d. fetched j k hj hk d)

    heard_own_lem : (now at).to_back j ≡ p → (k : ℕ) → Peer T k → K.listens j k ≡ true → heard_own T (now at) j k ≡ true
    heard_own_lem u k hk w =
        let it = heard at j k hj hk w (O.hear_first j k hj hk w) (omega arith) in
        subst (λ (q : ℕ). (now at).heard j k q (board_by T (now at) j q) ≡ true) (sym u)
        (subst (λ (B : ℕ). (now at).heard j k p B ≡ true) (sym own) it)

    heard_enough : (now at).to_back j ≡ p → T.t ≤ weigh T (heard_own T (now at) j)
    heard_enough u =
        let asked = leb-true T.t (weigh T (K.listens j)) (K.enough j hj) in
        omega (arith, asked, weight_within T.weight_of T.n (K.listens j) (heard_own T (now at) j) (λ k l m. heard_own_lem u k (l, m)))

    its_back : answer_at E earlier later at ≡ answer T (now at) (Back j)
    its_back = its_answer Y earlier later at (Back j) (X.backs j hj)

    accepted : (now at).to_back j ≡ p → answer T (now at) (Back j) ≡ 0
    accepted u = entered T (now at) (Back j) _
        (own_backing j (S.able at j hj) (omega (arith, u, S.closed at j hj)) (heard_enough u))
        (λ full. K.undisturbed.never_full_lem at (in_list later at (Back j) (X.backs j hj)) (its_back ∙ full))

    -- so after it j has backed p, unless it had before
    backs_there : p < (now (suc at)).to_back j
    backs_there = ⊎_elim here (λ u. omega (arith, u.0, (keeps Y earlier later at (suc at) (omega arith)).to_back j)) ((backed at).due j hj)
      where
        here : (now at).to_back j ≡ p → p < (now (suc at)).to_back j
        here u = subst (λ (v : State). p < v.to_back j) (sym (now_step Y earlier later at (Back j) (X.backs j hj)))
            (omega (arith, u, ((exact_edges T (now at)).backs j (accepted u)).0))

  settled : Settled Y A p U begin (E.held (earlier ++ later))
  settled = subst (Settled Y A p U begin) (at-end Y earlier later (length later) (omega arith)) (record {
    backed = backed (length later);
    over = λ k h.
        let within = in_list later (X.back_at k) (Back k) (X.backs k h) in
        omega (arith, backs_there k h, (keeps Y earlier later (suc (X.back_at k)) (length later) within).to_back k);
  })

  pub lent_through : LentThrough T E earlier later p
  lent_through = record {
    items = union-items T begin p;
    same_union = S.same_union;
    of-union = backs_union;
    over = settled.over;
    publishable = λ more.
        can_publish Y A p U begin ((earlier ++ later) ++ more) (settled_run Y A p U begin (earlier ++ later) more settled);
  }

-- document 02's own order is one in which each hears a quorum
pub in_order : (T : Table) → AllHonest T → (E : Behaviour) (earlier later : List (List ℕ)) (p : ℕ)
    → CloseInTurn T E earlier later p → Close T E earlier later p
in_order T A E earlier later p K = let I = K.in_turn in record {
  closed = K.closed;
  listens = everyone;
  enough = λ j h. le-leb T.t (weigh T (everyone j)) (all_enough T A (everyone j) (λ k hk. refl));
  exchange = K.exchange;
  in_order = record {
    fetch_first = λ j k hj hk d. I.fetches_first j k j hj hk d hj;
    hash_first = λ j k hj hk w. I.hashes_first j k k hj hk hk;
    hear_first = λ j k hj hk w. I.hears_first j k j hj hk hj;
    back_last = λ j k hj hk d w. true_false w;
    none_early = λ j k hj hk d i b. I.none_early j k j hj hk d hj i b;
  };
  undisturbed = K.undisturbed;
}

-- from any store that was lent
pub through_lent : {T : Table} {X : Type 0} {E : Engine X} {Ready : X → Type 0} → Follows T E Ready → AllHonest T → (x : X) → Ready x
    → ThroughLent T (behaviour_from E x)
through_lent {T} {X} {E} F A x R = let Y = obeys_from F x R in record {
  in_turn = λ earlier later p K none. lent_through Y A earlier later p (in_order T A (behaviour_from E x) earlier later p K)
      (λ i j k x e a. absurd (none i j k x e a));
  in_order = lent_through Y A;
  room = λ calls c l e. call-room T ((behaviour_from E x).held calls) (read c) l (sym (Y.answers calls c) ∙ e);
}
