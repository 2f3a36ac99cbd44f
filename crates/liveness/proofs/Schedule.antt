-- A close can always be had: after any calls that leave what P3 supposes, with room in the bag, the schedule is one.
use Prim.Native.Nat.{ℕ, suc, ◌+◌, ◌*◌, ◌-◌, ◌≤◌, ◌<◌}
use native.Mathlib.Decide.{dec_lt, ℕ_discrete}
use native.Mathlib.Omega.{arith}
use mathlib.Core.Bool.{true}
use mathlib.Core.List.{List, ◌++◌}
use mathlib.Core.Path.{◌≡◌, refl, sym, ap, subst, ◌∙◌}
use lib.ListN.{length, take}
use lib.Seq.{take-append_seam}
use Rattle.rules.specs.declared.Entry.{Entry}
use Rattle.rules.specs.declared.Entry.TheVariants.{Hash}
use Rattle.rules.specs.declared.Step.{Step}
use Rattle.rules.specs.declared.Step.TheVariants.{Take, Fetch, SendHash, Hear, Back, Down}
use Rattle.rules.specs.Form.{Call}
use Rattle.std.specs.Prelude.{Some, None}
use Rattle.rules.specs.Table.{Table}
use Rattle.rules.specs.Bag.{is_in, entry_at, enter, capacity}
use Rattle.rules.specs.State.{State}
use Rattle.rules.specs.Fields.{fields}
use Rattle.rules.specs.Rules.{answer, next, board_by}
use Rattle.rules.specs.Valid.{Peer}
use Rattle.rules.proofs.Bag.{placed, entered, stays_in}
use Rattle.edges.specs.Exact.{own_hash}
use Rattle.liveness.specs.Union.{union_board}
use Rattle.liveness.specs.Places.{Behaviour, step_at, held_at, answer_at}
use Rattle.liveness.specs.Close.{AllHonest, Closed, Exchange}
use Rattle.liveness.specs.InTurn.{InTurn, CloseInTurn, everyone}
use Rattle.liveness.specs.Lent.{NoTakes}
use Rattle.liveness.specs.Schedule.{fetch_and_hash, hear_and_back, hash_number, schedule, Room}
use Rattle.liveness.proofs.Places.{Obeys, in_list, its_answer, at-start, at-end}
use Rattle.liveness.proofs.Answers as answers
use Rattle.liveness.proofs.Entering.{one_entry, fetch_bag, hash_bag, hear_bag, back_bag}
use Rattle.liveness.proofs.Fetches.{Steady, steady}
use Rattle.liveness.proofs.Parts.{said, walk, cell-lt, cell_row, cell_col, among, among-other, fetch, send, hear, back, Scheduled, scheduled, in_parts}

module _ {T : Table} {E : Behaviour} (O : Obeys T E) (A : AllHonest T) (earlier : List (List ℕ)) (p : ℕ)
    (C : Closed T (E.held earlier) p) (room : Room T (E.held earlier)) where
  abbrev n : ℕ
  n = T.n

  abbrev M : ℕ
  M = T.n * (T.n - 1)

  abbrev N : ℕ
  N = T.n * T.n

  abbrev begin : State
  begin = E.held earlier

  abbrev U : ℕ
  U = union_board T begin p

  -- what is held when all hashes are sent
  abbrev sent : State
  sent = E.held (earlier ++ fetch_and_hash n p)

  abbrev entry : ℕ → ℕ
  entry = hash_number T sent p

  abbrev later : List (List ℕ)
  later = schedule T E earlier p

  abbrev now : ℕ → State
  now i = held_at E earlier later i

  abbrev P : Scheduled n p entry later
  P = scheduled n p entry

  -- the places of the fetch by j from k, of the hash of k, of j's hear of it, and of j's back

  abbrev fetch_at : ℕ → ℕ → ℕ
  fetch_at j k = (j - 1) * (n - 1) + among j k

  abbrev hash_at : ℕ → ℕ
  hash_at k = M + (k - 1)

  abbrev pair_at : ℕ → ℕ → ℕ
  pair_at j k = (j - 1) * n + (k - 1)

  abbrev hear_at : ℕ → ℕ → ℕ
  hear_at j k = M + n + pair_at j k

  abbrev back_at : ℕ → ℕ
  back_at j = M + n + N + (j - 1)

  fetch_lt : (j k : ℕ) → Peer T j → Peer T k → (j ≡ k → ⊥) → fetch_at j k < M
  fetch_lt j k hj hk d = cell-lt (n - 1) (j - 1) (among j k) (among-other n j k hj hk d).0 n (omega arith)

  pair_lt : (j k : ℕ) → Peer T j → Peer T k → pair_at j k < N
  pair_lt j k hj hk = cell-lt n (j - 1) (k - 1) (omega arith) n (omega arith)

  back_again : (j : ℕ) → Peer T j → j - 1 + 1 ≡ j
  back_again j h = omega arith

  fetches : (j k : ℕ) → Peer T j → Peer T k → (j ≡ k → ⊥) → step_at later (fetch_at j k) ≡ Some (Fetch j k p)
  fetches j k hj hk d =
      let (lt, is-k) = among-other n j k hj hk d in
      ap (step_at later) {x = fetch_at j k} {y = 0 + fetch_at j k} (omega arith)
      ∙ said P.fetches (fetch_at j k) (fetch_lt j k hj hk d)
      ∙ rw (cell_row (n - 1) (j - 1) (among j k) lt, cell_col (n - 1) (j - 1) (among j k) lt, back_again j hj, is-k)

  sends : (j : ℕ) → Peer T j → step_at later (hash_at j) ≡ Some (SendHash j p)
  sends j h = said P.hashes (j - 1) (omega arith) ∙ rw (back_again j h)

  hears : (j k : ℕ) → Peer T j → Peer T k → step_at later (hear_at j k) ≡ Some (Hear j (entry k))
  hears j k hj hk =
      said P.hears (pair_at j k) (pair_lt j k hj hk)
      ∙ rw (cell_row n (j - 1) (k - 1) (omega arith), cell_col n (j - 1) (k - 1) (omega arith), back_again j hj, back_again k hk)

  backs : (j : ℕ) → Peer T j → step_at later (back_at j) ≡ Some (Back j)
  backs j h = said P.backs (j - 1) (omega arith) ∙ rw (back_again j h)

  now_sent : now (M + n) ≡ sent
  now_sent =
      let first_two : take (M + n) later ≡ fetch_and_hash n p =
      rw (← P.first_two) (take-append_seam (fetch_and_hash n p) (hear_and_back n entry)) in
      ap (λ (l : List (List ℕ)). E.held (earlier ++ l)) first_two

  -- no call takes a peer down

  one_op : (i : ℕ) (a b : Step) → step_at later i ≡ Some a → step_at later i ≡ Some b → (fields a).op ≡ (fields b).op
  one_op i a b e u = ap op_of (sym e ∙ u)
    where
      op_of : Call → ℕ
      op_of (Some st) = (fields st).op
      op_of None = 0

  none_down : (i j : ℕ) → Peer T j → step_at later i ≡ Some (Down j) → ⊥
  none_down i j h e = in_parts n p entry (λ i. step_at later i ≡ Some (Down j) → ⊥)
      (λ a l e. omega (arith, one_op (0 + a) (fetch n p entry a) (Down j) (said P.fetches a l) e))
      (λ a l e. omega (arith, one_op (M + a) (send n p entry a) (Down j) (said P.hashes a l) e))
      (λ a l e. omega (arith, one_op (M + n + a) (hear n p entry a) (Down j) (said P.hears a l) e))
      (λ a l e. omega (arith, one_op (M + n + N + a) (back n p entry a) (Down j) (said P.backs a l) e))
      i (omega (arith, P.long, in_list later i (Down j) e)) e

  -- nor is one a take
  none_taken : (i j k x : ℕ) → step_at later i ≡ Some (Take j k p x) → ⊥
  none_taken i j k x e = in_parts n p entry (λ i. step_at later i ≡ Some (Take j k p x) → ⊥)
      (λ a l e. omega (arith, one_op (0 + a) (fetch n p entry a) (Take j k p x) (said P.fetches a l) e))
      (λ a l e. omega (arith, one_op (M + a) (send n p entry a) (Take j k p x) (said P.hashes a l) e))
      (λ a l e. omega (arith, one_op (M + n + a) (hear n p entry a) (Take j k p x) (said P.hears a l) e))
      (λ a l e. omega (arith, one_op (M + n + N + a) (back n p entry a) (Take j k p x) (said P.backs a l) e))
      i (omega (arith, P.long, in_list later i (Take j k p x) e)) e

  abbrev S : Steady T E earlier later p fetch_at
  S = steady O A earlier later p C none_down (λ i j k x e a. absurd (none_taken i j k x e)) fetch_at fetches

  -- whoever's board it is, once all fetches are done it is U
  its_board : (i j : ℕ) → Peer T j → M ≤ i → board_by T (now i) j p ≡ U
  its_board i j hj l = S.its_board i j hj (λ k hk d. omega (arith, fetch_lt j k hj hk d))

  -- the bag, part by part

  fetched : (a : ℕ) → a ≤ M → (now (0 + a)).bag ≡ begin.bag
  fetched = walk O earlier later P.fetches (λ a v. v.bag ≡ begin.bag) (ap (λ (v : State). v.bag) (at-start O earlier later))
      (λ a l q. fetch_bag T (now (0 + a)) _ _ p ∙ q)

  after_fetches : (now M).bag ≡ begin.bag
  after_fetches = ap (λ (i : ℕ). (now i).bag) {x = M} {y = 0 + M} (omega arith) ∙ fetched M (omega arith)

  -- the hashes of the first a peers are in a bag, which has grown by no more
  record Hashed (a : ℕ) (bag : List Entry) : Type 0 where
    size : length bag ≤ length begin.bag + a
    there : (b : ℕ) → b < a → is_in (Hash (b + 1) p U) bag ≡ true

  hash_more : (a : ℕ) (bag : List Entry) → Hashed a bag → Hashed (suc a) (enter (Hash (a + 1) p U) bag)
  hash_more a bag I = record { size = omega (arith, I.size, one_entry new bag); there = λ b l. go b l (ℕ_discrete b a) }
    where
      new : Entry
      new = Hash (a + 1) p U

      go : (b : ℕ) → b < suc a → Dec (b ≡ a) → is_in (Hash (b + 1) p U) (enter new bag) ≡ true
      go b l (yes e) = subst (λ (c : ℕ). is_in (Hash (c + 1) p U) (enter new bag) ≡ true) (sym e) (entered new bag)
      go b l (no d) = stays_in new (Hash (b + 1) p U) bag (I.there b (omega arith))

  hash_sent_lem : (a : ℕ) → a < n → Hashed a (now (M + a)).bag → answer T (now (M + a)) (SendHash (a + 1) p) ≡ 0
  hash_sent_lem a l I =
      let v = now (M + a) in
      let peer : Peer T (a + 1) = (omega arith, omega arith) in
      let of-table : p < T.periods = omega (arith, C.closed (a + 1) peer, (O.valid earlier).counters.opens (a + 1)) in
      answers.entered T v (SendHash (a + 1) p) _
      (own_hash (a + 1) p (S.able (M + a) (a + 1) peer) of-table (S.closed (M + a) (a + 1) peer))
      (answers.step_room T v (SendHash (a + 1) p) (omega (arith, I.size)))

  -- each hash that is sent is of U
  one_hash : (a : ℕ) → a < n → Hashed a (now (M + a)).bag → Hashed (suc a) (next T (now (M + a)) (SendHash (a + 1) p)).bag
  one_hash a l I =
      let v = now (M + a) in
      let its : board_by T v (a + 1) p ≡ U = its_board (M + a) (a + 1) (omega arith, omega arith) (omega arith) in
      let bag : (next T v (SendHash (a + 1) p)).bag ≡ enter (Hash (a + 1) p U) v.bag = hash_bag T v (a + 1) p (hash_sent_lem a l I)
      ∙ ap (λ (B : ℕ). enter (Hash (a + 1) p B) v.bag) its in
      subst (Hashed (suc a)) (sym bag) (hash_more a v.bag I)

  hashed : (a : ℕ) → a ≤ n → Hashed a (now (M + a)).bag
  hashed = walk O earlier later P.hashes (λ a v. Hashed a v.bag)
      (record { size = omega (arith, ap length after_fetches); there = λ b m. absurd (omega arith) }) one_hash

  heard : (a : ℕ) → a ≤ N → (now (M + n + a)).bag ≡ (now (M + n)).bag
  heard = walk O earlier later P.hears (λ a v. v.bag ≡ (now (M + n)).bag) refl (λ a l q. hear_bag T (now (M + n + a)) _ _ ∙ q)

  backed : (a : ℕ) → a ≤ n → length (now (M + n + N + a)).bag ≤ length begin.bag + n + a
  backed = walk O earlier later P.backs (λ a v. length v.bag ≤ length begin.bag + n + a)
      (omega (arith, ap length (heard N (omega arith)), (hashed n (omega arith)).size))
      (λ a l q. omega (arith, q, back_bag T (now (M + n + N + a)) (a + 1)))

  -- the schedule adds at most a hash and a backing of each peer
  pub at_most : length (E.held (earlier ++ later)).bag ≤ length begin.bag + 2 * n
  at_most =
      let ended = at-end O earlier later (M + n + N + n) (omega (arith, P.long)) in
      subst (λ (v : State). length v.bag ≤ length begin.bag + 2 * n) ended (omega (arith, backed n (omega arith)))

  -- the close

  -- k's hash is in the bag when all are sent, under the number that each names
  sent_board : (k : ℕ) → Peer T k → board_by T sent k p ≡ U
  sent_board k h = ap (λ (v : State). board_by T v k p) (sym now_sent) ∙ its_board (M + n) k h (omega arith)

  pub in_sent : (k : ℕ) → Peer T k → is_in (Hash k p (board_by T sent k p)) sent.bag ≡ true
  in_sent k h =
      let there = (hashed n (omega arith)).there (k - 1) (omega arith) in
      rw (sent_board k h) (subst (λ (v : State). is_in (Hash k p U) v.bag ≡ true) now_sent
      (subst (λ (c : ℕ). is_in (Hash c p U) (now (M + n)).bag ≡ true) {x = k - 1 + 1} {y = k} (omega arith) there))

  of_these : (j k : ℕ) → Peer T j → Peer T k
      → entry_at (now (hear_at j k)).bag (entry k) ≡ Hash k p (board_by T (now (hash_at k)) k p)
  of_these j k hj hk =
      let bag : (now (hear_at j k)).bag ≡ sent.bag = heard (pair_at j k) (omega (arith, pair_lt j k hj hk))
      ∙ ap (λ (v : State). v.bag) now_sent in
      ap (λ (l : List Entry). entry_at l (entry k)) bag ∙ (placed sent.bag _ (in_sent k hk)).1
      ∙ ap (Hash k p) (sent_board k hk ∙ sym (its_board (hash_at k) k hk (omega arith)))

  exchange : Exchange T E earlier later p everyone
  exchange = record {
    fetch_at = fetch_at;
    fetches = fetches;
    hash_at = hash_at;
    sends = sends;
    hear_at = hear_at;
    entry = λ j k. entry k;
    hears = λ j k hj hk w. hears j k hj hk;
    of_these = λ j k hj hk w. of_these j k hj hk;
    back_at = back_at;
    backs = backs;
  }

  -- no back stands among the fetches
  back_later : (i l a : ℕ) → a < M → step_at later i ≡ Some (Back l) → a < i
  back_later i l a h e = go (dec_lt a i)
    where
      go : Dec (a < i) → a < i
      go (yes u) = u
      go (no u) =
          let it = ap (step_at later) {x = i} {y = 0 + i} (omega arith) ∙ said P.fetches i (omega arith) in
          absurd (omega (arith, one_op i (fetch n p entry i) (Back l) it e))

  in_turn : InTurn T E earlier later p exchange
  unfolding exchange
  in_turn = record {
    fetches_first = λ j k i hj hk d hi. omega (arith, fetch_lt j k hj hk d);
    hashes_first = λ j k i hj hk hi. omega arith;
    hears_first = λ j k i hj hk hi. omega (arith, pair_lt j k hj hk);
    none_early = λ j k l hj hk d hl i b. back_later i l (fetch_at j k) (fetch_lt j k hj hk d) b.called;
  }

  has_room : (i : ℕ) → i < M + n + N + n → answer_at E earlier later i ≡ 13 → ⊥
  has_room = in_parts n p entry (λ i. answer_at E earlier later i ≡ 13 → ⊥)
      (λ a l e. answers.fetch-room T (now (0 + a)) _ _ p (given (0 + a) _ (said P.fetches a l) e))
      (λ a l e. few (M + a) _ (said P.hashes a l) (omega (arith, (hashed a (omega arith)).size)) e)
      (λ a l e. answers.hear-room T (now (M + n + a)) _ _ (given (M + n + a) _ (said P.hears a l) e))
      (λ a l e. few (M + n + N + a) _ (said P.backs a l) (omega (arith, backed a (omega arith))) e)
    where
      given : (i : ℕ) (st : Step) → step_at later i ≡ Some st → answer_at E earlier later i ≡ 13 → answer T (now i) st ≡ 13
      given i st s e = sym (its_answer O earlier later i st s) ∙ e

      few : (i : ℕ) (st : Step) → step_at later i ≡ Some st → length (now i).bag < capacity → answer_at E earlier later i ≡ 13 → ⊥
      few i st s l e = answers.step_room T (now i) st l (given i st s e)

  pub closing : CloseInTurn T E earlier later p
  closing = record {
    closed = C;
    exchange = exchange;
    in_turn = in_turn;
    undisturbed = record { none_down = none_down; never_full_lem = λ i l. has_room i (omega (arith, P.long)) };
  }

  pub untaken : NoTakes T E earlier later p
  untaken i j k x e a = none_taken i j k x e
