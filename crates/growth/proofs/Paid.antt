-- One call: what the bag gains is paid from what is left of the gain, what is left never rises, and where the call is
-- answered full, 256 entries are there and something is left.
use Prim.Native.Nat.{ℕ, ◌+◌, ◌≤◌, ◌<◌}
use native.Mathlib.Omega.{arith}
use mathlib.Core.Bool.{true, false}
use mathlib.Core.List.{List, [], ◌∷◌}
use mathlib.Core.Path.{◌≡◌, refl, sym, ◌∙◌}
use mathlib.Core.Logic.{◌⊎◌, inl, inr}
use lib.ListN.{length, length-append}
use borrow.Author.Tests.{eq-eqb, not-true}
use Rattle.base.specs.Bytes.{byte_at}
use Rattle.base.specs.Refusals.{numbered}
use Rattle.base.specs.Sets.{set_at}
use Rattle.base.proofs.Truth.{split, either, is_false, and_i, and_r, or_l, or_r, not_i}
use Rattle.base.proofs.Sets.{rises}
use Rattle.rules.specs.declared.Entry.{Entry}
use Rattle.rules.specs.declared.Entry.TheVariants.{Backing}
use Rattle.rules.specs.declared.Step.{Step}
use Rattle.rules.specs.declared.Step.TheVariants.{SendHash, Back, Publish, FalseHash, FalseBacking, ClearHashes}
use Rattle.rules.specs.Form.{Call}
use Rattle.std.specs.Prelude.{Some, None}
use Rattle.rules.specs.Table.{Table}
use Rattle.rules.specs.Bag.{is_in, enter, is_full, capacity, without_hashes}
use Rattle.rules.specs.State.{State}
use Rattle.rules.specs.Form.{read}
use Rattle.rules.specs.Rules.{board_by, rule, answer, reply, leave}
use Rattle.rules.specs.Valid.{Valid}
use Rattle.rules.proofs.Answered.{Clear, judged, by_call}
use Rattle.rules.proofs.Each.{each}
use Rattle.rules.proofs.Bag.{stays_in, in_enter, enter_cases, same_self, in_without, length_without}
use Rattle.rules.proofs.Valid.{is_peer_lem}
use Rattle.gains.specs.Gain.{is_op, adds, back_of}
use Rattle.growth.specs.Growth.{Sized}
use Rattle.growth.proofs.Said.{op_said, peer_said, period_said, board_said}
use Rattle.growth.proofs.Full.{no_full, reached, full_size, full_new, none_full}
use Rattle.growth.proofs.Full.{full_hash, full_back, full_publish, full_false_hash, full_false_backing}
use Rattle.growth.proofs.Left.{Stays, there, opens, left, left_mono, left_less, left_adds, left_opens, left_backs}

enter_again : (a : Entry) (bag : List Entry) → is_in a bag ≡ true → enter a bag ≡ bag
unfolding enter
enter_again a bag e = rw e

length-enter : (a : Entry) (bag : List Entry) → length (enter a bag) ≤ length bag + 1
length-enter a bag = enter_cases (λ l. length l ≤ length bag + 1) a bag (λ m. omega arith)
    (λ m. rw (length-append bag (a ∷ [])) (omega arith))

module _ (T : Table) (Z : Sized T) (s : State) (G : Valid T s) (c : List ℕ) (calls : List (List ℕ)) where
  -- what t has and what is left after the call is no more than what s has and what is left before it
  abbrev Paid : State → Type 0
  Paid t = length t.bag + left t.bag t.to_back calls ≤ length s.bag + left s.bag s.to_back (c ∷ calls)

  paid_same : length s.bag + left s.bag s.to_back calls ≤ length s.bag + left s.bag s.to_back (c ∷ calls)
  paid_same = omega (arith, left_less s.bag s.to_back c calls)

  stays : (a : Entry) → Stays s.bag (enter a s.bag)
  stays a k p B m = stays_in a (Backing k p B) s.bag m

  paid_adds : (a : Entry) → adds c ≡ true
      → length (enter a s.bag) + left (enter a s.bag) s.to_back calls ≤ length s.bag + left s.bag s.to_back (c ∷ calls)
  paid_adds a e = omega (
    arith,
    length-enter a s.bag,
    left_mono s.bag (enter a s.bag) (stays a) s.to_back s.to_back (λ k. omega arith) calls,
    left_adds s.bag s.to_back c calls e,
  )

  -- hash, publish, false hash
  adds_9 : (j p : ℕ) → read c ≡ Some (SendHash j p) → adds c ≡ true
  unfolding adds
  adds_9 j p w = or_l (is_op 9 c) _ (op_said c (SendHash j p) w)

  adds_12 : (e : ℕ) → read c ≡ Some (Publish e) → adds c ≡ true
  unfolding adds
  adds_12 e w = or_r (is_op 9 c) _ (or_l (is_op 12 c) _ (op_said c (Publish e) w))

  adds_15 : (j p B : ℕ) → read c ≡ Some (FalseHash j p B) → adds c ≡ true
  unfolding adds
  adds_15 j p B w = or_r (is_op 9 c) _ (or_r (is_op 12 c) _ (op_said c (FalseHash j p B) w))

  -- false backing
  there_is : (bag : List Entry) (j p B : ℕ) → read c ≡ Some (FalseBacking j p B) → there bag c ≡ is_in (Backing j p B) bag
  unfolding there
  there_is bag j p B w = let st = FalseBacking j p B in rw (peer_said c st w, period_said c st w, board_said c st w)

  falls : (j p B : ℕ) → read c ≡ Some (FalseBacking j p B) → is_in (Backing j p B) s.bag ≡ false
      → left (enter (Backing j p B) s.bag) s.to_back calls + 1 ≤ left s.bag s.to_back (c ∷ calls)
  unfolding opens
  falls j p B w m =
      let a = Backing j p B in
      left_opens s.bag s.to_back c calls (enter a s.bag) (stays a)
      (and_i _ _ (op_said c (FalseBacking j p B) w) (not_i _ (λ e. split (sym (there_is s.bag j p B w) ∙ e) m)))
      (is_false _ (λ e. split (there_is (enter a s.bag) j p B w ∙ in_enter a a s.bag ∙ or_l _ _ (same_self a))
      (not-true _ (and_r (is_op 16 c) _ e))))

  paid_false : (j p B : ℕ) → read c ≡ Some (FalseBacking j p B)
      → length (enter (Backing j p B) s.bag) + left (enter (Backing j p B) s.bag) s.to_back calls ≤ length s.bag + left s.bag
      s.to_back (c ∷ calls)
  paid_false j p B w = go (either (is_in (Backing j p B) s.bag))
    where
      go : (is_in (Backing j p B) s.bag ≡ true) ⊎ (is_in (Backing j p B) s.bag ≡ false)
          → length (enter (Backing j p B) s.bag) + left (enter (Backing j p B) s.bag) s.to_back calls ≤ length s.bag + left
          s.bag s.to_back (c ∷ calls)
      go (inl m) = rw (enter_again (Backing j p B) s.bag m) paid_same
      go (inr m) = omega (arith, length-enter (Backing j p B) s.bag, falls j p B w m)

  -- back
  back_of_lem : (j : ℕ) → read c ≡ Some (Back j) → back_of j c ≡ true
  unfolding back_of
  back_of_lem j w = and_i _ _ (op_said c (Back j) w) (eq-eqb (byte_at c 1) j (peer_said c (Back j) w))

  backs : (a : Entry) (j : ℕ) → read c ≡ Some (Back j) → j ≤ T.n → s.to_back j < s.current j
      → left (enter a s.bag) (set_at j (s.to_back j + 1) s.to_back) calls + 1 ≤ left s.bag s.to_back (c ∷ calls)
  backs a j w l m = left_backs s.bag s.to_back c calls (enter a s.bag) (stays a) j (omega (arith, Z.peers))
      (omega (arith, G.counters.opens j, Z.periods)) (back_of_lem j w)

  -- a clear
  abbrev Fell : State → Type 0
  Fell t = left t.bag t.to_back calls ≤ left s.bag s.to_back (c ∷ calls)

  fell_clear : (q : ℕ) → left (without_hashes q s.bag) s.to_back calls ≤ left s.bag s.to_back (c ∷ calls)
  fell_clear q = omega (
    arith,
    left_mono s.bag (without_hashes q s.bag) (λ k r B m. in_without q (Backing k r B) s.bag ∙ m) s.to_back s.to_back
        (λ k. omega arith) calls,
    left_less s.bag s.to_back c calls,
  )

  -- one step that is not refused

  abbrev PaidBy : Step → Type 0
  PaidBy st = read c ≡ Some st → Clear T s st → Paid (rule T s st).effect

  paid_hash : (j p : ℕ) → PaidBy (SendHash j p)
  unfolding rule
  paid_hash j p w z = paid_adds _ (adds_9 j p w)

  paid_publish : (e : ℕ) → PaidBy (Publish e)
  unfolding rule
  paid_publish e w z = paid_adds _ (adds_12 e w)

  paid_false_hash : (j p B : ℕ) → PaidBy (FalseHash j p B)
  unfolding rule
  paid_false_hash j p B w z = paid_adds _ (adds_15 j p B w)

  paid_false_backing : (j p B : ℕ) → PaidBy (FalseBacking j p B)
  unfolding rule
  paid_false_backing j p B w z = paid_false j p B w

  paid_back : (j : ℕ) → PaidBy (Back j)
  unfolding rule
  paid_back j w z =
      let a = Backing j (s.to_back j) (board_by T s j (s.to_back j)) in
      let peer : j ≤ T.n = (is_peer_lem T j (search)).1 in
      let closed : s.to_back j < s.current j = search judged in
      omega (arith, length-enter a s.bag, backs a j w peer closed)

  paid_clear : (q : ℕ) → PaidBy (ClearHashes q)
  unfolding rule
  paid_clear q w z = omega (arith, length_without q s.bag, fell_clear q)

  paid_step : (st : Step) → PaidBy st
  unfolding rule
  paid_step = each PaidBy
      (search (paid_same, paid_hash, paid_publish, paid_false_hash, paid_false_backing, paid_back, paid_clear))

  pub paid_call : Paid (leave T s (read c))
  paid_call = by_call T Paid s paid_same (read c) (λ st w a z. paid_step st w z)

  -- what is left never rises

  abbrev FellBy : Step → Type 0
  FellBy st = Fell (rule T s st).effect

  fell_same : left s.bag s.to_back calls ≤ left s.bag s.to_back (c ∷ calls)
  fell_same = left_less s.bag s.to_back c calls

  fell_enter : (a : Entry) → left (enter a s.bag) s.to_back calls ≤ left s.bag s.to_back (c ∷ calls)
  fell_enter a = omega (
    arith,
    left_mono s.bag (enter a s.bag) (stays a) s.to_back s.to_back (λ k. omega arith) calls,
    fell_same,
  )

  fell_back : (j : ℕ) → FellBy (Back j)
  unfolding rule
  fell_back j = omega (
    arith,
    left_mono s.bag (enter (Backing j (s.to_back j) (board_by T s j (s.to_back j))) s.bag) (stays _) s.to_back
        (set_at j (s.to_back j + 1) s.to_back) (rises j s.to_back) calls,
    fell_same,
  )

  fell_cleared : (q : ℕ) → FellBy (ClearHashes q)
  unfolding rule
  fell_cleared q = fell_clear q

  fell_step : (st : Step) → FellBy st
  unfolding rule
  fell_step = each FellBy (search (fell_same, fell_enter, fell_back, fell_cleared))

  pub fell_call : Fell (leave T s (read c))
  fell_call = by_call T Fell s fell_same (read c) (λ st w a z. fell_step st)

  -- full: 256 are there, and something is left

  abbrev Over : Type 0
  Over = capacity < length s.bag + left s.bag s.to_back (c ∷ calls)

  abbrev OverBy : Step → Type 0
  OverBy st = read c ≡ Some st → answer T s st ≡ 13 → Over

  over_none : (st : Step) → no_full (numbered (rule T s st).refusals) ≡ true → OverBy st
  over_none st n w e = none_full T s st n e

  over-adds : (a : Entry) → is_full a s.bag ≡ true → adds c ≡ true → Over
  over-adds a f e = omega (arith, full_size a s.bag f, left_adds s.bag s.to_back c calls e)

  over_hash : (j p : ℕ) → OverBy (SendHash j p)
  over_hash j p w e = over-adds _ (full_hash T s j p e) (adds_9 j p w)

  over_publish : (n : ℕ) → OverBy (Publish n)
  over_publish n w e = over-adds _ (full_publish T s n e) (adds_12 n w)

  over_false_hash : (j p B : ℕ) → OverBy (FalseHash j p B)
  over_false_hash j p B w e = over-adds _ (full_false_hash T s j p B e) (adds_15 j p B w)

  over_false_backing : (j p B : ℕ) → OverBy (FalseBacking j p B)
  over_false_backing j p B w e =
      let full = full_false_backing T s j p B e in
      omega (arith, full_size (Backing j p B) s.bag full, falls j p B w (full_new (Backing j p B) s.bag full))

  over_back : (j : ℕ) → OverBy (Back j)
  unfolding rule answer
  over_back j w e =
      let r = reached (numbered (rule T s (Back j)).refusals) refl e in
      let a = Backing j (s.to_back j) (board_by T s j (s.to_back j)) in
      let peer : j ≤ T.n = (is_peer_lem T j (search)).1 in
      let closed : s.to_back j < s.current j = search judged in
      omega (arith, full_size a s.bag (full_back T s j e), backs a j w peer closed)

  over_step : (st : Step) → OverBy st
  unfolding rule
  over_step = each OverBy (search (over_none, over_hash, over_publish, over_false_hash, over_false_backing, over_back))

  pub over-call : reply T s (read c) ≡ 13 → Over
  unfolding reply
  over-call e = go (read c) refl e
    where
      go : (x : Call) → read c ≡ x → reply T s x ≡ 13 → Over
      go None w e = absurd (omega (arith, e))
      go (Some st) w e = over_step st w e
