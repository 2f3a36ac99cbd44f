-- A close can be had by every engine that follows the rules: the schedule is one, it is made of bytes, and with one
-- call more the board is there.
use Prim.Native.Nat.{ℕ, ◌+◌, ◌-◌, ◌*◌, ◌/◌, ◌%◌, ◌≤◌, ◌<◌}
use native.Mathlib.Nat.{div-lt_iff_lt-mul, mod-lt}
use native.Mathlib.Decide.{dec_lt}
use native.Mathlib.Omega.{arith}
use mathlib.Core.Bool.{Bool, true, false}
use mathlib.Core.List.{List, [], ◌∷◌, ◌++◌, append-nil}
use mathlib.Core.Path.{◌≡◌, refl, sym, ap, subst}
use mathlib.Core.Logic.{◌⊎◌, inl, inr}
use lib.Dec.{ltb}
use lib.ListN.{length}
use Rattle.base.specs.Bytes.{byte_at}
use Rattle.base.proofs.Truth.{either}
use Rattle.base.proofs.Weight.{weight-none}
use Rattle.rules.specs.declared.Entry.TheVariants.{Hash, Backing}
use Rattle.rules.specs.declared.Step.{Step}
use Rattle.rules.specs.declared.Step.TheVariants.{Publish}
use Rattle.rules.specs.Table.{Table}
use Rattle.rules.specs.Bag.{entry_at, capacity}
use Rattle.rules.specs.State.{State}
use Rattle.rules.specs.Form.{read}
use Rattle.rules.specs.Rules.{reply, board_by}
use Rattle.rules.specs.Run.{Engine, run}
use Rattle.rules.specs.Follows.{Follows}
use Rattle.rules.specs.Valid.{Peer}
use Rattle.rules.proofs.Bag.{placed}
use Rattle.rules.proofs.Valid.{always_valid}
use Rattle.form.specs.Written.{written}
use Rattle.form.proofs.Written.{read-written, written-bytes}
use Rattle.liveness.specs.Union.{union_board}
use Rattle.liveness.specs.Places.{behaviour, behaviour_from, call_at}
use Rattle.liveness.specs.Close.{AllHonest, Closed}
use Rattle.liveness.specs.Through.{TheBoard, Publishable}
use Rattle.liveness.specs.Schedule.{other_than, fetch_and_hash, hash_number, schedule, Room, InBytes, CanClose, MadeOfBytes, LentCanClose}
use Rattle.liveness.proofs.Places.{obeys, obeys_from, ruled, as_rules}
use Rattle.liveness.proofs.Answers.{call-room}
use Rattle.liveness.proofs.Settled.{all_enough}
use Rattle.liveness.proofs.Through.{rules_through}
use Rattle.liveness.proofs.Parts.{fetch, send, hear, back, Scheduled, scheduled, in_parts}
use Rattle.liveness.proofs.Schedule.{in_sent, at_most, closing, untaken}

-- there is a peer
some_peer : (T : Table) → AllHonest T → Peer T 1
some_peer T A = (omega arith, go (dec_lt 0 T.n))
  where
    go : Dec (0 < T.n) → 1 ≤ T.n
    go (yes l) = l
    go (no l) =
        let empty : ℕ → Bool = λ k. false in
        let none = weight-none T.weight_of T.n empty (λ k. refl) in
        absurd (omega (arith, A.premise.threshold, all_enough T A empty (λ k h. absurd (omega arith)), none))

module _ (T : Table) (A : AllHonest T) (earlier : List (List ℕ)) (p : ℕ) (C : Closed T (run T earlier).engine p)
    (room : Room T (run T earlier).engine) where
  abbrev n : ℕ
  n = T.n

  abbrev sent : State
  sent = (run T (earlier ++ fetch_and_hash n p)).engine

  abbrev entry : ℕ → ℕ
  entry = hash_number T sent p

  abbrev later : List (List ℕ)
  later = schedule T (ruled T) earlier p

  -- its calls are bytes
  module _ (few : T.n < 256) (short : T.periods ≤ 256) where
    abbrev Bytes : ℕ → Type 0
    Bytes = InBytes T (ruled T) earlier p

    -- a call that is a step's bytes
    as_bytes : (i : ℕ) (st : Step) → call_at later i ≡ written st → ((b : ℕ) → byte_at (written st) b < 256) → Bytes i
    as_bytes i st e small = record {
      thirteen = ap length e;
      bytes = subst (λ (c : List ℕ). (b : ℕ) → byte_at c b < 256) (sym e) small;
    }

    -- the row and the column of a place in n rows
    cell : (w a : ℕ) → a < n * w → (a / w < n) × (a % w < w)
    cell w a l = go (dec_lt 0 w)
      where
        go : Dec (0 < w) → (a / w < n) × (a % w < w)
        go (yes u) = ((div-lt_iff_lt-mul {k = w} {x = a} {y = n} u).1 l, mod-lt a {m = w} u)
        go (no u) = let none = ap (λ (v : ℕ). n * v) {x = w} {y = 0} (omega arith) in absurd (omega (arith, none))

    other-lt : (j r : ℕ) → r < n - 1 → other_than j r < 256
    other-lt j r l = go (either (ltb (r + 1) j))
      where
        go : (ltb (r + 1) j ≡ true) ⊎ (ltb (r + 1) j ≡ false) → other_than j r < 256
        go (inl e) = rw e (omega arith)
        go (inr e) = rw e (omega arith)

    period_lt : p < 256
    period_lt = omega (arith, C.closed 1 (some_peer T A), (always_valid T earlier).counters.opens 1)

    entry_lt : (k : ℕ) → Peer T k → entry k < 256
    entry_lt k h =
        let its = placed sent.bag (Hash k p (board_by T sent k p)) (in_sent (obeys T) A earlier p C room k h) in
        omega (arith, its.0, (always_valid T (earlier ++ fetch_and_hash n p)).bag.size)

    abbrev P : Scheduled n p entry later
    P = scheduled n p entry

    in_bytes : (i : ℕ) → i < length later → Bytes i
    in_bytes i l = in_parts n p entry Bytes
        (λ a l. let h = cell (n - 1) a l in as_bytes (0 + a) (fetch n p entry a) (P.fetches.each a l)
        (written-bytes (fetch n p entry a) (omega arith) (omega arith) (other-lt _ _ h.1) period_lt (omega arith)))
        (λ a l. as_bytes (n * (n - 1) + a) (send n p entry a) (P.hashes.each a l)
        (written-bytes (send n p entry a) (omega arith) (omega arith) (omega arith) period_lt (omega arith)))
        (λ a l. let h = cell n a l in as_bytes (n * (n - 1) + n + a) (hear n p entry a) (P.hears.each a l)
        (written-bytes (hear n p entry a) (omega arith) (omega arith) (omega arith) (omega arith) (entry_lt _ (omega arith, omega arith))))
        (λ a l. as_bytes (n * (n - 1) + n + n * n + a) (back n p entry a) (P.backs.each a l)
        (written-bytes (back n p entry a) (omega arith) (omega arith) (omega arith) (omega arith) (omega arith)))
        i (omega (arith, P.long))

  -- with room for one entry more it is published
  module _ (one : length (run T earlier).engine.bag + 2 * n < capacity) where
    abbrev U : ℕ
    U = union_board T (run T earlier).engine p

    abbrev closed : List (List ℕ)
    closed = earlier ++ later

    ready : Publishable T (ruled T) closed p U
    ready = subst (λ (calls : List (List ℕ)). Publishable T (ruled T) calls p U) (append-nil closed)
        (((rules_through T A).through_in_turn earlier later p (closing (obeys T) A earlier p C room)).publishable [])

    abbrev its : (e : ℕ) × (e < capacity) × (entry_at (run T closed).engine.bag e ≡ Backing 1 p U)
    its = ready.backed 1 (some_peer T A)

    abbrev publish : List ℕ
    publish = written (Publish its.0)

    not_full_lem : reply T (run T closed).engine (read publish) ≡ 13 → ⊥
    not_full_lem = call-room T (run T closed).engine (read publish) (omega (arith, at_most (obeys T) A earlier p C room))

    published : TheBoard (run T (closed ++ (publish ∷ []))).engine p U
    published = (ready.publishes publish its.0 1 U (read-written (Publish its.0) (omega arith)) its.2 not_full_lem).1

    board_there : (e : ℕ) × (e < capacity) × TheBoard (run T (closed ++ (written (Publish e) ∷ []))).engine p U
    board_there = (its.0, its.1, published)

rules_can_close : (T : Table) → AllHonest T → CanClose T (ruled T)
rules_can_close T A = record {
  closes = closing (obeys T) A;
  board_comes = λ earlier p C one. board_there T A earlier p C (omega arith) one;
}

module _ {T : Table} {X : Type 0} {E : Engine X} {Ready : X → Type 0} (F : Follows T E Ready) (A : AllHonest T) where
  pub can_close : CanClose T (behaviour E)
  can_close = subst (CanClose T) (sym (as_rules F)) (rules_can_close T A)

  pub made_of_bytes : T.n < 256 → T.periods ≤ 256 → MadeOfBytes T (behaviour E)
  made_of_bytes few short = subst (MadeOfBytes T) (sym (as_rules F)) (λ earlier p C room. in_bytes T A earlier p C room few short)

-- from any store that was lent
pub lent_can_close : {T : Table} {X : Type 0} {E : Engine X} {Ready : X → Type 0} → Follows T E Ready → AllHonest T → (x : X) → Ready x
    → LentCanClose T (behaviour_from E x)
lent_can_close F A x R earlier p C room =
    (closing (obeys_from F x R) A earlier p C room, untaken (obeys_from F x R) A earlier p C room)
