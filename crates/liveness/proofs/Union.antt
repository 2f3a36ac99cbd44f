-- The union of the databases: what it has, its board's items, and that no call of a close changes it.
use Prim.Native.Nat.{ℕ, zero, suc, ◌≤◌, ◌<◌}
use native.Mathlib.Decide.{dec_lt}
use native.Mathlib.Omega.{arith}
use mathlib.Core.Bool.{Bool, true, false, ◌&&◌}
use mathlib.Core.Path.{◌≡◌, refl, ap, subst}
use lib.Dec.{ltb}
use borrow.Author.Tests.{lt-ltb, le-ltb}
use Rattle.base.specs.Bits.{bit}
use Rattle.base.specs.Sets.{add4}
use Rattle.base.proofs.Below.{any_at, any_found}
use Rattle.base.proofs.Bits.{bit-pack, bit_high, pack-lt}
use Rattle.base.proofs.Sets.{grow4, set_elim}
use Rattle.rules.specs.declared.Step.{Step}
use Rattle.rules.specs.declared.Step.TheVariants.{Sign, Take, Fetch, Down, Up}
use Rattle.rules.specs.Table.{Table, quorum}
use Rattle.rules.specs.State.{State}
use Rattle.rules.specs.Rules.{rule, board_from}
use Rattle.rules.specs.Valid.{Peer}
use Rattle.rules.proofs.Answered.{Clear}
use Rattle.rules.proofs.Each.{each}
use Rattle.rules.proofs.Rows.{rows_grow}
use Rattle.rules.proofs.Valid.{is_peer_lem}
use Rattle.liveness.specs.Union.{union_of, union, union_board}

-- the union of n databases has what one of them has, and nothing else
module _ (n : ℕ) (databases : ℕ → ℕ → ℕ → Bool) where
  pub union_in : (k x l : ℕ) → (1 ≤ k) × (k ≤ n) → databases k x l ≡ true → union_of n databases x l ≡ true
  unfolding union_of
  union_in zero x l h e = absurd (omega arith)
  union_in (suc k) x l h e = any_at (λ i. databases (suc i) x l) k _ (omega arith) e

  pub union-of : (x l : ℕ) → union_of n databases x l ≡ true → (k : ℕ) × (((1 ≤ k) × (k ≤ n)) × (databases k x l ≡ true))
  unfolding union_of
  union-of x l e =
      let found = any_found _ (λ i. databases (suc i) x l) e in
      (suc found.0, ((omega arith, omega (arith, found.1)), found.2))

module _ (T : Table) (s : State) (p : ℕ) where
  -- the items of its board are those with a quorum in it
  pub union-items : (x : ℕ) → bit (union_board T s p) x ≡ (ltb x T.items && quorum T (union T s p x))
  unfolding board_from
  union-items x = go (dec_lt x T.items)
    where
      on : ℕ → Bool
      on x = quorum T (union T s p x)

      go : Dec (x < T.items) → bit (union_board T s p) x ≡ (ltb x T.items && on x)
      go (yes l) = rw (lt-ltb x T.items l) (bit-pack T.items on x l)
      go (no l) = rw (le-ltb x T.items (omega arith)) (bit_high T.items _ x (pack-lt T.items on) (omega arith))

-- Within a set of signers by item: no peer is down, and no peer's database of p has more.
module _ (T : Table) (p : ℕ) (most : ℕ → ℕ → Bool) where
  pub record Calm (down : ℕ → Bool) (db : ℕ → ℕ → ℕ → ℕ → Bool) : Type 0 where
    pub up : (k : ℕ) → Peer T k → down k ≡ false
    pub within : (k x l : ℕ) → Peer T k → db k p x l ≡ true → most x l ≡ true

  abbrev pub CalmIn : State → Type 0
  CalmIn s = Calm s.down s.db

  -- once p is closed
  module _ (s : State) (closed : (k : ℕ) → Peer T k → p < s.current k) (I : CalmIn s) where
    -- a step that takes no peer down
    abbrev NoDown : Step → Type 0
    NoDown st = (j : ℕ) → Peer T j → st ≡ Down j → ⊥

    -- a take of p that brings nothing new: a database has it already
    abbrev NothingNew : Step → Type 0
    NothingNew st = (j k x : ℕ) → st ≡ Take j k p x → union T s p x k ≡ true

    abbrev StaysCalm : Step → Type 0
    StaysCalm st = NoDown st → NothingNew st → Clear T s st → CalmIn (rule T s st).effect

    known : (k q x l : ℕ) → s.db k q x l ≡ true → q ≡ p → Peer T k → most x l ≡ true
    known k q x l d e h = I.within k x l h (subst (λ (a : ℕ). s.db k a x l ≡ true) e d)

    -- one signature more
    with_one : (j q x l : ℕ) → (q ≡ p → Peer T j → most x l ≡ true) → Calm s.down (add4 j q x l s.db)
    with_one j q x l new = record {
      up = I.up;
      within = λ k y m h d. grow4 {P = λ k q x l. q ≡ p → Peer T k → most x l ≡ true} j q x l s.db new known k p y m d refl h;
    }

    -- a peer signs in its open period, which is not p
    calm_sign : (j x : ℕ) → StaysCalm (Sign j x)
    unfolding rule
    calm_sign j x n t c = with_one j (s.current j) x j (λ e h. absurd (omega (arith, closed j h)))

    -- a signature of p that is taken is in some database
    calm_take : (j k q x : ℕ) → StaysCalm (Take j k q x)
    unfolding rule
    calm_take j k q x n t c = with_one j q x k (λ e h.
        let r = union-of T.n (λ j. s.db j p) x k (t j k x (ap (λ (a : ℕ). Take j k a x) e)) in
        I.within r.0 x k r.1.0 r.1.1)

    -- what a fetch adds is in the other's database
    calm_fetch : (j k q : ℕ) → StaysCalm (Fetch j k q)
    unfolding rule
    calm_fetch j k q n t c = record {
      up = I.up;
      within = λ i x l h d. rows_grow j q (s.db k q) s.db {P = λ i q x l. q ≡ p → Peer T i → most x l ≡ true}
          (λ x l d e g. known k q x l d e (is_peer_lem T k (search))) known i p x l d refl h;
    }

    calm_down : (j : ℕ) → StaysCalm (Down j)
    unfolding rule
    calm_down j n t c = absurd (n j (is_peer_lem T j (search)) refl)

    calm_up : (j : ℕ) → StaysCalm (Up j)
    unfolding rule
    calm_up j n t c = record { up = set_elim (λ k b. Peer T k → b ≡ false) j false s.down (λ h. refl) I.up; within = I.within }

    pub calm_step : (st : Step) → StaysCalm st
    unfolding rule
    calm_step = each StaysCalm (search (calm_sign, calm_take, calm_fetch, calm_down, calm_up))
