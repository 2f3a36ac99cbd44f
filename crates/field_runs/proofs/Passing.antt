-- What passing a test says: a message passes exactly where its test holds, names in range are not refused, and rows of a
-- valid state are not stray.
use Prim.Native.Nat.{ℕ, ◌+◌, ◌<◌}
use native.Mathlib.Omega.{arith}
use mathlib.Core.Bool.{Bool, true, false, ◌&&◌, ◌||◌, not}
use mathlib.Core.Option.{none, some}
use mathlib.Core.Path.{◌≡◌, refl, sym}
use lib.Dec.{eqb}
use borrow.Author.Tests.{ne_eqb, lt-ltb, le-ltb}
use Rattle.base.specs.Below.{any}
use Rattle.base.proofs.Truth.{split, is_false, and_l, and_r}
use Rattle.base.proofs.Below.{any_found}
use Rattle.rules.specs.Table.{Table}
use Rattle.rules.specs.Bag.{unheard}
use Rattle.rules.specs.State.{State}
use Rattle.rules.specs.Rules.{no_peer, no_item}
use Rattle.rules.specs.Valid.{Valid, Peer}
use Rattle.field_rules.specs.Message.{row_items, row_peers}
use Rattle.field_rules.specs.Rules.{stray_rows}
use Rattle.field_runs.specs.Passed.{when}

pub none_some : {A : Type 0} (n : A) → none ≡ some n → ⊥
none_some n e = let z : ◌≡◌ {A = ℕ} 0 1 = cc in omega (arith, z)

pub neg : (b : Bool) → b ≡ true → not b ≡ false
neg true e = refl
neg false e = sym e

-- what a test of passing says

pub when_some : {A : Type 0} (t : Bool) (m n : A) → when t m ≡ some n → (t ≡ true) × (m ≡ n)
unfolding when
when_some true m n e = (refl, cc)
when_some false m n e = absurd (none_some n e)

pub when-none : {A : Type 0} (t : Bool) (m : A) → when t m ≡ none → t ≡ false
unfolding when
when-none true m e = absurd (none_some m (sym e))
when-none false m e = refl

-- names in range pass

module _ (T : Table) where
  pub a_peer : (k : ℕ) → Peer T k → no_peer T.n k ≡ false
  a_peer k h = rw (ne_eqb k 0 (omega (arith, h.0)), le-ltb T.n k h.1)

  -- a clear leaves what is heard of other periods
  pub heard_else : (q : ℕ) (heard : ℕ → ℕ → ℕ → ℕ → Bool) (j k p B : ℕ) → eqb p q ≡ false → unheard q heard j k p B ≡ heard j k p B
  unfolding unheard
  heard_else q heard j k p B e = rw e

  -- rows of a valid state have no item and no signer out of range
  pub rows_in_lem : (s : State) → Valid T s → (k p : ℕ) → stray_rows T (s.db k p) ≡ false
  unfolding stray_rows
  rows_in_lem s G k p = is_false _ (λ e. in_items (any_found row_items (λ x. any row_peers (λ l. stray x (l + 1))) e))
    where
      stray : ℕ → ℕ → Bool
      stray x l = s.db k p x l && (no_item T.items x || no_peer T.n l)

      no_stray : (x l : ℕ) → stray x l ≡ true → ⊥
      no_stray x l e =
          let known = G.sets.knows k p x l (and_l (s.db k p x l) _ e) in
          let item : no_item T.items x ≡ false = rw (lt-ltb x T.items known.0.1.1) in
          split (and_r (s.db k p x l) _ e) (rw (item, a_peer l known.1))

      in_items : (x : ℕ) × (x < row_items) × (any row_peers (λ l. stray x (l + 1)) ≡ true) → ⊥
      in_items (x, m, e) = in_peers (any_found row_peers (λ l. stray x (l + 1)) e)
        where
          in_peers : (l : ℕ) × (l < row_peers) × (stray x (l + 1) ≡ true) → ⊥
          in_peers (l, i, d) = no_stray x (l + 1) d
