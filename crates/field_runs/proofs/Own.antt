-- Peer j's part of a changed table: where j changed it, j's own part changed; where another did, what it was.
use Prim.Native.Nat.{ℕ}
use mathlib.Core.Bool.{Bool, false}
use mathlib.Core.Path.{◌≡◌, fun_ext}
use lib.Dec.{eqb}
use Rattle.base.specs.Sets.{add2, add3, add4, set_at}
use Rattle.base.proofs.Truth.{eqb_self}
use Rattle.rules.specs.Rules.{add_rows}
use Rattle.field_rules.specs.Rules.{own_rows}

pub own3 : (j p x : ℕ) (S : ℕ → ℕ → ℕ → Bool) → add3 j p x S j ≡ add2 p x (S j)
unfolding add3 add2
own3 j p x S = fun_ext (λ q. fun_ext (λ y. rw (eqb_self j)))

pub own4 : (j p x k : ℕ) (S : ℕ → ℕ → ℕ → ℕ → Bool) → add4 j p x k S j ≡ add3 p x k (S j)
unfolding add4 add3
own4 j p x k S = fun_ext (λ q. fun_ext (λ y. fun_ext (λ l. rw (eqb_self j))))

pub own_rows_lem : (j p : ℕ) (rows : ℕ → ℕ → Bool) (db : ℕ → ℕ → ℕ → ℕ → Bool) → add_rows j p rows db j ≡ own_rows p rows (db j)
unfolding add_rows own_rows
own_rows_lem j p rows db = fun_ext (λ q. fun_ext (λ y. fun_ext (λ l. rw (eqb_self j))))

-- another's

module _ (i j : ℕ) (other : eqb j i ≡ false) where
  pub still3 : (p x : ℕ) (S : ℕ → ℕ → ℕ → Bool) → add3 i p x S j ≡ S j
  unfolding add3
  still3 p x S = fun_ext (λ q. fun_ext (λ y. rw other))

  pub still4 : (p x k : ℕ) (S : ℕ → ℕ → ℕ → ℕ → Bool) → add4 i p x k S j ≡ S j
  unfolding add4
  still4 p x k S = fun_ext (λ q. fun_ext (λ y. fun_ext (λ l. rw other)))

  pub still_rows : (p : ℕ) (rows : ℕ → ℕ → Bool) (db : ℕ → ℕ → ℕ → ℕ → Bool) → add_rows i p rows db j ≡ db j
  unfolding add_rows
  still_rows p rows db = fun_ext (λ q. fun_ext (λ y. fun_ext (λ l. rw other)))

  pub still_set : {A : Type 0} (v : A) (f : ℕ → A) → set_at i v f j ≡ f j
  unfolding set_at
  still_set v f = rw other
