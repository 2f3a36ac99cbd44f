-- Rows of refusals, test by test: which number a row gives, and which it does not.
use Prim.Native.Nat.{ℕ, ◌<◌, ◌≤◌}
use native.Mathlib.Omega.{arith}
use mathlib.Core.Bool.{Bool, true, false, cond, not}
use mathlib.Core.List.{[], ◌∷◌}
use mathlib.Core.Path.{◌≡◌, refl, sym}
use mathlib.Core.Logic.{◌⊎◌, inl, inr}
use lib.Dec.{eqb, ltb, leb}
use borrow.Author.Tests.{ne_eqb, eq-eqb, le-ltb, lt-ltb, lt-leb, le-leb}
use Rattle.base.specs.Refusals.{Refusals, number_of, Row, numbered, first}
use Rattle.base.proofs.Truth.{split, either}
use Rattle.rules.specs.Table.{Table}
use Rattle.rules.specs.Rules.{no_peer}
use Rattle.rules.specs.Valid.{Peer}

-- a test that holds gives its number, one that does not is passed, and the end gives 0

pub holds : (n : ℕ) {b : Bool} (rest : Row) → b ≡ true → first ((n, b) ∷ rest) ≡ n
unfolding first
holds n rest e = rw e

pub passes : (n : ℕ) {b : Bool} (rest : Row) (v : ℕ) → b ≡ false → first rest ≡ v → first ((n, b) ∷ rest) ≡ v
unfolding first
passes n rest v e f = rw e f

pub ends : first [] ≡ 0
unfolding first
ends = refl

-- the tests that are passed

pub is_peer_lem : (T : Table) (j : ℕ) → Peer T j → no_peer T.n j ≡ false
is_peer_lem T j h = rw (ne_eqb j 0 (omega arith), le-ltb T.n j h.1)

pub is_below : (a b : ℕ) → a < b → not (ltb a b) ≡ false
is_below a b h = rw (lt-ltb a b h)

pub is_so : (b : Bool) → b ≡ true → not b ≡ false
is_so b e = rw e

pub are_enough : (a b : ℕ) → a ≤ b → not (leb a b) ≡ false
are_enough a b h = rw (le-leb a b h)

pub ruleset passed-by = (passes, is_peer_lem, is_below, is_so, are_enough)

-- the tests that hold

pub is_not : (b : Bool) → b ≡ false → not b ≡ true
is_not b e = rw e

pub not_below : (a b : ℕ) → b ≤ a → not (ltb a b) ≡ true
not_below a b h = rw (le-ltb a b h)

pub too_few : (a b : ℕ) → b < a → not (leb a b) ≡ true
too_few a b h = rw (lt-leb a b h)

pub ruleset row = (passed-by, ends, holds, is_not, not_below, too_few)

-- no test with the number n holds
abbrev pub Without : ℕ → Refusals → Type 0
Without n [] = Unit {0}
Without n (r ∷ rest) = cond (eqb (number_of r.0) n) ((r.1 ≡ false) × Without n rest) (Without n rest)

-- so the row does not give n
pub never : (n : ℕ) (l : Refusals) → (n ≡ 0 → ⊥) → Without n l → first (numbered l) ≡ n → ⊥
unfolding first
never n [] z w e = z (sym e)
never n (r ∷ rest) z w e = go (either (eqb (number_of r.0) n)) (either r.1) (never n rest z)
  where
    go : (eqb (number_of r.0) n ≡ true) ⊎ (eqb (number_of r.0) n ≡ false) → (r.1 ≡ true) ⊎ (r.1 ≡ false)
        → (Without n rest → first (numbered rest) ≡ n → ⊥) → ⊥
    go (inl q) (inl t) next = split t (rw q at w).0
    go (inl q) (inr f) next = next (rw q at w).1 (rw f at e)
    go (inr q) (inl t) next = split (eq-eqb (number_of r.0) n (rw t at e)) q
    go (inr q) (inr f) next = next (rw q at w) (rw f at e)
