-- What an input that is not refused has passed, and a state that it is rehearsed in.
use Prim.Native.Nat.{ℕ, ◌≤◌}
use native.Mathlib.Omega.{arith}
use mathlib.Core.Bool.{cond, true, false}
use mathlib.Core.List.{List}
use mathlib.Core.Logic.{◌⊎◌, inl, inr}
use mathlib.Core.Path.{◌≡◌, sym}
use lib.Dec.{eqb}
use lib.ListN.{length}
use borrow.Author.Tests.{eq-eqb, ne_eqb, eqb-true, leb-true, ltb-false, not-false}
use Rattle.base.proofs.Truth.{and_r, split, either}
use Rattle.base.proofs.Refusals.{Passed, passed, none_holds}
use Rattle.header.specs.Header.{header_size, items_of}
use Rattle.pairs.specs.Pairs.{pairs_fit}
use Rattle.ballot.specs.Table.{table_refusals, refusal}
use Rattle.rehearsal.specs.Input.{input_most, table_end, table_in, table_there, input_refusals, input_refusal}
use Rattle.state.specs.Layout.{size}
use Rattle.rehearsal.specs.Rehearsal.{lent_refusal}
use Rattle.rehearsal.specs.Running.{Taken}

module _ (input : List ℕ) (zero : input_refusal input ≡ 0) where
  all_passed : Passed (input_refusals input)
  unfolding input_refusal
  all_passed = passed (input_refusals input) zero

  reaches : table_end input ≤ length input
  unfolding table_there
  reaches = leb-true (table_end input) (length input)
      (and_r (pairs_fit input (header_size input) (items_of input)) _ (not-false _ all_passed.1.1.0))

  own_refusals : refusal (table_in input) ≡ 0
  unfolding refusal
  own_refusals = none_holds (table_refusals (table_in input)) all_passed.1.1.1

  pub taken : Taken input
  taken = record { few = ltb-false input_most (length input) all_passed.0; there = reaches; table = own_refusals }

-- the refusals of a rehearsal in a lent state, one after the other

module _ (input s : List ℕ) {r : ℕ} (judged : r ≡ input_refusal input) where
  pub none-refused : r ≡ 0 → length s ≡ size → 0 ≡ lent_refusal input s
  unfolding lent_refusal
  none-refused good long = rw (sym judged, good, eq-eqb (length s) size long)

-- and what was passed where none applies
pub both_passed : (input s : List ℕ) → lent_refusal input s ≡ 0 → (input_refusal input ≡ 0) × (length s ≡ size)
unfolding lent_refusal
both_passed input s = go (either (eqb (input_refusal input) 0)) (either (eqb (length s) size))
  where
    go : (eqb (input_refusal input) 0 ≡ true) ⊎ (eqb (input_refusal input) 0 ≡ false)
        → (eqb (length s) size ≡ true) ⊎ (eqb (length s) size ≡ false)
        → cond (eqb (input_refusal input) 0) (cond (eqb (length s) size) 0 14) (input_refusal input) ≡ 0
        → (input_refusal input ≡ 0) × (length s ≡ size)
    go (inl i) (inl l) e = (eqb-true _ 0 i, eqb-true _ size l)
    go (inl i) (inr l) e = absurd (omega (arith, rw (i, l) at e))
    go (inr i) l e = absurd (split (eq-eqb (input_refusal input) 0 (rw i at e)) i)
