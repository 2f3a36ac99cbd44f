-- The bag never gains more than the gain of the calls, and where it has room for that no call is answered full: of every
-- engine that follows the rules, from any ready store.
use Prim.Native.Nat.{ℕ, ◌+◌, ◌≤◌, ◌<◌}
use native.Mathlib.Omega.{arith}
use mathlib.Core.Bool.{true, false}
use mathlib.Core.List.{List, [], ◌∷◌}
use mathlib.Core.Path.{◌≡◌, refl, sym, ◌∙◌}
use mathlib.Core.Logic.{◌⊎◌, inl, inr}
use lib.Dec.{ltb}
use lib.ListN.{length}
use borrow.Author.Tests.{eqb-true, ltb-true}
use Rattle.base.specs.Bits.{digit}
use Rattle.base.proofs.Truth.{either, and_i, not_i}
use Rattle.rules.specs.Table.{Table}
use Rattle.rules.specs.Bag.{capacity}
use Rattle.rules.specs.Run.{Engine, store_from, answers_from}
use Rattle.rules.specs.Follows.{Follows}
use Rattle.gains.specs.Gain.{gain}
use Rattle.growth.specs.Growth.{Sized, never_full, lengthened}
use Rattle.growth.proofs.Left.{left, left_gain}
use Rattle.growth.proofs.Paid.{paid_call, fell_call, over-call}

module _ (T : Table) (Z : Sized T) {X : Type 0} (E : Engine X) (Ready : X → Type 0) (F : Follows T E Ready) where
  abbrev entries : X → ℕ
  entries x = length (E.holds x).bag

  abbrev remains : X → List (List ℕ) → ℕ
  remains x calls = left (E.holds x).bag (E.holds x).to_back calls

  within : (x : X) (calls : List (List ℕ)) → remains x calls ≤ gain calls
  within x calls = left_gain (E.holds x).bag (E.holds x).to_back calls

  -- one call

  module _ (x : X) (R : Ready x) (c : List ℕ) (calls : List (List ℕ)) where
    paid : entries (E.leaves x c) + remains (E.leaves x c) calls ≤ entries x + remains x (c ∷ calls)
    paid = rw (F.leaves x R c) (paid_call T Z (E.holds x) (F.valid x R) c calls)

    fell : remains (E.leaves x c) calls ≤ remains x (c ∷ calls)
    fell = rw (F.leaves x R c) (fell_call T Z (E.holds x) (F.valid x R) c calls)

    over : E.answers x c ≡ 13 → capacity < entries x + remains x (c ∷ calls)
    over e = over-call T Z (E.holds x) (F.valid x R) c calls (sym (F.answers x R c) ∙ e)

    -- a call that lengthens the bag takes one of what is left
    longer : digit (ltb (entries x) (entries (E.leaves x c))) + remains (E.leaves x c) calls ≤ remains x (c ∷ calls)
    longer = go (either (ltb (entries x) (entries (E.leaves x c))))
      where
        go : (ltb (entries x) (entries (E.leaves x c)) ≡ true) ⊎ (ltb (entries x) (entries (E.leaves x c)) ≡ false)
            → digit (ltb (entries x) (entries (E.leaves x c))) + remains (E.leaves x c) calls ≤ remains x (c ∷ calls)
        go (inl e) = rw e (omega (arith, ltb-true (entries x) (entries (E.leaves x c)) e, paid))
        go (inr e) = rw e (omega (arith, fell))

  -- along the calls

  ends_within : (calls : List (List ℕ)) (x : X) → Ready x → entries (store_from E x calls) ≤ entries x + remains x calls
  unfolding store_from
  ends_within [] x R = omega arith
  ends_within (c ∷ calls) x R = omega (arith, ends_within calls (E.leaves x c) (F.stays_ready x R c), paid x R c calls)

  never_over : (calls : List (List ℕ)) (x : X) → Ready x → entries x + remains x calls ≤ capacity
      → never_full (answers_from E x calls) ≡ true
  unfolding answers_from never_full
  never_over [] x R l = refl
  never_over (c ∷ calls) x R l = and_i _ _
      (not_i _ (λ e. too_many (over x R c calls (eqb-true (E.answers x c) 13 e))))
      (never_over calls (E.leaves x c) (F.stays_ready x R c) (omega (arith, paid x R c calls)))
    where
      too_many : capacity < entries x + remains x (c ∷ calls) → ⊥
      too_many m = omega (arith, l, m)

  longer_within : (calls : List (List ℕ)) (x : X) → Ready x → lengthened E x calls ≤ remains x calls
  unfolding lengthened
  longer_within [] x R = omega arith
  longer_within (c ∷ calls) x R = omega (arith, longer_within calls (E.leaves x c) (F.stays_ready x R c), longer x R c calls)

  -- from any ready store the bag gains at most the gain of the calls
  pub gains : (x : X) → Ready x → (calls : List (List ℕ)) → entries (store_from E x calls) ≤ entries x + gain calls
  gains x R calls = omega (arith, ends_within calls x R, within x calls)

  -- no more calls than that lengthen it, whatever is cleared between
  pub lengthens : (x : X) → Ready x → (calls : List (List ℕ)) → lengthened E x calls ≤ gain calls
  lengthens x R calls = omega (arith, longer_within calls x R, within x calls)

  -- and where it has room for that, none of them is answered full
  pub has_room : (x : X) → Ready x → (calls : List (List ℕ)) → entries x + gain calls ≤ capacity
      → never_full (answers_from E x calls) ≡ true
  has_room x R calls l = never_over calls x R (omega (arith, within x calls))
