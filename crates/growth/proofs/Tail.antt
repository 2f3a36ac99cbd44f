-- A call that has not 13 bytes adds nothing to the gain: so the short tail of a rehearsal, which is one of its steps and
-- none of a step file, makes no difference.
use Prim.Native.Nat.{ℕ, ◌+◌, min}
use native.Mathlib.Omega.{arith}
use mathlib.Core.Bool.{Bool, false}
use mathlib.Core.List.{List, [], ◌∷◌, ◌++◌}
use mathlib.Core.Path.{◌≡◌, ap, ap₂, ◌∙◌}
use lib.Dec.{eqb}
use lib.ListN.{length}
use Rattle.base.proofs.Sums.{sum_ext}
use Rattle.gains.specs.Gain.{is_op, count_of, different_of, adds, back_of, gain}
use Rattle.gains.proofs.Counting.{count-one, different-one}

module _ (calls : List (List ℕ)) (c : List ℕ) (short : eqb (length c) 13 ≡ false) where
  no_op : (op : ℕ) → is_op op c ≡ false
  unfolding is_op
  no_op op = rw short

  no_more : (f : List ℕ → Bool) → f c ≡ false → count_of f (calls ++ (c ∷ [])) ≡ count_of f calls
  no_more f none = count-one f calls c ∙ rw none (omega arith)

  none_differ : different_of (is_op 16) (calls ++ (c ∷ [])) ≡ different_of (is_op 16) calls
  none_differ = different-one (is_op 16) calls c ∙ rw (no_op 16) (omega arith)

  none_added : adds c ≡ false
  unfolding adds
  none_added = rw (no_op 9, no_op 12, no_op 15)

  no_back : (j : ℕ) → back_of j c ≡ false
  unfolding back_of
  no_back j = rw (no_op 11)

  pub tail_gains_none : gain (calls ++ (c ∷ [])) ≡ gain calls
  unfolding gain
  tail_gains_none =
      ap₂ (λ (x y : ℕ). x + y) (ap₂ (λ (x y : ℕ). x + y) (no_more adds none_added) none_differ)
      (sum_ext 256 (λ j. min 8 (count_of (back_of j) (calls ++ (c ∷ [])))) (λ j. min 8 (count_of (back_of j) calls))
      (λ j _. ap (min 8) (no_more (back_of j) (no_back j))))
