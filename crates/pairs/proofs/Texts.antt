-- Laws of the pairs: where each text starts and ends.
use Prim.Native.Nat.{ℕ, zero, suc, ◌+◌, ◌*◌, ◌-◌, ◌≤◌, ◌<◌}
use native.Mathlib.Nat.{add-zero}
use native.Mathlib.Numerals.{add-one, sub-one}
use native.Mathlib.Omega.{arith}
use mathlib.Core.Bool.{Bool, true, false}
use mathlib.Core.List.{List}
use mathlib.Core.Path.{◌≡◌, refl, ap}
use lib.Dec.{eqb, leb}
use lib.ListN.{length, drop, length-drop}
use lib.Seq.{length-take-le}
use borrow.Author.Tests.{eqb-true, le-leb, lt-leb}
use Rattle.base.specs.Bytes.{byte_at, number_at, part}
use Rattle.base.specs.Below.{every}
use Rattle.base.proofs.Truth.{and_l, and_r}
use Rattle.base.proofs.Below.{every-at}
use Rattle.pairs.specs.Pairs.{pair_number, offset_of, size_of, first_offset, end_before, starts_at_end, pairs_fit, last_end, pairs_ok, text_of}

-- the number of a pair: its two bytes
pub pair_number_lem : (s : List ℕ) (i : ℕ) {high low : ℕ} → high ≡ byte_at s i → low ≡ byte_at s (i + 1) → high * 256 + low ≡ pair_number s i
unfolding number_at
pair_number_lem s i p q = rw (add-zero i) (omega arith)

module _ (s : List ℕ) (at m : ℕ) where
  -- where what stands before text k ends, as the machine computes it

  pub end-first : (k : ℕ) → k ≡ 0 → first_offset at m ≡ end_before s at m k
  unfolding end_before
  end-first k e = rw e

  pub end_later : (k : ℕ) → (k ≡ 0 → ⊥) → offset_of s at (k - 1) + size_of s at (k - 1) ≡ end_before s at m k
  unfolding end_before
  end_later zero h = absurd (h refl)
  end_later (suc k) h = rw sub-one

  end_more : (k : ℕ) → end_before s at m (k + 1) ≡ offset_of s at k + size_of s at k
  unfolding end_before
  end_more k = rw add-one

  -- the pairs: cut short, and whole

  pub pairs_short : length s < first_offset at m → false ≡ pairs_fit s at m
  unfolding pairs_fit
  pairs_short l = rw (lt-leb (first_offset at m) (length s) l)

  pub pairs_whole : {v : Bool} → first_offset at m ≤ length s → v ≡ every m (starts_at_end s at m) → v ≡ pairs_fit s at m
  unfolding pairs_fit
  pairs_whole l v-is = rw (le-leb (first_offset at m) (length s) l) v-is

  -- pairs that fit: each text starts where what stands before it ends, and none ends past the last

  module _ (fit : pairs_fit s at m ≡ true) where
    pub starts_at : (k : ℕ) → k < m → offset_of s at k ≡ end_before s at m k
    unfolding pairs_fit starts_at_end
    starts_at k l = eqb-true _ _ (every-at (starts_at_end s at m) m (and_r (leb (first_offset at m) (length s)) _ fit) k l)

    -- from the last end back: d texts follow those before text k
    ends_within : (d k : ℕ) → k + d ≡ m → end_before s at m k ≤ last_end s at m
    ends_within zero k e = omega (arith, ap (end_before s at m) {x = k} {y = m} (omega arith))
    ends_within (suc d) k e = omega (arith, ends_within d (k + 1) (omega arith), end_more k, starts_at k (omega arith))

    pub text_ends : (k : ℕ) → k < m → offset_of s at k + size_of s at k ≤ last_end s at m
    text_ends k l = omega (arith, ends_within (m - (k + 1)) (k + 1) (omega arith), end_more k)

  -- pairs that are right: each text lies in the list, and has the length that its pair says

  module _ (ok : pairs_ok s at m ≡ true) where
    pub text_within : (k : ℕ) → k < m → offset_of s at k + size_of s at k ≤ length s
    unfolding pairs_ok
    text_within k l =
        let fit = and_l (pairs_fit s at m) (eqb (last_end s at m) (length s)) ok in
        let last_end = eqb-true (last_end s at m) (length s) (and_r (pairs_fit s at m) _ ok) in
        omega (arith, text_ends fit k l)

    pub text_length : (k : ℕ) → k < m → length (text_of s at k) ≡ size_of s at k
    unfolding part
    text_length k l =
        length-take-le (size_of s at k) (drop (offset_of s at k) s) (omega (arith, length-drop (offset_of s at k) s, text_within k l))
