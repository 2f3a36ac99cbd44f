-- Pairs and texts that stand d bytes later: the pairs are judged alike, and mark out the same texts.
use Prim.Native.Nat.{ℕ, zero, suc, ◌+◌, ◌-◌, ◌≤◌, ◌<◌}
use native.Mathlib.Omega.{arith}
use mathlib.Core.Bool.{true, false}
use mathlib.Core.List.{List}
use mathlib.Core.Logic.{◌⊎◌, inl, inr}
use mathlib.Core.Path.{◌≡◌, sym, ap, ap₂, ◌∙◌}
use lib.Dec.{leb, eqb}
use lib.ListN.{length, take, drop}
use lib.Seq.{drop-drop}
use borrow.Author.Tests.{le-leb, leb-true, eq-eqb, eqb-true}
use Rattle.base.specs.Below.{every}
use Rattle.base.specs.Bytes.{part}
use Rattle.base.proofs.Below.{every_ext}
use Rattle.base.proofs.Truth.{either, iff, and_l}
use Rattle.pairs.specs.Pairs.{offset_of, size_of, first_offset, end_before, starts_at_end, pairs_fit, last_end, pairs_ok, text_of}
use Rattle.pairs.proofs.Texts.{starts_at}
use Rattle.edges.specs.Weights.{Shifted}

-- the same number more on both sides

both_more : (d a b : ℕ) → eqb (d + a) (d + b) ≡ eqb a b
both_more d a b = iff _ _ (λ e. eq-eqb a b (omega (arith, eqb-true (d + a) (d + b) e)))
    (λ e. eq-eqb (d + a) (d + b) (omega (arith, eqb-true a b e)))

pub both_longer : (d a b : ℕ) → leb (d + a) (d + b) ≡ leb a b
both_longer d a b = iff _ _ (λ e. le-leb a b (omega (arith, leb-true (d + a) (d + b) e)))
    (λ e. le-leb (d + a) (d + b) (omega (arith, leb-true a b e)))

-- where pairs fit, every text stands after them
pub after-pairs : (s : List ℕ) (at m : ℕ) → pairs_fit s at m ≡ true → (k : ℕ) → k < m → first_offset at m ≤ offset_of s at k
unfolding end_before
after-pairs s at m fit zero l = omega (arith, starts_at s at m fit 0 l)
after-pairs s at m fit (suc k) l = omega (arith, starts_at s at m fit (suc k) l, after-pairs s at m fit k (omega arith))

module _ {s r : List ℕ} {d at m : ℕ} (R : Shifted s r d at m) where
  abbrev start : ℕ
  start = first_offset at m

  -- where what stands before text k ends
  end_more : start ≤ length r → (k : ℕ) → k ≤ m → end_before s (d + at) m k ≡ d + end_before r at m k
  unfolding end_before
  end_more there zero l = omega arith
  end_more there (suc k) l = let pair = R.pairs there k (omega arith) in omega (arith, pair.0, pair.1)

  first_reached : leb (first_offset (d + at) m) (length s) ≡ leb start (length r)
  first_reached =
      ap₂ leb {x = first_offset (d + at) m} {y = d + start} (omega arith) R.longer
      ∙ both_longer d start (length r)

  pub fit_same : pairs_fit s (d + at) m ≡ pairs_fit r at m
  unfolding pairs_fit starts_at_end
  fit_same = go (either (leb start (length r)))
    where
      go : (leb start (length r) ≡ true) ⊎ (leb start (length r) ≡ false) → pairs_fit s (d + at) m ≡ pairs_fit r at m
      go (inl e) =
          let there = leb-true start (length r) e in
          let starts = every_ext m (starts_at_end s (d + at) m) (starts_at_end r at m) (λ k l.
          ap₂ eqb (R.pairs there k l).0 (end_more there k (omega (arith, l)))
          ∙ both_more d (offset_of r at k) (end_before r at m k)) in
          rw (first_reached, starts)
      go (inr e) = rw (first_reached, e)

  -- pairs that fit

  module _ (fit : pairs_fit r at m ≡ true) where
    pub pairs_there : start ≤ length r
    unfolding pairs_fit
    pairs_there = leb-true start (length r) (and_l _ (every m (starts_at_end r at m)) fit)

    pub last_more : last_end s (d + at) m ≡ d + last_end r at m
    last_more = end_more pairs_there m (omega arith)

    pub dropped : (o : ℕ) → start ≤ o → drop (d + o) s ≡ drop o r
    dropped o l =
        let more = o - start in
        ap (λ (i : ℕ). drop i s) {x = d + o} {y = d + start + more} (omega arith)
        ∙ sym (drop-drop more (d + start) s)
        ∙ ap (drop more) R.texts
        ∙ drop-drop more start r
        ∙ ap (λ (i : ℕ). drop i r) {x = start + more} {y = o} (omega arith)

    pub text_same : (k : ℕ) → k < m → text_of s (d + at) k ≡ text_of r at k
    unfolding part
    text_same k l =
        let pair = R.pairs pairs_there k l in
        rw (pair.0, pair.1) (ap (take (size_of r at k)) (dropped (offset_of r at k) (after-pairs r at m fit k l)))

  pub pairs_same : pairs_ok s (d + at) m ≡ pairs_ok r at m
  unfolding pairs_ok
  pairs_same = go (either (pairs_fit r at m))
    where
      go : (pairs_fit r at m ≡ true) ⊎ (pairs_fit r at m ≡ false) → pairs_ok s (d + at) m ≡ pairs_ok r at m
      go (inl e) = rw (fit_same, e) (ap₂ eqb (last_more e) R.longer ∙ both_more d (last_end r at m) (length r))
      go (inr e) = rw (fit_same, e)
