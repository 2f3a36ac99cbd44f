-- The rule of the least threshold gives document 01's constants, and judges every header as they did.
use Prim.Native.Nat.{ℕ, ◌+◌, ◌≤◌}
use native.Mathlib.Omega.{arith}
use mathlib.Core.Bool.{Bool, true, false, ◌&&◌}
use mathlib.Core.List.{List}
use mathlib.Core.Path.{◌≡◌, refl, ap, ◌∙◌}
use mathlib.Core.Logic.{◌⊎◌, inl, inr}
use lib.Dec.{eqb}
use borrow.Author.Tests.{eqb-true}
use Rattle.base.specs.Below.{every}
use Rattle.base.specs.Bytes.{between}
use Rattle.base.proofs.Bytes.{between_true}
use Rattle.base.proofs.Truth.{either}
use Rattle.header.specs.Season.{zero_then}
use Rattle.header.specs.Header.{peers_of, threshold_of, least_threshold, header_ok}
use Rattle.header.proofs.Seasons.{older, no_weights}
use Rattle.header.proofs.TwoThirds.{least_above, least_exact}
use Rattle.edges.specs.FirstSeason as old
use Rattle.edges.specs.Threshold.{least_by_table, threshold_by_table, header_by_table, ThresholdEdges}
use Rattle.edges.proofs.Peers.{for_each}
use Rattle.edges.proofs.Counted.{counted_header}

-- the rule and the table agree on n peers
abbrev agree : ℕ → Bool
agree n = eqb (least_threshold n) (least_by_table n)

all_agree : every 16 (λ k. agree (k + 1)) ≡ true
unfolding every least_threshold
all_agree = refl

pub constants : (n : ℕ) → 1 ≤ n → n ≤ 16 → least_threshold n ≡ least_by_table n
constants n l m = eqb-true _ _ (for_each 16 agree all_agree n l m)

-- the table is looked at only where it has a number, and there it has the rule's
same_threshold : (n t : ℕ) → old.threshold_ok n t ≡ threshold_by_table n t
same_threshold n t = go (either (between 1 n 16))
  where
    go : (between 1 n 16 ≡ true) ⊎ (between 1 n 16 ≡ false) → old.threshold_ok n t ≡ threshold_by_table n t
    go (inl e) =
        let peers = between_true 1 n 16 e in
        ap (λ (least : ℕ). between 1 n 16 && between least t n) (constants n peers.0 peers.1)
    go (inr e) = rw e

same_header : (s : List ℕ) → zero_then s 3 ≡ false → header_ok s ≡ header_by_table s
same_header s older-table =
    counted_header s (no_weights s (older s older-table)) ∙ rw (same_threshold (peers_of s) (threshold_of s))

pub threshold_edges : ThresholdEdges
threshold_edges = record {
  above = least_above;
  exact = λ w t. (λ more. least_exact w t (omega (arith, more)), λ from. omega (arith, least_above w, from));
  constants = constants;
  same_header = same_header;
}
