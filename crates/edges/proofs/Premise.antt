-- Demand 3's premise can be met, for every number of peers.
use Prim.Native.Nat.{ℕ, zero, suc, ◌*◌, ◌≤◌, ◌<◌}
use native.Mathlib.Omega.{arith}
use native.Mathlib.Decide.{dec_le}
use mathlib.Core.Bool.{not}
use mathlib.Core.Path.{◌≡◌, refl, ap}
use lib.Dec.{leb}
use borrow.Author.Tests.{le-leb, lt-leb}
use Rattle.base.specs.Weight.{weight, ones}
use Rattle.base.proofs.Truth.{eqb_self, eqb_sym}
use Rattle.header.specs.Header.{least_threshold}
use Rattle.header.proofs.TwoThirds.{least_above, least_exact}
use Rattle.rules.specs.Demand3.{Premise}
use Rattle.rules.proofs.Demand3.{counted}
use Rattle.edges.specs.Cases.{table}
use Rattle.edges.specs.Premise.{Barely, PremiseEdges}
use Rattle.edges.proofs.Bytes.{met_by_bytes}

-- of the peers 1 to n, with n at most t, all are up to t
up_to_all : (n t : ℕ) → n ≤ t → weight ones n (λ k. leb k t) ≡ n
unfolding weight
up_to_all zero t l = refl
up_to_all (suc n) t l = rw (le-leb (suc n) t l) (omega (arith, up_to_all n t (omega arith)))

-- of the peers 1 to n, with n at least t, there are t up to t
up_to : (n t : ℕ) → t ≤ n → weight ones n (λ k. leb k t) ≡ t
unfolding weight
up_to zero t l = omega arith
up_to (suc n) t l = go (dec_le t n) (up_to n t)
  where
    go : Dec (t ≤ n) → (t ≤ n → weight ones n (λ k. leb k t) ≡ t) → weight ones (suc n) (λ k. leb k t) ≡ t
    go (yes h) below = rw (lt-leb (suc n) t (omega arith)) (omega (arith, below h))
    go (no h) below = omega (arith, up_to_all (suc n) t (omega arith))

-- the premise of a table whose items all clash
pub meets : (n t h P m : ℕ) → 2 * n < 3 * t → t ≤ weight ones n (λ k. leb k h) → Premise (table n t h P m)
meets n t h P m q e = counted (table n t h P m) refl q e (λ x y. ap not (eqb_sym x y)) (λ x. ap not (eqb_self x))

barely_meets : (n : ℕ) → 1 ≤ n → Barely n
barely_meets n l = record {
  premise = meets n (least_threshold n) (least_threshold n) 1 2 (least_above n) (omega (arith, honest));
  in_range_lem = in_range_lem;
  just_enough = honest;
  some_clash = refl;
}
  where
    in_range_lem : least_threshold n ≤ n
    in_range_lem = least_exact n n (omega arith)

    honest : weight ones n (λ k. leb k (least_threshold n)) ≡ least_threshold n
    honest = up_to n (least_threshold n) in_range_lem

pub premise_edges : PremiseEdges
premise_edges = record { met = barely_meets; met_by_bytes = met_by_bytes }
