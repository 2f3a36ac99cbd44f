-- A header without weights is judged and read as it was when there were none: by the number of peers.
use Prim.Native.Nat.{ℕ}
use native.Mathlib.Omega.{arith}
use mathlib.Core.Bool.{true, ◌&&◌, and_assoc}
use mathlib.Core.List.{List}
use mathlib.Core.Path.{◌≡◌, sym, ap}
use lib.Dec.{leb}
use lib.ListN.{length}
use Rattle.base.specs.Below.{every}
use Rattle.base.specs.Bytes.{between}
use Rattle.header.specs.declared.weights.Feature.TheVariants.{Even, Heavy}
use Rattle.header.specs.Header.{header_size, peers_of, threshold_of, honest_of, periods_of, items_of, weight_count, least_threshold}
use Rattle.header.specs.Header.{peers_with, joined, head_of, weights_ok, threshold_ok, fields_ok, header_ok}
use Rattle.header.proofs.Weighing.{total_counted, nobody_with}
use Rattle.edges.specs.FirstSeason as old

module _ (s : List ℕ) (none : weight_count s ≡ 0) where
  all_right : weights_ok s ≡ true
  unfolding weights_ok every
  all_right = rw none

  pub counted_header : header_ok s
      ≡ (leb (header_size s) (length s) && old.fields_ok (peers_of s) (threshold_of s) (honest_of s) (periods_of s) (items_of s))
  unfolding header_ok fields_ok threshold_ok
  counted_header =
      let n = peers_of s in
      rw (all_right, total_counted s none)
      (ap (λ b. leb (header_size s) (length s) && b) (sym (and_assoc (between 1 n 16) (between (least_threshold n) (threshold_of s) n) _)))

  -- of the three sets of its struct there is the honest one
  pub head_counted : head_of s ≡ record { n = peers_of s; t = threshold_of s; sets = honest_of s; periods = periods_of s; items = items_of s }
  head_counted =
      let alone : joined (honest_of s) (peers_with Even s) (peers_with Heavy s) 0 ≡ honest_of s
      = omega (arith, nobody_with s Even none, nobody_with s Heavy none) in
      λ i. record { n = peers_of s; t = threshold_of s; sets = alone i; periods = periods_of s; items = items_of s }
