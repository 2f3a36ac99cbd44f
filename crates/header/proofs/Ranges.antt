-- A header that is right: each of its fields is in range.
use Prim.Native.Nat.{ℕ, ◌^◌, ◌≤◌, ◌<◌}
use native.Mathlib.Nat.{pow-le-pow_right, zero-lt-suc}
use native.Mathlib.Omega.{arith}
use mathlib.Core.Bool.{true}
use mathlib.Core.List.{List}
use mathlib.Core.Path.{◌≡◌}
use borrow.Author.Tests.{leb-true}
use Rattle.base.proofs.Truth.{and_l, and_r}
use Rattle.base.proofs.Bytes.{between_true}
use Rattle.base.proofs.Members.{member-among}
use Rattle.header.specs.declared.weights.Feature.TheVariants.{Even, Heavy}
use Rattle.header.specs.Header.{head_of, honest_in, peers_of, threshold_of, honest_of, periods_of, items_of, peers_with, is_honest}
use Rattle.header.specs.Header.{total_weight, least_threshold, weights_ok, threshold_ok, fields_ok, header_ok}
use Rattle.header.proofs.Fields.{first-set, none_above_lem}

module _ (s : List ℕ) (ok : header_ok s ≡ true) where
  pub peers_range : (1 ≤ peers_of s) × (peers_of s ≤ 16)
  unfolding header_ok
  peers_range = between_true 1 (peers_of s) 16 (search (and_l, and_r))

  pub weights_right : weights_ok s ≡ true
  unfolding header_ok
  weights_right = search (and_l, and_r)

  pub threshold_range : (least_threshold (total_weight s) ≤ threshold_of s) × (threshold_of s ≤ total_weight s)
  unfolding header_ok fields_ok threshold_ok
  threshold_range = between_true (least_threshold (total_weight s)) (threshold_of s) (total_weight s) (search (and_l, and_r))

  -- the honest set has no bit above peer n, and so at most sixteen; the struct has it
  honest_below : honest_of s < 2 ^ peers_of s
  unfolding header_ok fields_ok
  honest_below = none_above_lem (peers_of s) (honest_of s) (search (and_l, and_r))

  pub honest_fits : honest_of s < 65536
  honest_fits = omega (arith, honest_below, pow-le-pow_right {n = 2} (zero-lt-suc 1) {i = peers_of s} {j = 16} peers_range.1)

  pub honest-read : honest_in (head_of s) ≡ honest_of s
  honest-read = first-set (honest_of s) (peers_with Even s) (peers_with Heavy s) honest_fits

  pub honest_range : (k : ℕ) → is_honest (head_of s) k ≡ true → (1 ≤ k) × (k ≤ peers_of s)
  honest_range k e = member-among (peers_of s) (honest_of s) honest_below k (rw honest-read at e)

  pub periods_range : (1 ≤ periods_of s) × (periods_of s ≤ 8)
  unfolding header_ok fields_ok
  periods_range = between_true 1 (periods_of s) 8 (search (and_l, and_r))

  pub items_range : items_of s ≤ 64
  unfolding header_ok fields_ok
  items_range = leb-true (items_of s) 64 (search (and_l, and_r))
