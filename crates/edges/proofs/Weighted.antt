-- The cases of tables with weights, by computation.
use Prim.Native.Nat.{ℕ, zero, suc, ◌+◌, ◌≤◌, ◌<◌}
use native.Mathlib.Omega.{arith}
use mathlib.Core.Path.{◌≡◌, refl}
use Rattle.base.specs.Refusals.{first}
use Rattle.base.specs.Below.{every}
use Rattle.base.specs.Bits.{bit, member, pack}
use Rattle.base.specs.Bytes.{byte_at, number_at, part, same_bytes}
use Rattle.base.specs.Weight.{weight}
use Rattle.header.specs.Header.{header_size, field_of, weight_in, peers_with, least_threshold, weights_ok, threshold_ok, fields_ok, header_ok}
use Rattle.header.specs.Quorum.{weight_of, reaches}
use Rattle.pairs.specs.Pairs.{offset_of, size_of, end_before, starts_at_end, pairs_fit, pairs_ok}
use Rattle.ballot.specs.Item.{read_kind, read_item, is_item, item_at, all_items}
use Rattle.twins.specs.Twins.{differ, new_at, twinless}
use Rattle.ballot.specs.Table.{table_pairs_ok, item_below, items_ok, no_twins, refusal}
use Rattle.edges.specs.Seasons.{two_places}
use Rattle.edges.specs.Weights.{SameButOnes}
use Rattle.edges.specs.Weighted.{ones_places, WeightCases}

-- the six fields, the four weights, and the two pairs

fields : (i : ℕ) → i < 6 → byte_at ones_places (2 + i) ≡ byte_at two_places (2 + i)
fields zero l = refl
fields (suc zero) l = refl
fields (suc (suc zero)) l = refl
fields (suc (suc (suc zero))) l = refl
fields (suc (suc (suc (suc zero)))) l = refl
fields (suc (suc (suc (suc (suc zero))))) l = refl
fields (suc (suc (suc (suc (suc (suc i)))))) l = absurd (omega arith)

ones : (k : ℕ) → 1 ≤ k → k ≤ 4 → byte_at ones_places (7 + k) ≡ 1
ones zero l m = absurd (omega arith)
ones (suc zero) l m = refl
ones (suc (suc zero)) l m = refl
ones (suc (suc (suc zero))) l m = refl
ones (suc (suc (suc (suc zero)))) l m = refl
ones (suc (suc (suc (suc (suc k))))) l m = absurd (omega arith)

pairs : (k : ℕ) → k < 2 → (offset_of ones_places 12 k ≡ 4 + offset_of two_places 8 k) × (size_of ones_places 12 k ≡ size_of two_places 8 k)
unfolding number_at
pairs zero l = (refl, refl)
pairs (suc zero) l = (refl, refl)
pairs (suc (suc k)) l = absurd (omega arith)

ones_met : SameButOnes ones_places two_places
ones_met = record {
  third = refl;
  second = refl;
  fields = fields;
  ones = ones;
  rest = record { longer = refl; pairs = λ there. pairs; texts = refl };
}

pub weight_cases : WeightCases
unfolding refusal header_ok header_size field_of weight_in peers_with weights_ok fields_ok threshold_ok least_threshold table_pairs_ok pairs_ok
    pairs_fit starts_at_end end_before item_below items_ok all_items item_at is_item no_twins twinless new_at differ read_item read_kind first every
    number_at part same_bytes bit member pack weight weight_of reaches
weight_cases = record {
  carry_taken = refl;
  two_bytes_lem = refl;
  seven_bytes = refl;
  no_weight = refl;
  one-weight = refl;
  one_weight_short = refl;
  no_peers = refl;
  seventeen_peers = refl;
  weight_of_0 = refl;
  weight_of_5 = refl;
  last_weight_of_5 = refl;
  threshold_3 = refl;
  threshold_4 = refl;
  threshold_5 = refl;
  threshold_7 = refl;
  threshold_8 = refl;
  threshold_42 = refl;
  threshold_43 = refl;
  threshold_64 = refl;
  threshold_65 = refl;
  offset_13 = refl;
  offset_12 = refl;
  one_byte_more = refl;
  bare_audit_lem = refl;
  two_reach = refl;
  three_do_not = refl;
  total = refl;
  all-honest = refl;
  four_heads = refl;
  two_taken = refl;
  two-honest = refl;
  threshold = refl;
  lie_taken = refl;
  lie_heads = refl;
  lie_honest = refl;
  hold_taken = refl;
  hold_heads = refl;
  hold_honest = refl;
  hold_total = refl;
  hold_threshold = refl;
  ones = ones_met;
}
