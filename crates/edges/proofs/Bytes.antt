-- Byte tables that just meet demand 3's premise: computed over all numbers of peers at once.
use Prim.Native.Nat.{ℕ, ◌+◌, ◌≤◌}
use native.Mathlib.Omega.{arith}
use mathlib.Core.Bool.{Bool, true, ◌&&◌}
use mathlib.Core.Path.{◌≡◌, refl, sym, ◌∙◌}
use lib.Dec.{eqb}
use borrow.Author.Tests.{eqb-true}
use Rattle.base.specs.Refusals.{first}
use Rattle.base.specs.Below.{every}
use Rattle.base.specs.Bits.{bit, member, pack}
use Rattle.base.specs.Weight.{weight}
use Rattle.base.specs.Bytes.{number_at, part, same_bytes}
use Rattle.base.proofs.Truth.{and_l, and_r}
use Rattle.header.specs.Header.{head_of, threshold_of, honest_count}
use Rattle.header.specs.Header.{header_size, field_of, weight_in, peers_with, least_threshold, weights_ok, threshold_ok, fields_ok, header_ok}
use Rattle.header.proofs.Seasons.{starts_otherwise, first_field}
use Rattle.pairs.specs.Pairs.{end_before, starts_at_end, pairs_fit, pairs_ok}
use Rattle.ballot.specs.Item.{read_kind, read_item, is_item, item_at, all_items}
use Rattle.twins.specs.Twins.{differ, new_at, twinless}
use Rattle.ballot.specs.Table.{table_pairs_ok, item_below, items_ok, no_twins, refusal}
use Rattle.clash.specs.Clash.{clash, clash_in}
use Rattle.edges.specs.Threshold.{least_by_table}
use Rattle.edges.specs.Premise.{barely_bytes, BarelyBytes}
use Rattle.edges.proofs.Peers.{for_each}
use Rattle.edges.proofs.Threshold.{constants}

-- what the bytes of n peers are to have, as tests
abbrev taken : ℕ → Bool
taken n = eqb (refusal (barely_bytes n)) 0

abbrev just : ℕ → Bool
just n = eqb (honest_count (head_of (barely_bytes n))) (threshold_of (barely_bytes n))

abbrev clashes : ℕ → Bool
clashes n = clash_in (barely_bytes n) 0 1

abbrev good : ℕ → Bool
good n = taken n && (just n && clashes n)

all_good : every 16 (λ k. good (k + 1)) ≡ true
unfolding refusal header_ok header_size field_of weight_in peers_with pack weights_ok fields_ok threshold_ok least_threshold table_pairs_ok pairs_ok
    pairs_fit starts_at_end end_before item_below items_ok all_items item_at is_item no_twins twinless new_at differ clash_in clash read_item read_kind
    first every number_at part same_bytes bit member weight
all_good = refl

read_back : (n : ℕ) → 1 ≤ n → threshold_of (barely_bytes n) ≡ least_by_table n
read_back n l = first_field (barely_bytes n) (starts_otherwise (barely_bytes n) refl (λ e. omega (arith, e, l))) 1

pub met_by_bytes : (n : ℕ) → 1 ≤ n → n ≤ 16 → BarelyBytes n
met_by_bytes n l m =
    let ok = for_each 16 good all_good n l m in
    let rest = and_r (taken n) _ ok in
    record {
      taken = eqb-true (refusal (barely_bytes n)) 0 (and_l _ (just n && clashes n) ok);
      least = read_back n l ∙ sym (constants n l m);
      just_enough = eqb-true (honest_count (head_of (barely_bytes n))) (threshold_of (barely_bytes n)) (and_l _ (clashes n) rest);
      some_clash = and_r (just n) _ rest;
    }
