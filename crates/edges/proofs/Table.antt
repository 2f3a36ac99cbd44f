-- The table's cases, by computation.
use mathlib.Core.Path.{refl}
use Rattle.base.specs.Refusals.{first}
use Rattle.base.specs.Below.{every}
use Rattle.base.specs.Bits.{bit, member, pack}
use Rattle.base.specs.Weight.{weight}
use Rattle.base.specs.Bytes.{number_at, part, same_bytes}
use Rattle.header.specs.Header.{header_size, field_of, weight_in, peers_with, least_threshold, weights_ok, threshold_ok, fields_ok, header_ok}
use Rattle.pairs.specs.Pairs.{end_before, starts_at_end, pairs_fit, pairs_ok}
use Rattle.ballot.specs.Item.{read_kind, read_item, is_item, item_at, all_items}
use Rattle.twins.specs.Twins.{differ, new_at, twinless}
use Rattle.ballot.specs.Table.{table_pairs_ok, item_below, items_ok, no_twins, refusal}
use Rattle.clash.specs.Clash.{clash, clash_in, clash_mask}
use Rattle.edges.specs.Marked.{TableEdges, TableCases}
use Rattle.edges.specs.Seasons.{SeasonCases}

pub table_edges : TableEdges
unfolding refusal header_ok header_size field_of weight_in peers_with weights_ok fields_ok threshold_ok least_threshold table_pairs_ok pairs_ok
    pairs_fit starts_at_end end_before item_below items_ok all_items item_at is_item no_twins twinless new_at differ clash read_item read_kind first
    every weight number_at part same_bytes
table_edges =
    record {
      three_peers_threshold_2 = refl;
      three_peers_threshold_3 = refl;
      sixteen_peers_threshold_10 = refl;
      sixteen_peers_threshold_11 = refl;
      vote_of_5_bytes = refl;
      vote_of_6_bytes = refl;
      vote_of_37_bytes = refl;
      vote_of_38_bytes = refl;
      audit_of_6_bytes = refl;
      votes_00_and_01_clash = refl;
      vote-and-audit-clash = refl;
      vote_and_cancellation_do_not = refl;
    }

pub table_cases : TableCases
unfolding refusal header_ok header_size field_of weight_in peers_with weights_ok fields_ok threshold_ok least_threshold table_pairs_ok pairs_ok
    pairs_fit starts_at_end end_before item_below items_ok all_items item_at is_item no_twins twinless new_at differ clash_mask clash_in clash read_item
    read_kind first every number_at part same_bytes bit member pack weight
table_cases =
    record {
      no_bytes = refl;
      five_bytes = refl;
      no_peers = refl;
      seventeen_peers = refl;
      threshold_above_peers = refl;
      honest_above_peers = refl;
      all-honest = refl;
      no_periods = refl;
      nine_periods = refl;
      items_65 = refl;
      pairs_cut_short = refl;
      first_offset_9 = refl;
      last_end_past_end = refl;
      one_byte_more = refl;
      no_items_one_byte_more = refl;
      item_of_0_bytes = refl;
      kind_0 = refl;
      kind_4 = refl;
      twins = refl;
      audit-and-cancellation = refl;
      header_before_pairs = refl;
      pairs_before_item = refl;
      item_before_twin = refl;
      three_taken = refl;
      first_clashes_with_second = refl;
      second_clashes_with_first = refl;
      third_with_none = refl;
      case_r_taken = refl;
      case_r-honest = refl;
      slip_taken = refl;
      slip_honest = refl;
    }

pub season_cases : SeasonCases
unfolding refusal header_ok header_size field_of weight_in peers_with weights_ok fields_ok threshold_ok least_threshold table_pairs_ok pairs_ok
    pairs_fit starts_at_end end_before item_below items_ok all_items item_at is_item no_twins twinless new_at differ clash_mask clash_in clash read_item
    read_kind first every number_at part same_bytes bit member pack weight
season_cases =
    record {
      eight_bytes = refl;
      seven_bytes = refl;
      two_bytes_lem = refl;
      zero-zero = refl;
      zero_one = refl;
      zero_four = refl;
      two_then_two = refl;
      three_peers_threshold_2 = refl;
      three_peers_threshold_3 = refl;
      sixteen_peers_threshold_10 = refl;
      sixteen_peers_threshold_11 = refl;
      one_byte_more = refl;
      first_offset_10 = refl;
      vote_of_5_bytes = refl;
      vote_of_6_bytes = refl;
      vote_of_37_bytes = refl;
      vote_of_38_bytes = refl;
      audit_of_5_bytes = refl;
      audit_of_6_bytes = refl;
      place_255 = refl;
      audit_of_7_bytes = refl;
      cancellation_of_5_bytes = refl;
      cancellation_of_6_bytes = refl;
      one_place = refl;
      two_places_lem = refl;
      three-honest = refl;
      first_clashes_with_second = refl;
      second_clashes_with_first = refl;
      vote-and-audit-clash = refl;
      audit-and-vote-clash = refl;
      audit_and_cancellation_do_not = refl;
      other_ballot_does_not = refl;
      none_in_the_first = refl;
    }
