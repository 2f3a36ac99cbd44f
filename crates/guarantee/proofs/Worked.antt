-- Demand 3 of the bytes is not empty: the tables are those of edges, and the runs are computed by the rules, which the
-- engine on bytes follows.
use Prim.Native.Nat.{ℕ, ◌≤◌}
use native.Mathlib.Omega.{arith}
use mathlib.Core.Bool.{true, false}
use mathlib.Core.List.{List, [], ◌∷◌}
use mathlib.Core.Path.{◌≡◌, refl, sym, ap, ◌∙◌}
use Rattle.base.proofs.Truth.{true_false}
use Rattle.base.specs.Below.{any, every}
use Rattle.base.specs.Bits.{bit, member, pack}
use Rattle.base.specs.Bytes.{number_at, part, same_bytes}
use Rattle.base.specs.Refusals.{first}
use Rattle.base.specs.Sets.{add1, add2, add3, add4, set_at}
use Rattle.base.specs.Weight.{weight}
use Rattle.header.specs.Season.{zero_then}
use Rattle.header.specs.Header.{header_size, field_of, weight_in, peers_with, head_of, threshold_of, honest_count}
use Rattle.header.specs.Quorum.{weight_of}
use Rattle.header.proofs.Seasons.{not-zero}
use Rattle.ballot.specs.Item.{read_kind, read_item}
use Rattle.ballot.specs.Table.{item_below, refusal}
use Rattle.clash.specs.Clash.{clash, clash_in}
use Rattle.rules.specs.Table.{clashing}
use Rattle.rules.specs.Bag.{same_entry, is_in, enter, is_full, boards_in}
use Rattle.rules.specs.Form.{all_zero, formed, select, ops, later_ops, read}
use Rattle.rules.specs.Rules.{board_from, add_rows, rule, answer, next, reply, leave}
use Rattle.rules.specs.Ideal.{is_there, has_board, on_board, may_receive, may_receipt, may_publish, now_enough, move, feed, ideal}
use Rattle.rules.specs.Deed.{deed, deed_of}
use Rattle.rules.specs.Run.{backing_named, seen_with, run_from, after, answers_from}
use Rattle.engine.specs.Engine.{rules_table}
use Rattle.edges.specs.Tables as tables
use Rattle.edges.specs.Premise.{barely_bytes}
use Rattle.edges.specs.Seasons.{two_places}
use Rattle.edges.specs.Cases.{Worked, case_r, two_faced}
use Rattle.edges.specs.TwoDays.{slip_table, slip_on_two_days}
use Rattle.edges.specs.Weighted.{ones_places, carry_table, weights_carry, clash_table, weights_lie, weights_hold}
use Rattle.edges.specs.Worked.{RulesEnd, RulesIdeally}
use Rattle.edges.proofs.Table.{table_cases, season_cases}
use Rattle.edges.proofs.Weighted.{weight_cases}
use Rattle.edges.proofs.AllOnes.{weighs_one, all_ones}
use Rattle.edges.proofs.Premise.{premise_edges}
use Rattle.edges.proofs.Worked.{follower_ends, follower_ideally}
use Rattle.guarantee.specs.Demand3.{HonestEnough}
use Rattle.guarantee.specs.Counted.{CountedEnough}
use Rattle.guarantee.specs.Worked.{BytesMeet, HeadsMeet, RunsTo, BytesRun}
use Rattle.guarantee.proofs.Demand3.{bytes_follow}
use Rattle.guarantee.proofs.Counted.{honest-heads, older_ones, enough}

-- as many honest peers as t, in a table without weights
counted_met : (table : List ℕ) → refusal table ≡ 0 → zero_then table 3 ≡ false → threshold_of table ≤ honest_count (head_of table)
    → CountedEnough table
counted_met table taken older honest = record {
  weighs_one = older_ones table taken older;
  honest = omega (arith, honest, honest-heads table taken);
}

-- the table with weights that are all 1 has the header of the one without them
ones_taken : refusal ones_places ≡ 0
ones_taken = (all_ones ones_places two_places weight_cases.ones).judged ∙ season_cases.two_places_lem

pub heads_meet : HeadsMeet
unfolding field_of
heads_meet = record {
  barely_met = λ n l m.
      let b = premise_edges.met_by_bytes n l m in
      counted_met (barely_bytes n) b.taken (not-zero (barely_bytes n) 3 (λ e. omega (arith, e, l))) (omega (arith, b.just_enough));
  places_met = counted_met two_places season_cases.two_places_lem refl (omega (arith, season_cases.three-honest));
  ones_met = record {
    weighs_one = record { taken = ones_taken; ones = λ k l m. weighs_one ones_places two_places weight_cases.ones k };
    honest =
        let same = ap honest_count (all_ones ones_places two_places weight_cases.ones).head in
        omega (arith, same, season_cases.three-honest, honest-heads ones_places ones_taken);
  };
  case_r_all = record {
    weighs_one = older_ones tables.case_r table_cases.case_r_taken refl;
    honest = sym (honest-heads tables.case_r table_cases.case_r_taken) ∙ table_cases.case_r-honest;
  };
}

pub bytes_meet : BytesMeet
unfolding field_of
bytes_meet = record {
  barely_met = λ n l m. enough (barely_bytes n) (heads_meet.barely_met n l m);
  case_r_met = enough tables.case_r (counted_met tables.case_r table_cases.case_r_taken refl (omega (arith, table_cases.case_r-honest)));
  places_met = enough two_places heads_meet.places_met;
  slip_met = enough slip_table (counted_met slip_table table_cases.slip_taken refl (omega (arith, table_cases.slip_honest)));
  carry_met = record { taken = weight_cases.carry_taken; honest = omega (arith, weight_cases.all-honest) };
  two_carry_met = record { taken = weight_cases.two_taken; honest = omega (arith, weight_cases.two-honest) };
  hold_met = record { taken = weight_cases.hold_taken; honest = omega (arith, weight_cases.hold_honest, weight_cases.hold_threshold) };
}

-- the runs, by the rules of the byte tables
pub record ByRules (table : List ℕ) (w : Worked) (signers : List (ℕ × ℕ × ℕ × ℕ)) (receipts boards : List (ℕ × ℕ)) : Type 0 where
  pub ends : RulesEnd (rules_table table) w signers receipts boards
  pub ideally : RulesIdeally (rules_table table) w receipts boards true

pub record Computed : Type 0 where
  pub case_r_lem : ByRules tables.case_r case_r ((1, 0, 0, 1) ∷ []) ((0, 0) ∷ []) ((0, 1) ∷ [])
  pub two_faced_lem : ByRules (barely_bytes 4) two_faced ((1, 0, 0, 3) ∷ (2, 0, 0, 3) ∷ (3, 0, 0, 3) ∷ (3, 0, 1, 2) ∷ [])
      ((0, 0) ∷ []) ((0, 1) ∷ [])
  pub two_places_lem : ByRules two_places two_faced ((1, 0, 0, 3) ∷ (2, 0, 0, 3) ∷ (3, 0, 0, 3) ∷ (3, 0, 1, 2) ∷ [])
      ((0, 0) ∷ []) ((0, 1) ∷ [])
  pub slip_on_two_days_lem : ByRules slip_table slip_on_two_days
      ((1, 0, 0, 3) ∷ (1, 1, 0, 3) ∷ (1, 1, 1, 3) ∷ (2, 0, 0, 3) ∷ (2, 1, 0, 3) ∷ (2, 1, 1, 3)
      ∷ (3, 0, 0, 3) ∷ (3, 1, 0, 3) ∷ (3, 1, 1, 3) ∷ [])
      ((0, 0) ∷ (1, 1) ∷ []) ((0, 1) ∷ (1, 3) ∷ [])
  pub weights_carry_lem : ByRules (carry_table 15) weights_carry
      ((1, 0, 0, 2) ∷ (2, 0, 0, 2) ∷ (2, 0, 1, 3) ∷ (3, 0, 0, 2) ∷ (3, 0, 1, 3) ∷ (4, 0, 0, 2) ∷ (4, 0, 1, 3) ∷ [])
      ((0, 0) ∷ []) ((0, 1) ∷ [])
  pub weights_hold_lem : ByRules (clash_table 3) weights_hold ((1, 0, 0, 2) ∷ (2, 0, 0, 2) ∷ (2, 0, 1, 3) ∷ []) ((0, 0) ∷ []) ((0, 1) ∷ [])
  pub weights_lie_lem : RulesEnd (rules_table (clash_table 14)) weights_lie ((2, 0, 0, 2) ∷ (3, 0, 1, 2) ∷ []) ((0, 0) ∷ (0, 1) ∷ []) []
  pub weights_lie_ideal : RulesIdeally (rules_table (clash_table 14)) weights_lie ((0, 0) ∷ []) [] false

computed : Computed
unfolding header_size field_of weight_in peers_with weight_of first any every bit member pack number_at part same_bytes read_item read_kind
    item_below clash_in clash add1 add2 add3 add4 set_at weight clashing same_entry is_in enter is_full boards_in all_zero formed select ops
    later_ops read board_from add_rows rule answer next reply leave is_there has_board on_board may_receive may_receipt may_publish now_enough move
    feed ideal deed deed_of backing_named seen_with run_from after answers_from
computed = record {
  case_r_lem = record {
    ends = record { answered = refl; signed = refl; receipted = refl; published = refl };
    ideally = record { receipted = refl; published = refl; allowed = refl };
  };
  two_faced_lem = record {
    ends = record { answered = refl; signed = refl; receipted = refl; published = refl };
    ideally = record { receipted = refl; published = refl; allowed = refl };
  };
  two_places_lem = record {
    ends = record { answered = refl; signed = refl; receipted = refl; published = refl };
    ideally = record { receipted = refl; published = refl; allowed = refl };
  };
  slip_on_two_days_lem = record {
    ends = record { answered = refl; signed = refl; receipted = refl; published = refl };
    ideally = record { receipted = refl; published = refl; allowed = refl };
  };
  weights_carry_lem = record {
    ends = record { answered = refl; signed = refl; receipted = refl; published = refl };
    ideally = record { receipted = refl; published = refl; allowed = refl };
  };
  weights_hold_lem = record {
    ends = record { answered = refl; signed = refl; receipted = refl; published = refl };
    ideally = record { receipted = refl; published = refl; allowed = refl };
  };
  weights_lie_lem = record { answered = refl; signed = refl; receipted = refl; published = refl };
  weights_lie_ideal = record { receipted = refl; published = refl; allowed = refl };
}

-- so they end on the bytes
on_bytes_lem : {table : List ℕ} {w : Worked} {signers : List (ℕ × ℕ × ℕ × ℕ)} {receipts boards : List (ℕ × ℕ)} → HonestEnough table
    → ByRules table w signers receipts boards → RunsTo table w signers receipts boards
on_bytes_lem {table} H R =
    let F = bytes_follow table H.taken in
    record { ends = follower_ends F R.ends; ideally = follower_ideally F R.ideally }

pub bytes_run : BytesRun
bytes_run = record {
  case_r_lem = on_bytes_lem bytes_meet.case_r_met computed.case_r_lem;
  two_faced_lem = on_bytes_lem (bytes_meet.barely_met 4 (omega arith) (omega arith)) computed.two_faced_lem;
  two_places_lem = on_bytes_lem bytes_meet.places_met computed.two_places_lem;
  slip_on_two_days_lem = on_bytes_lem bytes_meet.slip_met computed.slip_on_two_days_lem;
  weights_carry_lem = on_bytes_lem bytes_meet.carry_met computed.weights_carry_lem;
  weights_hold_lem = on_bytes_lem bytes_meet.hold_met computed.weights_hold_lem;
  weights_lie_lem =
      let F = bytes_follow (clash_table 14) weight_cases.lie_taken in
      record {
        ends = follower_ends F computed.weights_lie_lem;
        unsafe = λ S. true_false (sym S.now.allowed ∙ (follower_ideally F computed.weights_lie_ideal).allowed);
      };
}
