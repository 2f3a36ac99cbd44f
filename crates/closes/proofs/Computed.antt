-- The closes by the rules of the byte tables, computed by the checker from the definitions.
use native.Mathlib.Omega.{arith}
use mathlib.Core.Path.{◌≡◌, refl}
use Rattle.base.specs.Below.{any, every}
use Rattle.base.specs.Bits.{bit, member, pack}
use Rattle.base.specs.Bytes.{number_at, part, same_bytes}
use Rattle.base.specs.Refusals.{first}
use Rattle.base.specs.Sets.{add1, add2, add3, add4, set_at}
use Rattle.base.specs.Tab.{tab}
use Rattle.base.specs.Weight.{weight}
use Rattle.header.specs.Header.{header_size, field_of, weight_in, peers_with}
use Rattle.header.specs.Quorum.{weight_of}
use Rattle.ballot.specs.Item.{read_kind, read_item}
use Rattle.ballot.specs.Table.{item_below}
use Rattle.clash.specs.Clash.{clash, clash_in}
use Rattle.rules.specs.declared.Step.TheVariants.{Publish}
use Rattle.rules.specs.Table.{clashing}
use Rattle.rules.specs.Bag.{same_entry, is_in, place_in, enter, is_full, boards_in}
use Rattle.rules.specs.Form.{all_zero, formed, select, ops, later_ops, read}
use Rattle.rules.specs.Rules.{board_from, add_rows, rule, answer, next, reply, leave}
use Rattle.rules.specs.Deed.{deed, deed_of}
use Rattle.rules.specs.Run.{backing_named, seen_with, run_from, after}
use Rattle.form.specs.Written.{written}
use Rattle.engine.specs.Engine.{rules_table}
use Rattle.liveness.specs.Union.{union_of}
use Rattle.liveness.specs.Schedule.{schedule, Room}
use Rattle.liveness.proofs.Places.{ruled}
use Rattle.closes.specs.Plan.{every_place, Planned}
use Rattle.closes.specs.Runs.{table2, earlier2, later2, plan2, in_turn2, table4, earlier4, later4, plan4, by_others4, plan_by_others4, table_w, earlier_w, later_w, plan_w}
use Rattle.closes.specs.Needed.{Needed}
use Rattle.closes.specs.Worked.{Ends, WeightsDecide}

pub record Computed : Type 0 where
  pub two_planned : Planned (rules_table table2) 0 plan2 ((ruled (rules_table table2)).held earlier2) later2
  pub two_ends : Ends (rules_table table2) (ruled (rules_table table2)) earlier2 later2 (written (Publish 2))
  pub two_scheduled : schedule (rules_table table2) (ruled (rules_table table2)) earlier2 0 ≡ in_turn2
  pub two-room : Room (rules_table table2) ((ruled (rules_table table2)).held earlier2)
  pub two_in_turn_ends : Ends (rules_table table2) (ruled (rules_table table2)) earlier2 in_turn2 (written (Publish 2))
  pub two-needed : Needed (ruled (rules_table table2))
  pub four_planned : Planned (rules_table table4) 0 plan4 ((ruled (rules_table table4)).held earlier4) later4
  pub four_ends : Ends (rules_table table4) (ruled (rules_table table4)) earlier4 later4 (written (Publish 9))
  pub by_others_planned : Planned (rules_table table4) 0 plan_by_others4 ((ruled (rules_table table4)).held earlier4) by_others4
  pub by_others_ends : Ends (rules_table table4) (ruled (rules_table table4)) earlier4 by_others4 (written (Publish 4))
  pub weights_planned : Planned (rules_table table_w) 1 plan_w ((ruled (rules_table table_w)).held earlier_w) later_w
  pub weights_decide : WeightsDecide (ruled (rules_table table_w))

pub computed : Computed
unfolding header_size field_of weight_in peers_with weight_of first any every bit member pack number_at part same_bytes read_item read_kind
    item_below clash_in clash add1 add2 add3 add4 set_at weight clashing same_entry is_in enter is_full boards_in all_zero formed select ops
    later_ops read board_from add_rows rule answer next reply leave deed deed_of backing_named seen_with run_from after union_of tab place_in
    every_place
computed = record {
  two_planned = search;
  two_ends = search;
  two_scheduled = refl;
  two-room = omega arith;
  two_in_turn_ends = search;
  two-needed = search;
  four_planned = search;
  four_ends = search;
  by_others_planned = search;
  by_others_ends = search;
  weights_planned = search;
  weights_decide = search;
}
