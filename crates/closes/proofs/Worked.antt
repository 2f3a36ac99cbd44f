-- P3 of the bytes is not empty: the closes are computed by the rules, which the engine on bytes follows.
use Prim.Native.Nat.{ℕ}
use mathlib.Core.List.{List}
use mathlib.Core.Path.{◌≡◌, sym, subst}
use Rattle.base.specs.Below.{every}
use Rattle.base.specs.Bits.{bit, member, pack}
use Rattle.base.specs.Bytes.{number_at, part, same_bytes}
use Rattle.base.specs.Refusals.{first}
use Rattle.base.specs.Weight.{weight}
use Rattle.header.specs.Header.{header_size, field_of, weight_in, peers_with, least_threshold, weights_ok, threshold_ok, fields_ok, header_ok}
use Rattle.header.specs.Quorum.{weight_of}
use Rattle.pairs.specs.Pairs.{end_before, starts_at_end, pairs_fit, pairs_ok}
use Rattle.twins.specs.Twins.{differ, new_at, twinless}
use Rattle.ballot.specs.Item.{read_kind, read_item, is_item, item_at, all_items}
use Rattle.ballot.specs.Table.{table_pairs_ok, item_below, items_ok, no_twins, refusal}
use Rattle.rules.specs.declared.Step.TheVariants.{Publish}
use Rattle.rules.specs.Table.{Table}
use Rattle.form.specs.Written.{written}
use Rattle.engine.specs.Engine.{rules_table}
use Rattle.liveness.specs.Places.{Behaviour}
use Rattle.liveness.specs.Close.{Closed, Close}
use Rattle.liveness.specs.InTurn.{CloseInTurn}
use Rattle.liveness.specs.Schedule.{Room, schedule}
use Rattle.liveness.proofs.Places.{ruled, as_rules, obeys}
use Rattle.guarantee.specs.Liveness.{NoneDishonest, on_bytes}
use Rattle.guarantee.proofs.Demand3.{bytes_follow}
use Rattle.guarantee.proofs.Liveness.{boards_come}
use Rattle.closes.specs.Runs.{table2, earlier2, later2, plan2, in_turn2, table4, earlier4, later4, plan4, by_others4, plan_by_others4, table_w, earlier_w, later_w, plan_w}
use Rattle.closes.specs.Needed.{Needed}
use Rattle.closes.specs.Worked.{Ends, WeightsDecide, ClosesWorked}
use Rattle.closes.proofs.Plan.{is_close}
use Rattle.closes.proofs.Computed.{computed}

abbrev T2 : Table
T2 = rules_table table2

abbrev T4 : Table
T4 = rules_table table4

abbrev TW : Table
TW = rules_table table_w

pub record Honest : Type 0 where
  pub two : NoneDishonest table2
  pub four : NoneDishonest table4
  pub weighed : NoneDishonest table_w

pub honest : Honest
unfolding refusal header_ok header_size field_of weight_in weights_ok fields_ok threshold_ok least_threshold table_pairs_ok pairs_ok pairs_fit
    starts_at_end end_before item_below items_ok all_items item_at is_item no_twins twinless new_at differ read_item read_kind first every number_at
    part same_bytes bit member pack weight peers_with weight_of
honest = search

-- what holds of the rules of a table holds of its bytes
on_bytes_lem : {table : List ℕ} (P : Behaviour → Type 0) → NoneDishonest table → P (ruled (rules_table table)) → P (on_bytes table)
on_bytes_lem {table} P N = subst P (sym (as_rules (bytes_follow table N.taken)))

pub closes_worked : ClosesWorked
closes_worked = record {
  two-honest = honest.two;
  two_close = on_bytes_lem (λ E. Close T2 E earlier2 later2 0) honest.two
      (is_close (obeys T2) 0 plan2 earlier2 later2 computed.two_planned);
  two_ends = on_bytes_lem (λ E. Ends T2 E earlier2 later2 (written (Publish 2))) honest.two computed.two_ends;
  two-room = room;
  two_scheduled = scheduled;
  two_in_turn = subst (λ (later : List (List ℕ)). CloseInTurn T2 (on_bytes table2) earlier2 later 0) scheduled
      ((boards_come table2 honest.two).can_close.closes earlier2 0 closed room);
  two_in_turn_ends = on_bytes_lem (λ E. Ends T2 E earlier2 in_turn2 (written (Publish 2))) honest.two computed.two_in_turn_ends;
  four_honest = honest.four;
  four_close = on_bytes_lem (λ E. Close T4 E earlier4 later4 0) honest.four
      (is_close (obeys T4) 0 plan4 earlier4 later4 computed.four_planned);
  four_ends = on_bytes_lem (λ E. Ends T4 E earlier4 later4 (written (Publish 9))) honest.four computed.four_ends;
  by_others_close = on_bytes_lem (λ E. Close T4 E earlier4 by_others4 0) honest.four
      (is_close (obeys T4) 0 plan_by_others4 earlier4 by_others4 computed.by_others_planned);
  by_others_ends = on_bytes_lem (λ E. Ends T4 E earlier4 by_others4 (written (Publish 4))) honest.four computed.by_others_ends;
  weights_honest = honest.weighed;
  weights_close = on_bytes_lem (λ E. Close TW E earlier_w later_w 1) honest.weighed
      (is_close (obeys TW) 1 plan_w earlier_w later_w computed.weights_planned);
  weights_decide = on_bytes_lem WeightsDecide honest.weighed computed.weights_decide;
  two-needed = on_bytes_lem Needed honest.two computed.two-needed;
}
  where
    scheduled : schedule T2 (on_bytes table2) earlier2 0 ≡ in_turn2
    scheduled = on_bytes_lem (λ E. schedule T2 E earlier2 0 ≡ in_turn2) honest.two computed.two_scheduled

    room : Room T2 ((on_bytes table2).held earlier2)
    room = on_bytes_lem (λ E. Room T2 (E.held earlier2)) honest.two computed.two-room

    closed : Closed T2 ((on_bytes table2).held earlier2) 0
    closed = on_bytes_lem (λ E. Closed T2 (E.held earlier2) 0) honest.two
        (is_close (obeys T2) 0 plan2 earlier2 later2 computed.two_planned).closed
