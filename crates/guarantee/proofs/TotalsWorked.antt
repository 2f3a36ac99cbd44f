-- The totals of worked runs, computed by the rules, which the engine on bytes follows.
use Prim.Native.Nat.{ℕ}
use mathlib.Core.List.{List, [], ◌∷◌}
use mathlib.Core.Path.{◌≡◌, refl, ap, ap₂, ◌∙◌}
use Rattle.base.specs.Below.{any, every}
use Rattle.base.specs.Bits.{bit, member, pack}
use Rattle.base.specs.Bytes.{number_at, part, same_bytes}
use Rattle.base.specs.Refusals.{first}
use Rattle.base.specs.Sets.{add1, add2, add3, add4, set_at}
use Rattle.base.specs.Tab.{tab}
use Rattle.base.specs.Weight.{weight}
use Rattle.base.specs.Sums.{sum, how_many}
use Rattle.header.specs.Header.{header_size, field_of, weight_in, peers_with, least_threshold, weights_ok, threshold_ok, fields_ok, header_ok}
use Rattle.header.specs.Quorum.{weight_of}
use Rattle.pairs.specs.Pairs.{end_before, starts_at_end, pairs_fit, pairs_ok}
use Rattle.ballot.specs.Item.{read_kind, read_item, is_item, item_at, all_items}
use Rattle.twins.specs.Twins.{differ, new_at, twinless}
use Rattle.ballot.specs.Table.{table_pairs_ok, item_below, items_ok, no_twins, refusal}
use Rattle.clash.specs.Clash.{clash, clash_in}
use Rattle.rules.specs.Table.{clashing}
use Rattle.rules.specs.Bag.{same_entry, is_in, enter, is_full, boards_in}
use Rattle.rules.specs.Form.{all_zero, formed, select, ops, later_ops, read}
use Rattle.rules.specs.Rules.{board_from, add_rows, rule, answer, next, reply, leave}
use Rattle.rules.specs.Ideal.{is_there}
use Rattle.rules.specs.Deed.{deed, deed_of}
use Rattle.rules.specs.Run.{World, backing_named, seen_with, run_from, after, answers_from, by_rules, run}
use Rattle.rules.specs.Outside.{posts_with, receipts_with, boards_with, posts_made, receipts_made, boards_made}
use Rattle.rules.specs.State.{fresh}
use Rattle.rules.proofs.Follows.{as_ruled, answered_as_ruled}
use Rattle.engine.specs.Engine.{rules_table}
use Rattle.figures.specs.Totals.{receipt_count, items_on, totals_in}
use Rattle.text.specs.Decimal.{spelled, decimal, field}
use Rattle.report.specs.Lines.{totals_line}
use Rattle.report.specs.State.{foot}
use Rattle.rehearsal.specs.Input.{table_in, table_there, input_refusal, step_count, call_at}
use Rattle.edges.specs.Tables as tables
use Rattle.edges.specs.Cases.{calls, due, case_r}
use Rattle.guarantee.specs.Demand3.{after_calls}
use Rattle.guarantee.specs.Rehearsed.{calls_in}
use Rattle.guarantee.specs.Totals.{fed_by, totals_made, totals_of_input}
use Rattle.guarantee.specs.TotalsWorked.{figures, none_honest, anything, input_r, TotalsWorked}
use Rattle.guarantee.proofs.Demand3.{bytes_follow}

-- by the rules
pub record Computed : Type 0 where
  pub case_r_lem : totals_made tables.case_r (run (rules_table tables.case_r) (calls case_r)).seen ≡ figures 1 1 1
  pub none-honest : totals_made none_honest (run (rules_table none_honest) (calls anything)).seen ≡ figures 2 1 3
  pub answers : answers_from (by_rules (rules_table none_honest)) fresh (calls anything) ≡ due anything

computed : Computed
unfolding header_size field_of weight_in peers_with weight_of first any every bit member pack number_at part same_bytes read_item read_kind clash_in
    clash add1 add2 add3 add4 set_at weight clashing same_entry is_in enter is_full boards_in all_zero formed select ops later_ops read board_from
    add_rows rule answer next reply leave is_there deed deed_of backing_named seen_with run_from after answers_from posts_with receipts_with
    boards_with posts_made receipts_made boards_made sum how_many receipt_count items_on totals_in
computed = record { case_r_lem = refl; none-honest = refl; answers = refl }

-- the input of case R: its table, its calls, and that it is taken
pub record Input : Type 0 where
  pub case_r_taken_lem : refusal tables.case_r ≡ 0
  pub none_honest_taken : refusal none_honest ≡ 0
  pub taken : input_refusal input_r ≡ 0
  pub table : table_in input_r ≡ tables.case_r
  pub steps : calls_in input_r ≡ calls case_r

pub input : Input
unfolding input_refusal table_in table_there step_count call_at tab refusal header_ok header_size field_of weight_in weights_ok fields_ok threshold_ok
    least_threshold table_pairs_ok pairs_ok pairs_fit starts_at_end end_before item_below items_ok all_items item_at is_item no_twins twinless new_at
    differ read_item read_kind first every number_at part same_bytes weight
input = record { case_r_taken_lem = refl; none_honest_taken = refl; taken = refl; table = refl; steps = refl }

-- so it is on the bytes
on_bytes_lem : (table : List ℕ) → refusal table ≡ 0 → (list : List (List ℕ)) → after_calls table list ≡ run (rules_table table) list
on_bytes_lem table fit list = ap (λ f. f list) (as_ruled (bytes_follow table fit))

case_r_made : totals_made tables.case_r (fed_by tables.case_r (calls case_r)) ≡ figures 1 1 1
case_r_made =
    ap (λ (w : World). totals_made tables.case_r w.seen) (on_bytes_lem tables.case_r input.case_r_taken_lem (calls case_r)) ∙ computed.case_r_lem

of_input : totals_of_input input_r ≡ figures 1 1 1
of_input =
    ap₂ (λ (t : List ℕ) (list : List (List ℕ)). totals_made t (fed_by t list)) input.table input.steps ∙ case_r_made

written : foot (figures 1 1 1) ≡ 116 ∷ 111 ∷ 116 ∷ 97 ∷ 108 ∷ 115 ∷ 32 ∷ 49 ∷ 32 ∷ 49 ∷ 32 ∷ 49 ∷ 10 ∷ 101 ∷ 110 ∷ 100 ∷ 10 ∷ []
unfolding foot totals_line field decimal spelled
written = refl

pub totals_worked : TotalsWorked
totals_worked = record {
  case_r_lem = case_r_made;
  none-honest = ap (λ (w : World). totals_made none_honest w.seen) (on_bytes_lem none_honest input.none_honest_taken (calls anything))
      ∙ computed.none-honest;
  none_honest_taken = input.none_honest_taken;
  none_honest_answers = answered_as_ruled (bytes_follow none_honest input.none_honest_taken) (calls anything) ∙ computed.answers;
  input_taken = input.taken;
  input_foot = ap foot of_input ∙ written;
}
