-- The worked rehearsals, computed by the rules, which the engine on bytes follows.
use Prim.Native.Nat.{ℕ}
use native.Mathlib.Omega.{arith}
use mathlib.Core.Bool.{true, false}
use mathlib.Core.List.{List, [], ◌∷◌}
use mathlib.Core.Path.{◌≡◌, refl, sym, ap, ◌∙◌}
use Rattle.base.specs.Below.{any, every}
use Rattle.base.specs.Bits.{bit, member, pack}
use Rattle.base.specs.Bytes.{number_at, part, same_bytes}
use Rattle.base.specs.Refusals.{first}
use Rattle.base.specs.Sets.{add1, add2, add3, add4, set_at}
use Rattle.base.specs.Weight.{weight}
use Rattle.header.specs.Header.{header_size, field_of, weight_in, peers_with, least_threshold, weights_ok, threshold_ok, fields_ok, header_ok}
use Rattle.header.specs.Quorum.{weight_of}
use Rattle.pairs.specs.Pairs.{end_before, starts_at_end, pairs_fit, pairs_ok}
use Rattle.twins.specs.Twins.{differ, new_at, twinless}
use Rattle.ballot.specs.Item.{read_kind, read_item, is_item, item_at, all_items}
use Rattle.ballot.specs.Table.{table_pairs_ok, item_below, items_ok, no_twins, refusal}
use Rattle.clash.specs.Clash.{clash, clash_in}
use Rattle.rules.specs.Table.{clashing}
use Rattle.rules.specs.Bag.{same_entry, is_in, enter, is_full}
use Rattle.rules.specs.Form.{all_zero, formed, select, ops, later_ops, read}
use Rattle.rules.specs.Rules.{board_from, add_rows, rule, answer, next, reply, leave}
use Rattle.rules.specs.Run.{store_from, by_rules}
use Rattle.engine.specs.Engine.{rules_table}
use Rattle.text.specs.Wrote.{each}
use Rattle.text.specs.Decimal.{spelled, decimal, field}
use Rattle.report.specs.Lines.{refused_line}
use Rattle.rehearsal.specs.Input.{table_in, table_there, input_refusal, step_count, call_at}
use Rattle.edges.specs.Tables as tables
use Rattle.guarantee.specs.TotalsWorked.{input_r}
use Rattle.guarantee.proofs.Demand3.{bytes_follow}
use Rattle.dropping.specs.Kept.{Kept, every_step, without, lost, kept_calls}
use Rattle.dropping.specs.Passes.{spare, tried, tried_below, passes, left}
use Rattle.dropping.specs.Runs.{last_answer}
use Rattle.dropping.proofs.Rules.{answers_ruled}
use Rattle.trials.specs.Answers.{last_step, answer_in, steps_left}
use Rattle.shrinking.specs.Shrunk.{clean, shrink_refusal, number_line, kept_line, shrunk}
use Rattle.shrinking.proofs.Judged.{input_first, then_clean, then_left}
use Rattle.shrinking.specs.Worked.{late_share, says_clean, ShrunkWorked}

-- the last answers by the rules, and so on the bytes
abbrev ruled : List ℕ → Kept → ℕ
ruled input = last_answer (by_rules (rules_table (table_in input))) (call_at input) (last_step input)

as_ruled : (input : List ℕ) → refusal (table_in input) ≡ 0 → answer_in input ≡ ruled input
unfolding answer_in
as_ruled input fit = answers_ruled (bytes_follow (table_in input) fit) (call_at input) (last_step input)

-- the inputs and their tables are taken, and what is no input
pub record Inputs : Type 0 where
  pub late_share_lem : (input_refusal late_share ≡ 0) × (refusal (table_in late_share) ≡ 0) × (step_count late_share ≡ 7)
  pub case_r_lem : (input_refusal input_r ≡ 0) × (refusal (table_in input_r) ≡ 0) × (step_count input_r ≡ 10)
  pub no_steps : (input_refusal tables.case_r ≡ 0) × (step_count tables.case_r ≡ 0)
  pub no_table : input_refusal [] ≡ 1

inputs : Inputs
unfolding input_refusal table_in table_there step_count refusal header_ok header_size field_of weight_in weights_ok fields_ok threshold_ok
    least_threshold table_pairs_ok pairs_ok pairs_fit starts_at_end end_before item_below items_ok all_items item_at is_item no_twins twinless new_at
    differ read_item read_kind first every number_at part same_bytes weight
inputs = record {
  late_share_lem = (refl, refl, refl);
  case_r_lem = (refl, refl, refl);
  no_steps = (refl, refl);
  no_table = refl;
}

-- what the rules give
pub record Computed : Type 0 where
  pub last_refused : ruled late_share every_step ≡ 9
  pub last_taken : ruled input_r every_step ≡ 0
  pub printed : each (kept_line (left (ruled late_share) (last_step late_share))) (step_count late_share) ≡ 54 ∷ 10 ∷ 55 ∷ 10 ∷ []
  pub clean_line : refused_line 18 ≡ says_clean
  pub header_line : refused_line 1 ≡ 114 ∷ 101 ∷ 102 ∷ 117 ∷ 115 ∷ 101 ∷ 100 ∷ 32 ∷ 49 ∷ 10 ∷ []

computed : Computed
unfolding table_in step_count call_at header_size field_of item_below read_item read_kind first any every bit member pack number_at part same_bytes
    clash_in clash weight_in peers_with weight_of weight add1 add2 add3 add4 set_at clashing same_entry is_in enter is_full all_zero formed select
    ops later_ops read board_from add_rows rule answer next reply leave store_from without lost kept_calls spare tried tried_below passes left
    last_answer each spelled decimal field refused_line number_line kept_line end_before
computed = record { last_refused = refl; last_taken = refl; printed = refl; clean_line = refl; header_line = refl }

-- so it is on the bytes

late_ruled : answer_in late_share ≡ ruled late_share
late_ruled = as_ruled late_share inputs.late_share_lem.1

late_refused : clean late_share ≡ false
unfolding clean
late_refused =
    let last = ap (λ (answer : Kept → ℕ). answer every_step) late_ruled ∙ computed.last_refused in
    rw (inputs.late_share_lem.2, last) refl

late_printed : each (kept_line (steps_left late_share)) (step_count late_share) ≡ 54 ∷ 10 ∷ 55 ∷ 10 ∷ []
unfolding steps_left
late_printed =
    ap (λ (answer : Kept → ℕ). each (kept_line (left answer (last_step late_share))) (step_count late_share)) late_ruled ∙ computed.printed

r_clean : clean input_r ≡ true
unfolding clean
r_clean =
    let last = ap (λ (answer : Kept → ℕ). answer every_step) (as_ruled input_r inputs.case_r_lem.1) ∙ computed.last_taken in
    rw (inputs.case_r_lem.2, last) refl

none-clean : clean tables.case_r ≡ true
unfolding clean
none-clean = rw inputs.no_steps.1 refl

late_taken : shrink_refusal late_share ≡ 0
unfolding shrink_refusal
late_taken = rw (inputs.late_share_lem.0, late_refused) refl

no_input : shrunk [] ≡ 114 ∷ 101 ∷ 102 ∷ 117 ∷ 115 ∷ 101 ∷ 100 ∷ 32 ∷ 49 ∷ 10 ∷ []
no_input = sym (input_first [] (λ e. omega (arith, inputs.no_table, e))) ∙ ap refused_line inputs.no_table ∙ computed.header_line

pub shrunk_worked : ShrunkWorked
shrunk_worked = record {
  not-refused = late_taken;
  late_share_lem = sym (then_left late_share inputs.late_share_lem.0 late_refused) ∙ late_printed;
  case_r_lem = sym (then_clean input_r inputs.case_r_lem.0 r_clean) ∙ computed.clean_line;
  no_steps = sym (then_clean tables.case_r inputs.no_steps.0 none-clean) ∙ computed.clean_line;
  no_table = no_input;
}
