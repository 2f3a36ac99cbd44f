-- Case R with clears, computed by the rules of its table, which the engine on bytes follows.
use Prim.Native.Nat.{ℕ}
use mathlib.Core.Bool.{true, false, cond}
use mathlib.Core.List.{List, [], ◌∷◌}
use mathlib.Core.Path.{◌≡◌, refl, sym, ap, ap₂, ◌∙◌}
use mathlib.Core.Logic.{◌⊎◌, inl, inr}
use Rattle.base.specs.Below.{any, every}
use Rattle.base.specs.Bits.{bit, member, pack}
use Rattle.base.specs.Bytes.{number_at, part, same_bytes}
use Rattle.base.specs.Refusals.{first}
use Rattle.base.specs.Sets.{add1, add2, add3, add4, set_at}
use Rattle.base.specs.Sums.{sum}
use Rattle.base.specs.Weight.{weight}
use Rattle.base.proofs.Truth.{either}
use Rattle.header.specs.Header.{header_size, field_of, weight_in, peers_with, head_of}
use Rattle.header.specs.Quorum.{weight_of}
use Rattle.clash.specs.Clash.{clash, clash_in}
use Rattle.rules.specs.Table.{Table, clashing}
use Rattle.rules.specs.Bag.{same_entry, is_in, place_in, enter, is_full, without_hashes, unheard}
use Rattle.rules.specs.State.{State, fresh}
use Rattle.rules.specs.Form.{all_zero, formed, select, ops, later_ops, read}
use Rattle.rules.specs.Backed.{unbacked}
use Rattle.rules.specs.Rules.{board_from, rule, answer, next, reply, leave}
use Rattle.rules.specs.Run.{Engine, by_rules, answers_from}
use Rattle.rules.specs.Follows.{Follows}
use Rattle.rules.proofs.Follows.{answered_as_ruled}
use Rattle.gains.specs.Gain.{is_op, count_of, is_among, different_of, adds, back_of, gain}
use Rattle.growth.specs.Growth.{never_full}
use Rattle.cleared_runs.specs.Cleared.{clears, uncleared, renumber, translated, translated_from}
use Rattle.view.specs.Ready.{Ready}
use Rattle.engine.proofs.States.{state_ready}
use Rattle.engine.specs.Engine.{rules_table, fresh_state}
use Rattle.edges.specs.Tables as tables
use Rattle.edges.specs.Cases.{calls, case_r}
use Rattle.guarantee.specs.Demand3.{by_bytes}
use Rattle.guarantee.proofs.TotalsWorked.{input}
use Rattle.bag_promises.specs.Worked.{cleared_r, BagWorked}
use Rattle.bag_promises.proofs.Clears.{follows}
use Rattle.bag_promises.proofs.Shown.{same_gain}

-- an engine that follows the rules translates as the rules do
module _ {T : Table} {X : Type 0} {E : Engine X} {Ready : X → Type 0} (F : Follows T E Ready) where
  translated_as_ruled : (list : List (List ℕ)) (u v : X) → Ready u → Ready v
      → translated_from E u v list ≡ translated_from (by_rules T) (E.holds u) (E.holds v) list
  unfolding translated_from
  translated_as_ruled [] u v R W = refl
  translated_as_ruled (c ∷ list) u v R W = go (either (clears (read c))) (translated_as_ruled list)
    where
      d : List ℕ
      d = translated (E.holds u).bag (E.holds v).bag c

      go : (clears (read c) ≡ true) ⊎ (clears (read c) ≡ false)
          → ((u v : X) → Ready u → Ready v → translated_from E u v list ≡ translated_from (by_rules T) (E.holds u) (E.holds v) list)
          → d ∷ translated_from E (cond (clears (read c)) u (E.leaves u c)) (E.leaves v d) list
          ≡ d ∷ translated_from (by_rules T) (cond (clears (read c)) (E.holds u) (leave T (E.holds u) (read c)))
          (leave T (E.holds v) (read d)) list
      go (inl e) later = rw e (ap (λ (l : List (List ℕ)). d ∷ l) (later u (E.leaves v d) R (F.stays_ready v W d)
          ∙ ap (λ (s : State). translated_from (by_rules T) (E.holds u) s list) (F.leaves v W d)))
      go (inr e) later = rw e (ap (λ (l : List (List ℕ)). d ∷ l)
          (later (E.leaves u c) (E.leaves v d) (F.stays_ready u R c) (F.stays_ready v W d)
          ∙ ap₂ (λ (r s : State). translated_from (by_rules T) r s list) (F.leaves u R c) (F.leaves v W d)))

abbrev T : Table
T = rules_table tables.case_r

record Computed : Type 0 where
  without-clears : answers_from (by_rules T) fresh (uncleared cleared_r) ≡ (0 ∷ 0 ∷ 0 ∷ 0 ∷ 0 ∷ 0 ∷ 0 ∷ 0 ∷ 0 ∷ [])
  with_clears_lem : answers_from (by_rules T) fresh (translated_from (by_rules T) fresh fresh cleared_r)
      ≡ (0 ∷ 0 ∷ 0 ∷ 0 ∷ 0 ∷ 9 ∷ 0 ∷ 0 ∷ 0 ∷ 10 ∷ 0 ∷ [])
  gains : gain (calls case_r) ≡ 3

computed : Computed
unfolding header_size field_of weight_in peers_with weight_of first any every bit member pack number_at part same_bytes clash_in clash add1 add2
    add3 add4 set_at weight clashing same_entry is_in enter is_full without_hashes all_zero formed select ops later_ops read board_from unheard
    unbacked rule answer next reply leave answers_from clears uncleared place_in renumber translated translated_from is_op count_of is_among
    different_of sum adds back_of gain
computed = record { without-clears = refl; with_clears_lem = refl; gains = refl }

abbrev F : Follows T (by_bytes tables.case_r) (Ready (head_of tables.case_r))
F = follows tables.case_r input.case_r_taken_lem

-- so it is on the bytes

without-clears : answers_from (by_bytes tables.case_r) fresh_state (uncleared cleared_r) ≡ (0 ∷ 0 ∷ 0 ∷ 0 ∷ 0 ∷ 0 ∷ 0 ∷ 0 ∷ 0 ∷ [])
without-clears = answered_as_ruled F (uncleared cleared_r) ∙ computed.without-clears

with_clears_lem : answers_from (by_bytes tables.case_r) fresh_state (translated_from (by_bytes tables.case_r) fresh_state fresh_state cleared_r)
    ≡ (0 ∷ 0 ∷ 0 ∷ 0 ∷ 0 ∷ 9 ∷ 0 ∷ 0 ∷ 0 ∷ 10 ∷ 0 ∷ [])
with_clears_lem =
    answered_as_ruled F (translated_from (by_bytes tables.case_r) fresh_state fresh_state cleared_r)
    ∙ ap (answers_from (by_rules T) fresh)
    (translated_as_ruled F cleared_r fresh_state fresh_state F.starts_ready F.starts_ready
    ∙ ap (λ (s : State). translated_from (by_rules T) s s cleared_r) F.starts_fresh)
    ∙ computed.with_clears_lem

none_full : never_full (0 ∷ 0 ∷ 0 ∷ 0 ∷ 0 ∷ 0 ∷ 0 ∷ 0 ∷ 0 ∷ []) ≡ true
unfolding never_full
none_full = refl

pub bag_worked : BagWorked
bag_worked =
    let R = F.starts_ready in
    record {
      taken = input.case_r_taken_lem;
      state = state_ready tables.case_r fresh_state R;
      never_full_lem = ap never_full without-clears ∙ none_full;
      without-clears = without-clears;
      with_clears_lem = with_clears_lem;
      input_taken = input.taken;
      input_gain = sym (same_gain _) ∙ ap gain input.steps ∙ computed.gains;
    }
