-- What the rules weigh is what the bytes say; and where each peer weighs 1 the table is that of document 01, by heads: by
-- this one equation the statements on weights are those on numbers of peers.
use Prim.Native.Nat.{ℕ, ◌+◌, ◌-◌, ◌≤◌}
use native.Mathlib.Omega.{arith}
use mathlib.Core.Bool.{true, false}
use mathlib.Core.List.{List}
use mathlib.Core.Logic.{◌⊎◌, inl, inr}
use mathlib.Core.Path.{◌≡◌, refl, sym, ap, subst, ◌∙◌}
use borrow.Author.Tests.{not-false}
use Rattle.base.specs.Bits.{member}
use Rattle.base.specs.Bytes.{between}
use Rattle.base.specs.Weight.{weight, ones, all}
use Rattle.base.proofs.Bytes.{between_true}
use Rattle.base.proofs.Refusals.{passed}
use Rattle.base.proofs.Truth.{either}
use Rattle.base.proofs.Weight.{weight_same, weight_ext, weight_full, count-all}
use Rattle.header.specs.Season.{zero_then, season_of, has_weights}
use Rattle.header.specs.Header.{head_of, peers_of, threshold_of, honest_of, periods_of, items_of, weight_count, weight_in, is_honest, honest_in, honest_count, total_weight, header_ok}
use Rattle.header.specs.Quorum.{weight_of, honest_weight}
use Rattle.header.proofs.Ranges.{honest-read}
use Rattle.header.proofs.Weighing.{weight-none}
use Rattle.ballot.specs.Table.{refusal, table_refusals}
use Rattle.ballot.proofs.Sound.{sound}
use Rattle.clash.specs.Clash.{clash_in}
use Rattle.rules.specs.Table.{Table}
use Rattle.engine.specs.Engine.{rules_table}
use Rattle.rehearsal.specs.Input.{table_in, input_refusal}
use Rattle.hall.specs.Hung.{rehearsal_in, hang_answer}
use Rattle.edges.proofs.Weights.{weights_taken, peers_counted}
use Rattle.guarantee.specs.Demand3.{HonestEnough, AlwaysSafeBy}
use Rattle.guarantee.specs.Counted.{WeighedByBytes, honest_heads, heads_table, OnesOnly, ByHeads, CountedEnough, CountedAll}
use Rattle.guarantee.specs.Liveness.{NoneDishonest, BoardsCome, BoardsComeBy}
use Rattle.guarantee.specs.Lent.{BoardsComeLentBy}
use Rattle.guarantee.specs.Once.{SharesOnceBy, ReceiptsOnce, ShownOnce}
use Rattle.guarantee.specs.Rehearsed.{ShownSafeBy}
use Rattle.guarantee.specs.Sheets.{HungTrueBy}
use Rattle.guarantee.proofs.Demand3.{total_weighed, demand_3_on_bytes}
use Rattle.guarantee.proofs.Liveness.{boards_come}
use Rattle.guarantee.proofs.Lent.{boards_come_lent}
use Rattle.guarantee.proofs.Once.{shares_once, receipts_once, shown_once}
use Rattle.guarantee.proofs.Rehearsals.{demand_3_shown}
use Rattle.guarantee.proofs.Sheets.{hung_true}

module _ (table : List ℕ) (fit : refusal table ≡ 0) where
  honest_bits : honest_in (head_of table) ≡ honest_of table
  unfolding refusal
  honest_bits = honest-read table (not-false (header_ok table) (passed (table_refusals table) fit).0)

  -- as many honest peers as the struct says
  pub honest-heads : honest_count (head_of table) ≡ honest_heads table
  honest-heads = ap (λ (set : ℕ). weight ones (peers_of table) (member set)) honest_bits

  honest_weighed : honest_weight (head_of table) ≡ weight (weight_in table) (peers_of table) (member (honest_of table))
  honest_weighed =
      weight_same (weight_of (head_of table)) (weight_in table) (peers_of table) (is_honest (head_of table))
      (λ k l m. (sound table fit).weight-read k)
      ∙ ap (λ (set : ℕ). weight (weight_in table) (peers_of table) (member set)) honest_bits

  pub weighed_by_bytes : WeighedByBytes table
  weighed_by_bytes = record {
    weights = λ third k l m. ((weights_taken table fit).weights third k l m).byte;
    total = total_weighed table fit;
    honest = honest_weighed;
    needs = ap (λ (w : ℕ). threshold_of table + honest_weight (head_of table) - w) (total_weighed table fit);
  }

-- tables of older seasons have no weights
pub older_ones : (table : List ℕ) → refusal table ≡ 0 → zero_then table 3 ≡ false → OnesOnly table
older_ones table fit older = record {
  taken = fit;
  ones = λ k l m. sym ((sound table fit).weight-read k) ∙ (peers_counted table fit older).ones k;
}

-- there are no more weights than peers
weights_most : (table : List ℕ) → weight_count table ≤ peers_of table
weights_most table = go (either (has_weights (season_of table)))
  where
    go : (has_weights (season_of table) ≡ true) ⊎ (has_weights (season_of table) ≡ false) → weight_count table ≤ peers_of table
    go (inl e) = rw e (omega arith)
    go (inr e) = rw e (omega arith)

module _ (table : List ℕ) (O : OnesOnly table) where
  -- no weight stands for a number that is no peer's
  each-weight : (k : ℕ) → weight_in table k ≡ 1
  each-weight k = go (either (between 1 k (weight_count table)))
    where
      go : (between 1 k (weight_count table) ≡ true) ⊎ (between 1 k (weight_count table) ≡ false) → weight_in table k ≡ 1
      go (inl e) = let b = between_true 1 k (weight_count table) e in O.ones k b.0 (omega (arith, b.1, weights_most table))
      go (inr e) = weight-none table k e

  weighs_one : (k : ℕ) → weight_of (head_of table) k ≡ 1
  weighs_one k = (sound table O.taken).weight-read k ∙ each-weight k

  -- the equation
  as_heads : rules_table table ≡ heads_table table
  as_heads = λ i. record {
    n = peers_of table;
    t = threshold_of table;
    honest = member (honest_bits table O.taken i);
    weight_of = λ k. weighs_one k i;
    periods = periods_of table;
    items = items_of table;
    clash = clash_in table;
  }

  -- so what holds of the rules' table holds of that one
  counted : (P : Table → Type 0) → P (rules_table table) → P (heads_table table)
  counted P = subst P as_heads

  honest_counted : honest_weight (head_of table) ≡ honest_heads table
  honest_counted = (weighed_by_bytes table O.taken).honest
      ∙ weight_same (weight_in table) ones (peers_of table) (member (honest_of table)) (λ k l m. each-weight k)

  total_counted : total_weight table ≡ peers_of table
  total_counted = weight_same (weight_in table) ones (peers_of table) all (λ k l m. each-weight k) ∙ count-all (peers_of table)

  pub by_heads : ByHeads table
  by_heads = record {
    same = as_heads;
    quorums = λ S. refl;
    needs = ap (λ (n : ℕ). threshold_of table + honest_heads table - n) (count-all (peers_of table));
    above = omega (arith, (sound table O.taken).threshold_rule, total_counted);
    within = omega (arith, (sound table O.taken).threshold_most, total_counted);
  }

-- at least t heads are honest

module _ (table : List ℕ) (E : CountedEnough table) where
  pub enough : HonestEnough table
  enough = record { taken = E.weighs_one.taken; honest = omega (arith, E.honest, honest_counted table E.weighs_one) }

  pub demand_3_counted : AlwaysSafeBy (heads_table table) table
  demand_3_counted = counted table E.weighs_one (λ T. AlwaysSafeBy T table) (demand_3_on_bytes table enough)

  pub shares_once_counted : SharesOnceBy (heads_table table) table
  shares_once_counted = counted table E.weighs_one (λ T. SharesOnceBy T table) (shares_once table)

  pub receipts_once_counted : ReceiptsOnce table
  receipts_once_counted = receipts_once table enough

-- and so in a report, and on a sheet

module _ (input : List ℕ) (fit : input_refusal input ≡ 0) (E : CountedEnough (table_in input)) where
  pub shown_once_counted : ShownOnce input
  shown_once_counted = shown_once input fit (enough (table_in input) E).honest

  pub demand_3_shown_counted : ShownSafeBy (heads_table (table_in input)) input
  demand_3_shown_counted = counted (table_in input) E.weighs_one (λ T. ShownSafeBy T input)
      (demand_3_shown input fit (enough (table_in input) E).honest)

pub hung_true_counted : (input : List ℕ) → hang_answer input ≡ 0 → CountedEnough (table_in (rehearsal_in input))
    → HungTrueBy (heads_table (table_in (rehearsal_in input))) input
hung_true_counted input zero E =
    let table = table_in (rehearsal_in input) in
    counted table E.weighs_one (λ T. HungTrueBy T input) (hung_true input zero (enough table E).honest)

-- if as many peers are honest as there are, in whatever season, then all weight is honest, and boards come
module _ (table : List ℕ) (fit : refusal table ≡ 0) (everyone : honest_heads table ≡ peers_of table) where
  each-honest : (k : ℕ) → 1 ≤ k → k ≤ peers_of table → member (honest_of table) k ≡ true
  each-honest = weight_full ones (member (honest_of table)) (peers_of table) (λ k. omega arith) (everyone ∙ sym (count-all (peers_of table)))

  pub none_dishonest : NoneDishonest table
  none_dishonest = record {
    taken = fit;
    honest = honest_weighed table fit ∙ weight_ext (weight_in table) (peers_of table) (member (honest_of table)) all each-honest;
  }

  pub boards_come_all : BoardsCome table
  boards_come_all = boards_come table none_dishonest

-- and where every weight is 1, by heads
module _ (table : List ℕ) (E : CountedAll table) where
  none : NoneDishonest table
  none = none_dishonest table E.weighs_one.taken E.honest

  pub boards_come_counted : BoardsComeBy (heads_table table) table
  boards_come_counted = counted table E.weighs_one (λ T. BoardsComeBy T table) (boards_come table none)

  pub boards_come_lent_counted : BoardsComeLentBy (heads_table table) table
  boards_come_lent_counted = counted table E.weighs_one (λ T. BoardsComeLentBy T table) (boards_come_lent table none)
