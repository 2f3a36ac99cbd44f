-- Demand 3 and what follows from it are said of weights. What the rules weigh is what the table's bytes say; and where
-- every weight is 1, in whatever season, the table is one of document 01, by heads, and so are the statements.
use Rattle.std.specs.Prelude.{ℕ, ◌+◌, ◌-◌, ◌*◌, ◌≤◌, ◌<◌, Bool, true, List, ◌≡◌, leb}
use Rattle.base.specs.Bits.{member}
use Rattle.base.specs.Bytes.{byte_at}
use Rattle.base.specs.Weight.{weight, ones, all}
use Rattle.header.specs.Season.{zero_then}
use Rattle.header.specs.Header.{head_of, peers_of, threshold_of, honest_of, periods_of, items_of, weight_in, total_weight}
use Rattle.header.specs.Quorum.{honest_weight}
use Rattle.ballot.specs.Table.{refusal}
use Rattle.clash.specs.Clash.{clash_in}
use Rattle.rules.specs.Table.{Table, weigh, quorum, needed}
use Rattle.engine.specs.Engine.{rules_table}

-- of a table that is taken
pub record WeighedByBytes (table : List ℕ) : Type 0 where
  -- in the third season a peer weighs what its byte says
  pub weights : zero_then table 3 ≡ true → (k : ℕ) → 1 ≤ k → k ≤ peers_of table
      → (rules_table table).weight_of k ≡ byte_at table (7 + k)
  -- all together weigh W; the honest, whose bits are set in the header's two bytes, weigh what their bytes give; and an
  -- item needs honest signers that weigh t plus the honest weight less W
  pub total : weigh (rules_table table) all ≡ total_weight table
  pub honest : honest_weight (head_of table) ≡ weight (weight_in table) (peers_of table) (member (honest_of table))
  pub needs : needed (rules_table table) ≡ threshold_of table + honest_weight (head_of table) - total_weight table

-- how many of the table's peers are in a set, and how many are honest: h
abbrev pub heads : List ℕ → (ℕ → Bool) → ℕ
heads table S = weight ones (peers_of table) S

abbrev pub honest_heads : List ℕ → ℕ
honest_heads table = heads table (member (honest_of table))

-- the table of document 01 that the bytes give: every peer counts as one
abbrev pub heads_table : List ℕ → Table
heads_table table = record {
  n = peers_of table;
  t = threshold_of table;
  honest = member (honest_of table);
  weight_of = ones;
  periods = periods_of table;
  items = items_of table;
  clash = clash_in table;
}

-- the table is taken, and every weight is 1
pub record OnesOnly (table : List ℕ) : Type 0 where
  pub taken : refusal table ≡ 0
  pub ones : (k : ℕ) → 1 ≤ k → k ≤ peers_of table → weight_in table k ≡ 1

-- then it is that of document 01 to the rules: a quorum has t heads, and an item needs t + h - n honest signers
pub record ByHeads (table : List ℕ) : Type 0 where
  pub same : rules_table table ≡ heads_table table
  pub quorums : (S : ℕ → Bool) → quorum (heads_table table) S ≡ leb (threshold_of table) (heads table S)
  pub needs : needed (heads_table table) ≡ threshold_of table + honest_heads table - peers_of table
  -- and 2n < 3t ≤ 3n
  pub above : 2 * peers_of table < 3 * threshold_of table
  pub within : threshold_of table ≤ peers_of table

-- document 01's premise: at least t heads are honest
pub record CountedEnough (table : List ℕ) : Type 0 where
  pub weighs_one : OnesOnly table
  pub honest : threshold_of table ≤ honest_heads table

-- P3's: all are
pub record CountedAll (table : List ℕ) : Type 0 where
  pub weighs_one : OnesOnly table
  pub honest : honest_heads table ≡ peers_of table
