-- Tables that just meet demand 3's premise: the least threshold for n peers, and only as many honest ones.
use Rattle.std.specs.Prelude.{ℕ, ◌≤◌, true, List, ◌≡◌}
use Rattle.header.specs.Header.{head_of, threshold_of, honest_count, least_threshold}
use Rattle.ballot.specs.Table.{refusal}
use Rattle.clash.specs.Clash.{clash_in}
use Rattle.rules.specs.Table.{Table, weigh}
use Rattle.rules.specs.Demand3.{Premise}
use Rattle.edges.specs.Tables.{two_votes}
use Rattle.edges.specs.Cases.{table}
use Rattle.edges.specs.Threshold.{least_by_table}

-- n peers with the least threshold t, of which the first t are honest; two items, which clash
abbrev pub barely : ℕ → Table
barely n = table n (least_threshold n) (least_threshold n) 1 2

-- what such a table has: it meets the premise, t is at most n, exactly t peers are honest, and some items clash
pub record Barely (n : ℕ) : Type 0 where
  pub premise : Premise (barely n)
  pub in_range_lem : least_threshold n ≤ n
  pub just_enough : weigh (barely n) (barely n).honest ≡ least_threshold n
  pub some_clash : (barely n).clash 0 1 ≡ true

-- the same table as bytes, for up to 16 peers, with document 01's number for t: its two items are votes of one ballot
abbrev pub barely_bytes : ℕ → List ℕ
barely_bytes n = two_votes n (least_by_table n) (least_by_table n)

-- what these bytes have: they are taken, t is the least threshold, exactly t peers are honest, and some items clash
pub record BarelyBytes (n : ℕ) : Type 0 where
  pub taken : refusal (barely_bytes n) ≡ 0
  pub least : threshold_of (barely_bytes n) ≡ least_threshold n
  pub just_enough : honest_count (head_of (barely_bytes n)) ≡ threshold_of (barely_bytes n)
  pub some_clash : clash_in (barely_bytes n) 0 1 ≡ true

pub record PremiseEdges : Type 0 where
  -- the premise can be met with any number of peers
  pub met : (n : ℕ) → 1 ≤ n → Barely n
  -- and by bytes with any number of peers that a table can have
  pub met_by_bytes : (n : ℕ) → 1 ≤ n → n ≤ 16 → BarelyBytes n
