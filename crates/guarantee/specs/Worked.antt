-- Demand 3 of the bytes is not empty: byte tables that just meet its premise, and worked runs of the engine on bytes.
use Rattle.std.specs.Prelude.{ℕ, ◌≤◌, true, List, [], ◌∷◌}
use Rattle.engine.specs.Engine.{rules_table}
use Rattle.edges.specs.Tables as tables
use Rattle.edges.specs.Premise.{barely_bytes}
use Rattle.edges.specs.Seasons.{two_places}
use Rattle.rules.specs.Demand3.{Safe}
use Rattle.edges.specs.Cases.{Worked, calls, case_r, two_faced}
use Rattle.edges.specs.TwoDays.{slip_table, slip_on_two_days}
use Rattle.edges.specs.Weighted.{ones_places, carry_table, weights_carry, clash_table, weights_lie, weights_hold}
use Rattle.edges.specs.Worked.{Ends, Ideally}
use Rattle.guarantee.specs.Demand3.{HonestEnough, by_bytes, after_calls}
use Rattle.guarantee.specs.Counted.{CountedEnough, CountedAll}

-- tables of bytes that meet the premise
pub record BytesMeet : Type 0 where
  -- with any number of peers that a table can have, the least threshold t for them, and exactly t honest ones
  pub barely_met : (n : ℕ) → 1 ≤ n → n ≤ 16 → HonestEnough (barely_bytes n)
  pub case_r_met : HonestEnough tables.case_r
  -- and a table of the second season, in which two items clash by their places alone
  pub places_met : HonestEnough two_places
  -- and one of three periods
  pub slip_met : HonestEnough slip_table
  -- and tables of weights, with fewer honest peers than t: four of them, and two
  pub carry_met : HonestEnough (carry_table 15)
  pub two_carry_met : HonestEnough (carry_table 3)
  pub hold_met : HonestEnough (clash_table 3)

-- tables of bytes in which every weight is 1 and that meet document 01's premise, by heads: in the first season with
-- any number of peers, in the second, and in the third; and one whose peers are all honest
pub record HeadsMeet : Type 0 where
  pub barely_met : (n : ℕ) → 1 ≤ n → n ≤ 16 → CountedEnough (barely_bytes n)
  pub places_met : CountedEnough two_places
  pub ones_met : CountedEnough ones_places
  pub case_r_all : CountedAll tables.case_r

-- a run of the engine on bytes: its answers, what a report of it lists, and the ideal board beside it, with each move
-- allowed
pub record RunsTo (table : List ℕ) (w : Worked) (signers : List (ℕ × ℕ × ℕ × ℕ))
    (receipts boards : List (ℕ × ℕ)) : Type 0 where
  pub ends : Ends (rules_table table) (by_bytes table) w signers receipts boards
  pub ideally : Ideally (rules_table table) (by_bytes table) w receipts boards true

-- a run on a table whose honest peers weigh less than t: its answers and what a report of it lists, and that it is not
-- safe
pub record RunsUnsafe (table : List ℕ) (w : Worked) (signers : List (ℕ × ℕ × ℕ × ℕ))
    (receipts boards : List (ℕ × ℕ)) : Type 0 where
  pub ends : Ends (rules_table table) (by_bytes table) w signers receipts boards
  pub unsafe : Safe (rules_table table) (after_calls table) (calls w) → ⊥

pub record BytesRun : Type 0 where
  -- document 01's case R, on its fifteen-byte table
  pub case_r_lem : RunsTo tables.case_r case_r ((1, 0, 0, 1) ∷ []) ((0, 0) ∷ []) ((0, 1) ∷ [])
  -- four peers of which one is two-faced, on a table that just meets the premise
  pub two_faced_lem : RunsTo (barely_bytes 4) two_faced ((1, 0, 0, 3) ∷ (2, 0, 0, 3) ∷ (3, 0, 0, 3) ∷ (3, 0, 1, 2) ∷ [])
      ((0, 0) ∷ []) ((0, 1) ∷ [])
  -- the same calls on the table of the second season: of two audits from two places one is receipted and published
  pub two_places_lem : RunsTo two_places two_faced ((1, 0, 0, 3) ∷ (2, 0, 0, 3) ∷ (3, 0, 0, 3) ∷ (3, 0, 1, 2) ∷ [])
      ((0, 0) ∷ []) ((0, 1) ∷ [])
  -- a slip posted on two days: it is on both boards, and has one receipt
  pub slip_on_two_days_lem : RunsTo slip_table slip_on_two_days
      ((1, 0, 0, 3) ∷ (1, 1, 0, 3) ∷ (1, 1, 1, 3) ∷ (2, 0, 0, 3) ∷ (2, 1, 0, 3) ∷ (2, 1, 1, 3)
      ∷ (3, 0, 0, 3) ∷ (3, 1, 0, 3) ∷ (3, 1, 1, 3) ∷ [])
      ((0, 0) ∷ (1, 1) ∷ []) ((0, 1) ∷ (1, 3) ∷ [])
  -- peers of weights 4, 1, 1 and 1 with threshold 5: two of them carry a vote, three do not carry an audit
  pub weights_carry_lem : RunsTo (carry_table 15) weights_carry
      ((1, 0, 0, 2) ∷ (2, 0, 0, 2) ∷ (2, 0, 1, 3) ∷ (3, 0, 0, 2) ∷ (3, 0, 1, 3) ∷ (4, 0, 0, 2) ∷ (4, 0, 1, 3) ∷ [])
      ((0, 0) ∷ []) ((0, 1) ∷ [])
  -- two of four heads that weigh t are enough: of two clashing votes one is receipted and published
  pub weights_hold_lem : RunsTo (clash_table 3) weights_hold ((1, 0, 0, 2) ∷ (2, 0, 0, 2) ∷ (2, 0, 1, 3) ∷ [])
      ((0, 0) ∷ []) ((0, 1) ∷ [])
  -- three of four that weigh less are not: both are receipted
  pub weights_lie_lem : RunsUnsafe (clash_table 14) weights_lie ((2, 0, 0, 2) ∷ (3, 0, 1, 2) ∷ [])
      ((0, 0) ∷ (0, 1) ∷ []) []
