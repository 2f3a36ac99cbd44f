-- P3 of the bytes is not empty: closes of byte tables that are computed, and what comes of them.
use Rattle.std.specs.Prelude.{ℕ, suc, true, List, [], ◌∷◌, ◌++◌, ◌≡◌, eqb}
use Rattle.base.specs.Below.{every}
use Rattle.base.specs.Weight.{weight, ones}
use Rattle.rules.specs.declared.Step.TheVariants.{Back, Publish}
use Rattle.rules.specs.Table.{Table}
use Rattle.rules.specs.Bag.{boards_in}
use Rattle.rules.specs.Rules.{board_by}
use Rattle.form.specs.Written.{written}
use Rattle.engine.specs.Engine.{rules_table}
use Rattle.liveness.specs.Union.{union, union_board}
use Rattle.liveness.specs.Places.{Behaviour}
use Rattle.liveness.specs.Close.{Close}
use Rattle.liveness.specs.InTurn.{CloseInTurn}
use Rattle.liveness.specs.Schedule.{Room, schedule}
use Rattle.guarantee.specs.Liveness.{NoneDishonest, on_bytes}
use Rattle.closes.specs.Runs.{table2, earlier2, later2, in_turn2, table4, earlier4, later4, by_others4, table_w, earlier_w, later_w, light_w}
use Rattle.closes.specs.Needed.{Needed}

-- A close of period 0 whose union's board has item 0 alone, while every peer's own board is empty before; the publish
-- is answered 0, and that board is the only one.
pub record Ends (T : Table) (E : Behaviour) (earlier later : List (List ℕ)) (publish : List ℕ) : Type 0 where
  pub union : union_board T (E.held earlier) 0 ≡ 1
  pub alone : every T.n (λ i. eqb (board_by T (E.held earlier) (suc i) 0) 0) ≡ true
  pub answer : E.answers (earlier ++ later) publish ≡ 0
  pub boards : boards_in (E.held ((earlier ++ later) ++ (publish ∷ []))).bag ≡ (0, 1) ∷ []

-- A close of period 1 in which heads and weights decide differently: item 1 has three signers and is on no board, item
-- 0 has two and is, and two backers that weigh t are enough where three are not.
pub record WeightsDecide (E : Behaviour) : Type 0 where
  pub two-heads : weight ones 4 (union (rules_table table_w) (E.held earlier_w) 1 0) ≡ 2
  pub three-heads : weight ones 4 (union (rules_table table_w) (E.held earlier_w) 1 1) ≡ 3
  pub union : union_board (rules_table table_w) (E.held earlier_w) 1 ≡ 1
  pub alone : every 4 (λ i. eqb (board_by (rules_table table_w) (E.held earlier_w) (suc i) 1) 0) ≡ true
  pub three_short : E.answers (earlier_w ++ light_w) (written (Back 2)) ≡ 12
  pub answer : E.answers (earlier_w ++ later_w) (written (Publish 12)) ≡ 0
  pub boards : boards_in (E.held ((earlier_w ++ later_w) ++ (written (Publish 12) ∷ []))).bag ≡ (1, 1) ∷ []

pub record ClosesWorked : Type 0 where
  -- two peers: the premise on the table, the close, and how it ends
  pub two-honest : NoneDishonest table2
  pub two_close : Close (rules_table table2) (on_bytes table2) earlier2 later2 0
  pub two_ends : Ends (rules_table table2) (on_bytes table2) earlier2 later2 (written (Publish 2))
  -- the same in document 02's order: it is the schedule, for which there is room
  pub two-room : Room (rules_table table2) ((on_bytes table2).held earlier2)
  pub two_scheduled : schedule (rules_table table2) (on_bytes table2) earlier2 0 ≡ in_turn2
  pub two_in_turn : CloseInTurn (rules_table table2) (on_bytes table2) earlier2 in_turn2 0
  pub two_in_turn_ends : Ends (rules_table table2) (on_bytes table2) earlier2 in_turn2 (written (Publish 2))
  -- four peers, three of which are needed
  pub four_honest : NoneDishonest table4
  pub four_close : Close (rules_table table4) (on_bytes table4) earlier4 later4 0
  pub four_ends : Ends (rules_table table4) (on_bytes table4) earlier4 later4 (written (Publish 9))
  -- the same where no peer hears its own hash
  pub by_others_close : Close (rules_table table4) (on_bytes table4) earlier4 by_others4 0
  pub by_others_ends : Ends (rules_table table4) (on_bytes table4) earlier4 by_others4 (written (Publish 4))
  -- peers of weights 4, 1, 1 and 1 in their second period
  pub weights_honest : NoneDishonest table_w
  pub weights_close : Close (rules_table table_w) (on_bytes table_w) earlier_w later_w 1
  pub weights_decide : WeightsDecide (on_bytes table_w)
  -- and what P3 asks is needed
  pub two-needed : Needed (on_bytes table2)
