-- Closes of period 0 of the two peers in states that were lent, which no steps lead to: signatures that no database
-- has, and backings, a board and a heard hash of the period that are strays.
use Rattle.std.specs.Prelude.{ℕ, Bool, false, cond, ◌&&◌, List, [], ◌∷◌, ◌++◌, ◌≡◌, eqb}
use Rattle.base.specs.Bytes.{between}
use Rattle.rules.specs.declared.Entry.TheVariants.{Hash, Backing, Board}
use Rattle.rules.specs.declared.Step.TheVariants.{Take, Fetch, SendHash, Hear, Back, Publish}
use Rattle.rules.specs.Bag.{boards_in}
use Rattle.form.specs.Written.{written}
use Rattle.state.specs.declared.Fact.{Fact}
use Rattle.state.specs.declared.Fact.TheVariants.{Posted, Signed, Shared, Receipted, Held, Known, Heard}
use Rattle.state.specs.declared.Number.{Number}
use Rattle.state.specs.declared.Number.TheVariants.{CurrentOf, ToBackOf, DownOf}
use Rattle.state.specs.Contents.{Contents}
use Rattle.state.specs.Encode.{encode}
use Rattle.engine.specs.Engine.{rules_table}
use Rattle.liveness.specs.Union.{union_board}
use Rattle.liveness.specs.Places.{Behaviour, answer_at}
use Rattle.liveness.specs.Lent.{NoTakes}
use Rattle.liveness.specs.InTurn.{CloseInTurn, everyone}
use Rattle.engine.specs.States.{StateOf}
use Rattle.guarantee.specs.Lent.{from_state}
use Rattle.closes.specs.Plan.{Plan}
use Rattle.closes.specs.Runs.{table2, at, among}

-- both peers have closed period 0 and backed none
abbrev pub closed_both : Number → ℕ
closed_both (CurrentOf j) = cond (between 1 j 2) 1 0
closed_both (ToBackOf j) = 0
closed_both (DownOf j) = 0

-- both signatures on item 0 are outside, and no database has one
abbrev pub outside_only : Fact → Bool
outside_only (Posted i) = eqb i 0
outside_only (Signed k p i) = between 1 k 2 && (eqb p 0 && eqb i 0)
outside_only (Shared k p i) = false
outside_only (Receipted p i) = false
outside_only (Held j p i) = false
outside_only (Known j p i k) = false
outside_only (Heard j e) = false

abbrev pub unknown2 : Contents
unknown2 = record { has = outside_only; number = closed_both; bag = [] }

abbrev pub lent_unknown2 : List ℕ
lent_unknown2 = encode unknown2

-- document 02's order, but that peer 1 takes both signatures after the last fetch
abbrev pub takes_between : List (List ℕ)
takes_between =
    written (Fetch 1 2 0)
    ∷ written (Fetch 2 1 0)
    ∷ written (Take 1 1 0 0)
    ∷ written (Take 1 2 0 0)
    ∷ written (SendHash 1 0)  -- of item 0: entry 0
    ∷ written (SendHash 2 0)  -- of no items: entry 1
    ∷ written (Hear 1 0)
    ∷ written (Hear 1 1)
    ∷ written (Hear 2 0)
    ∷ written (Hear 2 1)
    ∷ written (Back 1)  -- 12
    ∷ written (Back 2)  -- 12
    ∷ []

abbrev pub plan_takes : Plan
plan_takes = record {
  listens = everyone;
  fetch_at = among ((0 ∷ 0 ∷ []) ∷ (1 ∷ 0 ∷ []) ∷ []);
  hash_at = at (4 ∷ 5 ∷ []);
  hear_at = among ((6 ∷ 7 ∷ []) ∷ (8 ∷ 9 ∷ []) ∷ []);
  entry = λ j k. at (0 ∷ 1 ∷ []) k;
  back_at = at (10 ∷ 11 ∷ []);
  board = at (1 ∷ 0 ∷ []);
}

-- each database has its peer's signature on item 0; the bag has backings and a board of item 1, and a hash of both
-- items that peer 1 heard
abbrev pub known_apart : Fact → Bool
known_apart (Posted i) = eqb i 0
known_apart (Signed k p i) = false
known_apart (Shared k p i) = false
known_apart (Receipted p i) = false
known_apart (Held j p i) = false
known_apart (Known j p i k) = between 1 j 2 && (eqb p 0 && (eqb i 0 && eqb k j))
known_apart (Heard j e) = eqb j 1 && eqb e 3

abbrev pub strays2 : Contents
strays2 = record {
  has = known_apart;
  number = closed_both;
  bag = Backing 1 0 2 ∷ Backing 2 0 2 ∷ Board 0 2 ∷ Hash 2 0 3 ∷ [];
}

abbrev pub lent_strays2 : List ℕ
lent_strays2 = encode strays2

-- document 02's order
abbrev pub in_turn_lent : List (List ℕ)
in_turn_lent =
    written (Fetch 1 2 0)
    ∷ written (Fetch 2 1 0)
    ∷ written (SendHash 1 0)  -- entry 4
    ∷ written (SendHash 2 0)  -- entry 5
    ∷ written (Hear 1 4)
    ∷ written (Hear 1 5)
    ∷ written (Hear 2 4)
    ∷ written (Hear 2 5)
    ∷ written (Back 1)  -- entry 6
    ∷ written (Back 2)  -- entry 7
    ∷ []

abbrev pub plan_lent : Plan
plan_lent = record {
  listens = everyone;
  fetch_at = among ((0 ∷ 0 ∷ []) ∷ (1 ∷ 0 ∷ []) ∷ []);
  hash_at = at (2 ∷ 3 ∷ []);
  hear_at = among ((4 ∷ 5 ∷ []) ∷ (6 ∷ 7 ∷ []) ∷ []);
  entry = λ j k. at (4 ∷ 5 ∷ []) k;
  back_at = at (8 ∷ 9 ∷ []);
  board = λ k. 1;
}

-- takes of p: the two are accepted, and nobody can back
pub record TakesSpoil (E : Behaviour) : Type 0 where
  pub first_taken : answer_at E [] takes_between 2 ≡ 0
  pub second_taken : answer_at E [] takes_between 3 ≡ 0
  pub first_short : answer_at E [] takes_between 10 ≡ 12
  pub second_short : answer_at E [] takes_between 11 ≡ 12

-- strays: the union's board is published beside the one that was there, which comes first
pub record StraysStay (E : Behaviour) : Type 0 where
  pub union : union_board (rules_table table2) (E.held []) 0 ≡ 1
  pub answer : E.answers ([] ++ in_turn_lent) (written (Publish 6)) ≡ 0
  pub boards : boards_in (E.held (([] ++ in_turn_lent) ++ (written (Publish 6) ∷ []))).bag ≡ (0, 2) ∷ (0, 1) ∷ []

pub record LentWorked : Type 0 where
  -- a close in document 02's order but for the takes, which come of it to nothing: so the clause on takes is needed
  pub unknown_state : StateOf table2 lent_unknown2
  pub unknown_close : CloseInTurn (rules_table table2) (from_state table2 lent_unknown2) [] takes_between 0
  pub unknown_spoilt : TakesSpoil (from_state table2 lent_unknown2)
  -- a close in document 02's order among strays
  pub strays_state : StateOf table2 lent_strays2
  pub strays_close : CloseInTurn (rules_table table2) (from_state table2 lent_strays2) [] in_turn_lent 0
  pub strays_untaken : NoTakes (rules_table table2) (from_state table2 lent_strays2) [] in_turn_lent 0
  pub strays_stay : StraysStay (from_state table2 lent_strays2)
