-- The totals of worked runs: of case R, as calls and as a rehearsal's input, and of a run in which no peer is honest.
use Rattle.std.specs.Prelude.{ℕ, List, [], ◌∷◌, ◌++◌, ◌≡◌}
use Rattle.figures.specs.declared.Totals.{Totals}
use Rattle.report.specs.State.{foot}
use Rattle.ballot.specs.Table.{refusal}
use Rattle.rules.specs.Run.{answers_from}
use Rattle.engine.specs.Engine.{fresh_state}
use Rattle.edges.specs.Tables as tables
use Rattle.edges.specs.Cases.{Worked, bytes, calls, due, case_r}
use Rattle.rehearsal.specs.Input.{input_refusal}
use Rattle.guarantee.specs.Demand3.{by_bytes}
use Rattle.guarantee.specs.Totals.{fed_by, totals_made, totals_of_input}

abbrev pub figures : ℕ → ℕ → ℕ → Totals
figures a b c = record { posts = a; receipts = b; items = c }

-- one peer, which is not honest, and two items
abbrev pub none_honest : List ℕ
none_honest = tables.two_votes 1 1 0

-- steps that are refused or repeated, a hash, and two boards of one period, each call with its answer
abbrev pub anything : Worked
anything =
    (bytes 1 0 0 0 0 0, 0)  -- post 0
    ∷ (bytes 1 0 0 0 0 0, 0)  -- post 0
    ∷ (bytes 1 0 0 0 1 0, 0)  -- post 1
    ∷ (bytes 1 0 0 0 2 0, 6)  -- post 2
    ∷ (bytes 14 1 0 0 0 0, 0)  -- false share 1 0 0
    ∷ (bytes 6 0 0 0 0 0, 0)  -- receipt 0 0
    ∷ (bytes 6 0 0 0 0 0, 0)  -- receipt 0 0
    ∷ (bytes 6 0 0 0 1 0, 12)  -- receipt 0 1
    ∷ (bytes 15 1 0 0 0 3, 0)  -- false hash 1 0 board of items 0 and 1
    ∷ (bytes 16 1 0 0 0 1, 0)  -- false backing 1 0 board of item 0
    ∷ (bytes 12 0 0 0 1 0, 0)  -- publish entry 1
    ∷ (bytes 12 0 0 0 1 0, 0)  -- publish entry 1
    ∷ (bytes 16 1 0 0 0 3, 0)  -- false backing 1 0 board of items 0 and 1
    ∷ (bytes 12 0 0 0 3 0, 0)  -- publish entry 3
    ∷ []

-- a rehearsal's input: a table and its steps, one after the other
abbrev pub joined : List (List ℕ) → List ℕ
joined [] = []
joined (c ∷ rest) = c ++ joined rest

abbrev pub input_r : List ℕ
input_r = tables.case_r ++ joined (calls case_r)

pub record TotalsWorked : Type 0 where
  pub case_r_lem : totals_made tables.case_r (fed_by tables.case_r (calls case_r)) ≡ figures 1 1 1
  pub none-honest : totals_made none_honest (fed_by none_honest (calls anything)) ≡ figures 2 1 3
  pub none_honest_taken : refusal none_honest ≡ 0
  pub none_honest_answers : answers_from (by_bytes none_honest) fresh_state (calls anything) ≡ due anything
  -- document 02's line, and `end`: case R is an input that is not refused
  pub input_taken : input_refusal input_r ≡ 0
  pub input_foot : foot (totals_of_input input_r)
      ≡ 116 ∷ 111 ∷ 116 ∷ 97 ∷ 108 ∷ 115 ∷ 32 ∷ 49 ∷ 32 ∷ 49 ∷ 32 ∷ 49 ∷ 10 ∷ 101 ∷ 110 ∷ 100 ∷ 10 ∷ []
