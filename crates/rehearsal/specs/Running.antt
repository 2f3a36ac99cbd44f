-- What the steps of a rehearsal are run with, and what holds while they run.
use Rattle.std.specs.Prelude.{ℕ, ◌+◌, ◌≤◌, List, ◌≡◌, length}
use Rattle.ballot.specs.Table.{refusal}
use Rattle.header.specs.declared.Head.{Head}
use Rattle.text.specs.declared.Printer.{Printer}
use Rattle.text.specs.Wrote.{Put, each}
use Rattle.engine.specs.Engine.{Prepared}
use Rattle.rehearsal.specs.Input.{input_most, table_end, table_in}
use Rattle.rehearsal.specs.Rehearsal.{state_at, step_at}

-- an input that is not refused
pub record Taken (input : List ℕ) : Type 0 where
  pub few : length input ≤ input_most
  pub there : table_end input ≤ length input
  pub table : refusal (table_in input) ≡ 0

-- what is made once of the input: its table, and what is made of that
pub record Made (input table : List ℕ) (h : Head) (rows : List ℕ) : Type 0 where
  pub taken : Taken input
  pub cut : table ≡ table_in input
  pub prepared : Prepared table h rows

-- the first k steps were run, and their lines written: s is the state
pub record Ran (input : List ℕ) (k : ℕ) (s : List ℕ) (was is : Printer) : Type 0 where
  pub state : s ≡ state_at input k
  pub lines : Put was (each (step_at input) k) is

-- step k was run, and its line written
pub record RanOne (input : List ℕ) (k : ℕ) (s : List ℕ) (was is : Printer) : Type 0 where
  pub state : s ≡ state_at input (k + 1)
  pub line : Put was (step_at input k) is
