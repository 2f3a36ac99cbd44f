-- What an engine that reads tables as an older one did answers to a step, and what it leaves; that tables which are not
-- newer than it are answered so still; and that weights which are all 1 change nothing.
use Rattle.std.specs.Prelude.{ℕ, Bool, cond, List, ◌≡◌, eqb}
use Rattle.base.specs.Refusals.{state, number_of}
use Rattle.header.specs.declared.Head.{Head}
use Rattle.rules.specs.Form.{read}
use Rattle.rules.specs.Rules.{reply}
use Rattle.state.specs.Contents.{contents}
use Rattle.state.specs.Encode.{encode}
use Rattle.view.specs.View.{table_of, state_of}
use Rattle.valid.specs.StateOk.{state_ok}
use Rattle.engine.specs.Engine.{leave_on, step_answer, step_bytes}
use Rattle.edges.specs.Seasons.{Seen, first_engine, second_engine, StartsWith0, StartsWith03}

-- `step_answer` and `step_bytes` by what they see of a table: its refusal, its header and its clashes

abbrev pub answer_seeing : ℕ → Head → (ℕ → ℕ → Bool) → List ℕ → List ℕ → ℕ
answer_seeing refused h clash s step =
    cond (eqb refused 0)
    (cond (state_ok h s) (reply (table_of h clash) (state_of (contents s)) (read step)) (number_of state))
    refused

abbrev pub bytes_seeing : ℕ → Head → (ℕ → ℕ → Bool) → List ℕ → List ℕ → List ℕ
bytes_seeing refused h clash s step =
    cond (eqb (answer_seeing refused h clash s step) 0) (encode (leave_on (table_of h clash) (contents s) (read step))) s

-- those of an engine that sees tables as an older one did

abbrev pub old_answer : Seen → List ℕ → List ℕ → List ℕ → ℕ
old_answer old table = answer_seeing (old.refusal table) (old.head_of table) (old.clash_in table)

abbrev pub old_bytes : Seen → List ℕ → List ℕ → List ℕ → List ℕ
old_bytes old table = bytes_seeing (old.refusal table) (old.head_of table) (old.clash_in table)

pub record OldEngine (old : Seen) (Newer : List ℕ → Type 0) : Type 0 where
  -- it answers every step on a table that is newer than it with 1, header
  pub refuses : (table s step : List ℕ) → Newer table → old_answer old table s step ≡ 1
  -- and on every other table the engine answers as that one, and leaves the bytes that it leaves
  pub answers : (table s step : List ℕ) → (Newer table → ⊥) → step_answer table s step ≡ old_answer old table s step
  pub leaves : (table s step : List ℕ) → (Newer table → ⊥) → step_bytes table s step ≡ old_bytes old table s step

pub record OldEngines : Type 0 where
  pub first : OldEngine first_engine StartsWith0
  pub second : OldEngine second_engine StartsWith03

-- on a table in which every weight is 1 a step answers, and leaves, what it does on the one of the second season with
-- the same fields, whatever state and step are lent
pub record StepsAsSecond (table other : List ℕ) : Type 0 where
  pub answers : (s step : List ℕ) → step_answer table s step ≡ step_answer other s step
  pub leaves : (s step : List ℕ) → step_bytes table s step ≡ step_bytes other s step
