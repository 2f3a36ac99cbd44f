-- The engine on bytes: for any table, state buffer and step, the answer and the buffer after the call.
use Rattle.std.specs.Prelude.{ℕ, cond, List, ◌≡◌, eqb, length, replicate}
use Rattle.base.specs.Refusals.{state, number_of}
use Rattle.header.specs.Header.{head_of}
use Rattle.clash.specs.Clash.{clash_in, RowsOf}
use Rattle.ballot.specs.Table.{refusal}
use Rattle.rules.specs.Form.{Call}
use Rattle.std.specs.Prelude.{Some, None}
use Rattle.rules.specs.Table.{Table}
use Rattle.rules.specs.Form.{read}
use Rattle.rules.specs.Rules.{reply}
use Rattle.state.specs.Layout.{size}
use Rattle.state.specs.Contents.{Contents, contents}
use Rattle.state.specs.Encode.{encode}
use Rattle.header.specs.declared.Head.{Head}
use Rattle.view.specs.View.{table_of, state_of}
use Rattle.view.specs.Effect.{effect_on}
use Rattle.valid.specs.StateOk.{state_ok}

-- a table's bytes as the table of the rules
abbrev pub rules_table : List ℕ → Table
rules_table table = table_of (head_of table) (clash_in table)

-- what is made once of a table that is not refused: its header, and the first of its rows of clashes
pub record Prepared (table : List ℕ) (h : Head) (rows : List ℕ) : Type 0 where
  pub taken : refusal table ≡ 0
  pub head : h ≡ head_of table
  pub clashes : RowsOf table rows

-- what a call that is not refused does to the contents
unfoldable pub leave_on : Table → Contents → Call → Contents
leave_on T c (Some st) = effect_on T c st
leave_on T c None = c

-- step: the table's refusals 1 to 4, then 14, then 5 and on
unfoldable pub step_answer : List ℕ → List ℕ → List ℕ → ℕ
step_answer table s step =
    cond (eqb (refusal table) 0)
    (cond (state_ok (head_of table) s) (reply (rules_table table) (state_of (contents s)) (read step)) (number_of state))
    (refusal table)

-- a refused call alters nothing
unfoldable pub step_bytes : List ℕ → List ℕ → List ℕ → List ℕ
step_bytes table s step =
    cond (eqb (step_answer table s step) 0) (encode (leave_on (rules_table table) (contents s) (read step))) s

-- fresh: the table's refusals 1 to 4, then the buffer's length only
unfoldable pub fresh_answer : List ℕ → List ℕ → ℕ
fresh_answer table s = cond (eqb (refusal table) 0) (cond (eqb (length s) size) 0 (number_of state)) (refusal table)

-- the bytes of the fresh state
unfoldable pub fresh_state : List ℕ
fresh_state = replicate size 0

unfoldable pub fresh_bytes : List ℕ → List ℕ → List ℕ
fresh_bytes table s = cond (eqb (fresh_answer table s) 0) fresh_state s
