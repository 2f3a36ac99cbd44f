-- What is promised of the field peer is not empty: case R of document 01, on its fifteen-byte table, with the box of
-- its peer beside it. docs/FIELD.md has the same bytes.
use Rattle.std.specs.Prelude.{ℕ, true, List, [], ◌∷◌, ◌≡◌, replicate}
use Rattle.ballot.specs.Table.{refusal}
use Rattle.rules.specs.Valid.{Peer}
use Rattle.engine.specs.Engine.{rules_table, fresh_state}
use Rattle.edges.specs.Tables as tables
use Rattle.edges.specs.Cases.{calls, case_r}
use Rattle.guarantee.specs.Demand3.{by_bytes}
use Rattle.field_rules.specs.Message.{handed, told, signs, shares, closes, hashes, backs}
use Rattle.field_runs.specs.Beside.{messages}
use Rattle.field_state.specs.Layout.{size}
use Rattle.field_promises.specs.Fed.{Zeros, field_replies, neither_full_on}

abbrev pub table : List ℕ
table = tables.case_r

-- the box's fresh bytes, and an output of 13 bytes that are 7
abbrev pub zeros : List ℕ
zeros = replicate size 0

abbrev pub out : List ℕ
out = 7 ∷ 7 ∷ 7 ∷ 7 ∷ 7 ∷ 7 ∷ 7 ∷ 7 ∷ 7 ∷ 7 ∷ 7 ∷ 7 ∷ 7 ∷ []

-- thirteen bytes of which these six are not the middle of a board: op, peer, period, item, the board's low byte
abbrev pub sends : ℕ → ℕ → ℕ → ℕ → ℕ → List ℕ
sends op j p x B = op ∷ j ∷ 0 ∷ p ∷ x ∷ 0 ∷ 0 ∷ 0 ∷ 0 ∷ 0 ∷ 0 ∷ 0 ∷ B ∷ []

pub record FieldWorked : Type 0 where
  -- the premises are met
  pub taken : refusal table ≡ 0
  pub peer : Peer (rules_table table) 1
  pub honest : (rules_table table).honest 1 ≡ true
  pub fresh : Zeros zeros
  pub roomy : neither_full_on table 1 out fresh_state zeros (calls case_r) ≡ true
  -- post, receipt and publish pass nothing; seven messages are left
  pub passed : messages (rules_table table) 1 (by_bytes table) fresh_state (calls case_r)
      ≡ (handed 0 ∷ signs 0 ∷ shares 0 ∷ closes ∷ hashes 0 ∷ told 1 0 1 ∷ backs ∷ [])
  -- each answer of the C functions, and the output after it
  pub replies : field_replies table 1 out zeros
      (messages (rules_table table) 1 (by_bytes table) fresh_state (calls case_r))
      ≡ ((0, out) ∷ (0, sends 3 1 0 0 0) ∷ (0, sends 5 1 0 0 0) ∷ (0, sends 0 0 0 0 0) ∷ (0, sends 9 1 0 0 1) ∷ (0, out)
      ∷ (0, sends 11 1 0 0 1) ∷ [])
