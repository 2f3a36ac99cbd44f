-- What the field peer holds: one honest peer's part, the shares it gave, and its own heard hashes.
use Rattle.std.specs.Prelude.{ℕ, Bool, false, List, []}
use Rattle.rules.specs.declared.Entry.{Entry}

-- Document 02's office box.
pub record Box : Type 0 where
  -- whether it is down
  pub down : Bool
  -- items held: period, item
  pub held : ℕ → ℕ → Bool
  -- its database: period, item, signer
  pub db : ℕ → ℕ → ℕ → Bool
  -- receipt shares that it gave: period, item
  pub gave : ℕ → ℕ → Bool
  -- p, its open period; P for none
  pub current : ℕ
  -- c, the next period that it backs
  pub to_back : ℕ
  -- the hashes heard, each with its signer, period and board, as they came; at most 256
  pub heard : List Entry

-- all empty, up, counters 0
abbrev pub fresh_box : Box
fresh_box = record
    { down = false; held = λ p x. false; db = λ p x k. false; gave = λ p x. false; current = 0; to_back = 0; heard = [] }

-- the box with one part replaced

abbrev pub box_down : Box → Bool → Box
box_down b v = record
    { down = v; held = b.held; db = b.db; gave = b.gave; current = b.current; to_back = b.to_back; heard = b.heard }

abbrev pub box_held : Box → (ℕ → ℕ → Bool) → Box
box_held b v = record
    { down = b.down; held = v; db = b.db; gave = b.gave; current = b.current; to_back = b.to_back; heard = b.heard }

abbrev pub box_db : Box → (ℕ → ℕ → ℕ → Bool) → Box
box_db b v = record {
  down = b.down;
  held = b.held;
  db = v;
  gave = b.gave;
  current = b.current;
  to_back = b.to_back;
  heard = b.heard;
}

abbrev pub box_gave : Box → (ℕ → ℕ → Bool) → Box
box_gave b v = record
    { down = b.down; held = b.held; db = b.db; gave = v; current = b.current; to_back = b.to_back; heard = b.heard }

abbrev pub box_current : Box → ℕ → Box
box_current b v = record
    { down = b.down; held = b.held; db = b.db; gave = b.gave; current = v; to_back = b.to_back; heard = b.heard }

abbrev pub box_to_back : Box → ℕ → Box
box_to_back b v = record
    { down = b.down; held = b.held; db = b.db; gave = b.gave; current = b.current; to_back = v; heard = b.heard }

abbrev pub box_heard : Box → List Entry → Box
box_heard b v = record
    { down = b.down; held = b.held; db = b.db; gave = b.gave; current = b.current; to_back = b.to_back; heard = v }
