-- The thirteen bytes that a step is written as: op, peer, other, period, item (also entry number), and the board in
-- eight bytes, high byte first.
use Rattle.std.specs.Prelude.{ℕ, ◌/◌, ◌%◌, ◌^◌, ◌<◌, List, [], ◌∷◌, ◌≡◌}
use Rattle.base.specs.Bytes.{byte_at, number_at}
use Rattle.rules.specs.declared.Step.{Step}
use Rattle.std.specs.Prelude.{Some}
use Rattle.rules.specs.Form.{read}
use Rattle.rules.specs.declared.Fields.{Fields}
use Rattle.rules.specs.Fields.{of, fields}

-- the fields that thirteen bytes hold
abbrev pub held : List ℕ → Fields
held s = of (byte_at s 0) (byte_at s 1) (byte_at s 2) (byte_at s 3) (byte_at s 4) (number_at s 5 8)

-- byte i of a board, counted from its low end
abbrev pub board_byte : ℕ → ℕ → ℕ
board_byte B i = B / 256 ^ i % 256

-- the thirteen bytes of these fields
abbrev pub bytes_of : Fields → List ℕ
bytes_of f =
    f.op ∷ f.peer ∷ f.other ∷ f.period ∷ f.item
    ∷ board_byte f.board 7 ∷ board_byte f.board 6 ∷ board_byte f.board 5 ∷ board_byte f.board 4
    ∷ board_byte f.board 3 ∷ board_byte f.board 2 ∷ board_byte f.board 1 ∷ board_byte f.board 0 ∷ []

-- the thirteen bytes that a step is written as
abbrev pub written : Step → List ℕ
written st = bytes_of (fields st)

-- bytes say a step exactly if they are those that it is written as; a board is a number of 64 bits
pub record BothWays (s : List ℕ) (st : Step) : Type 0 where
  pub reads : s ≡ written st → (fields st).board < 2 ^ 64 → read s ≡ Some st
  pub writes : read s ≡ Some st → (s ≡ written st) × ((fields st).board < 2 ^ 64)
