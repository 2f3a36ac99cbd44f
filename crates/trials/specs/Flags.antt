-- The flags of the steps: a byte for each, 0 while it is kept. So zeros keep every step.
use Rattle.std.specs.Prelude.{ℕ, List, eqb, length}
use Rattle.base.specs.Bytes.{byte_at}
use Rattle.dropping.specs.Kept.{Kept}

-- which steps are kept
unfoldable pub kept : List ℕ → Kept
kept flags k = eqb (byte_at flags k) 0

-- for how many steps there are flags
abbrev pub room : List ℕ → ℕ
room flags = length flags
