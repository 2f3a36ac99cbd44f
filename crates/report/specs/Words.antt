-- The words of the report, as bytes.
use Rattle.std.specs.Prelude.{ℕ, List, [], ◌∷◌}

-- `peers`
abbrev pub peers : List ℕ
peers = 112 ∷ 101 ∷ 101 ∷ 114 ∷ 115 ∷ []

-- a blank and `threshold`
abbrev pub threshold : List ℕ
threshold = 32 ∷ 116 ∷ 104 ∷ 114 ∷ 101 ∷ 115 ∷ 104 ∷ 111 ∷ 108 ∷ 100 ∷ []

-- a blank and `honest`
abbrev pub honest : List ℕ
honest = 32 ∷ 104 ∷ 111 ∷ 110 ∷ 101 ∷ 115 ∷ 116 ∷ []

-- `refused`
abbrev pub refused : List ℕ
refused = 114 ∷ 101 ∷ 102 ∷ 117 ∷ 115 ∷ 101 ∷ 100 ∷ []

-- `db`
abbrev pub db : List ℕ
db = 100 ∷ 98 ∷ []

-- `receipt`
abbrev pub receipt : List ℕ
receipt = 114 ∷ 101 ∷ 99 ∷ 101 ∷ 105 ∷ 112 ∷ 116 ∷ []

-- `board`
abbrev pub board : List ℕ
board = 98 ∷ 111 ∷ 97 ∷ 114 ∷ 100 ∷ []

-- `totals`
abbrev pub totals : List ℕ
totals = 116 ∷ 111 ∷ 116 ∷ 97 ∷ 108 ∷ 115 ∷ []

-- `end` and the end of its line
abbrev pub end : List ℕ
end = 101 ∷ 110 ∷ 100 ∷ 10 ∷ []

-- each line ends with byte 10
abbrev pub newline : List ℕ
newline = 10 ∷ []
