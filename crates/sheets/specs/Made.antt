-- The sheet of a period and a list of texts.
use Rattle.std.specs.Prelude.{ℕ, ◌+◌, ◌/◌, ◌%◌, List, [], ◌∷◌, ◌++◌, length}
use Rattle.pairs.specs.Pairs.{first_offset}
use Rattle.sheets.specs.Sheet.{pairs_at}

-- a number as two bytes, high byte first
abbrev pub two_bytes : ℕ → List ℕ
two_bytes n = (n / 256 % 256) ∷ (n % 256) ∷ []

-- the pair of a text of this length that starts at this offset
abbrev pub pair_bytes : ℕ → ℕ → List ℕ
pair_bytes offset size = two_bytes offset ++ two_bytes size

-- the pairs of texts that stand one after the other from an offset on
unfoldable pub pairs_from : ℕ → List (List ℕ) → List ℕ
pairs_from offset [] = []
pairs_from offset (text ∷ texts) = pair_bytes offset (length text) ++ pairs_from (offset + length text) texts

-- the texts, one after the other
unfoldable pub joined : List (List ℕ) → List ℕ
joined [] = []
joined (text ∷ texts) = text ++ joined texts

-- period, item count, pairs, texts
unfoldable pub sheet_of : ℕ → List (List ℕ) → List ℕ
sheet_of period texts =
    period ∷ length texts ∷ (pairs_from (first_offset pairs_at (length texts)) texts ++ joined texts)
