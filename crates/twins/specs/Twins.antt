-- Twins, document 01's word for two items whose bytes are the same, among the texts that pairs mark out: m pairs of
-- offset and length from byte `at` of a list of bytes on.
use Rattle.std.specs.Prelude.{ℕ, Bool, not, List}
use Rattle.base.specs.Bytes.{same_bytes}
use Rattle.base.specs.Below.{every}
use Rattle.pairs.specs.Pairs.{text_of}

-- texts i and j differ
unfoldable pub differ : List ℕ → ℕ → ℕ → ℕ → Bool
differ s at j i = not (same_bytes (text_of s at i) (text_of s at j))

-- no text before text j is the same
unfoldable pub new_at : List ℕ → ℕ → ℕ → Bool
new_at s at j = every j (differ s at j)

-- no two of the m texts are twins
unfoldable pub twinless : List ℕ → ℕ → ℕ → Bool
twinless s at m = every m (new_at s at)
