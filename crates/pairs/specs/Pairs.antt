-- Pairs of offset and length, m of them from byte `at` of a list of bytes on, and the texts that they mark out in it.
use Rattle.std.specs.Prelude.{ℕ, zero, suc, ◌+◌, ◌*◌, Bool, ◌&&◌, List, leb, eqb, length}
use Rattle.base.specs.Bytes.{number_at, part}
use Rattle.base.specs.Below.{every}

-- the number of a pair that stands at byte i, two bytes: every offset and length is read through it
abbrev pub pair_number : List ℕ → ℕ → ℕ
pair_number s i = number_at s i 2

-- the offset that pair k gives
abbrev pub offset_of : List ℕ → ℕ → ℕ → ℕ
offset_of s at k = pair_number s (at + 4 * k)

-- the length that pair k gives
abbrev pub size_of : List ℕ → ℕ → ℕ → ℕ
size_of s at k = pair_number s (at + 4 * k + 2)

-- where the pairs end, and the first text starts
abbrev pub first_offset : ℕ → ℕ → ℕ
first_offset at m = at + 4 * m

-- where what stands before text k ends
unfoldable pub end_before : List ℕ → ℕ → ℕ → ℕ → ℕ
end_before s at m zero = first_offset at m
end_before s at m (suc k) = offset_of s at k + size_of s at k

-- text k starts where what stands before it ends
unfoldable pub starts_at_end : List ℕ → ℕ → ℕ → ℕ → Bool
starts_at_end s at m k = eqb (offset_of s at k) (end_before s at m k)

-- the pairs are not cut short, and each text starts where the one before it ends
unfoldable pub pairs_fit : List ℕ → ℕ → ℕ → Bool
pairs_fit s at m = leb (first_offset at m) (length s) && every m (starts_at_end s at m)

-- where the last text ends
abbrev pub last_end : List ℕ → ℕ → ℕ → ℕ
last_end s at m = end_before s at m m

-- the pairs fit, and the last text ends where the list does
unfoldable pub pairs_ok : List ℕ → ℕ → ℕ → Bool
pairs_ok s at m = pairs_fit s at m && eqb (last_end s at m) (length s)

-- text k: the part of the list that pair k marks out
abbrev pub text_of : List ℕ → ℕ → ℕ → List ℕ
text_of s at k = part s (offset_of s at k) (size_of s at k)
