-- How many entries a list of calls can add to the bag, from the bytes of the calls alone.
use Rattle.std.specs.Prelude.{ℕ, ◌+◌, min, Bool, false, ◌&&◌, ◌||◌, not, List, [], ◌∷◌, eqb, length}
use Rattle.base.specs.Bits.{digit}
use Rattle.base.specs.Bytes.{byte_at, same_bytes}
use Rattle.base.specs.Sums.{sum}

-- 13 bytes, of which the first is op
unfoldable pub is_op : ℕ → List ℕ → Bool
is_op op c = eqb (length c) 13 && eqb (byte_at c 0) op

-- how many of the calls pass f
unfoldable pub count_of : (List ℕ → Bool) → List (List ℕ) → ℕ
count_of f [] = 0
count_of f (c ∷ calls) = digit (f c) + count_of f calls

-- how many different ones do: each counts where it comes last
unfoldable pub is_among : List ℕ → List (List ℕ) → Bool
is_among c [] = false
is_among c (d ∷ calls) = same_bytes c d || is_among c calls

unfoldable pub different_of : (List ℕ → Bool) → List (List ℕ) → ℕ
different_of f [] = 0
different_of f (c ∷ calls) = digit (f c && not (is_among c calls)) + different_of f calls

-- hash, publish and false hash may each add an entry
unfoldable pub adds : List ℕ → Bool
adds c = is_op 9 c || (is_op 12 c || is_op 15 c)

-- a back with j in the peer byte
unfoldable pub back_of : ℕ → List ℕ → Bool
back_of j c = is_op 11 c && eqb (byte_at c 1) j

-- the steps 9, 12 and 15, the different steps 16, and of the steps 11 at most 8 for each peer byte
unfoldable pub gain : List (List ℕ) → ℕ
gain calls = count_of adds calls + different_of (is_op 16) calls + sum 256 (λ j. min 8 (count_of (back_of j) calls))
