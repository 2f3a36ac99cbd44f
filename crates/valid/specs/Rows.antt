-- Rows of bits, of which some must be 0: the facts that the table does not have.
use Rattle.std.specs.Prelude.{ℕ, ◌+◌, ◌*◌, ◌/◌, ◌%◌, Bool, false, ◌&&◌, ◌||◌, not, List, ltb, length}
use Rattle.base.specs.Below.{every}
use Rattle.base.specs.Bits.{pack}
use Rattle.bits.specs.Row.{bit_at}
use Rattle.state.specs.Layout.{peers, periods}
use Rattle.base.specs.Tab.{tab}

-- of the bits of the n bytes from o on, numbered from 0, only those that pass f are 1
unfoldable pub only_in : ℕ → List ℕ → ℕ → (ℕ → Bool) → Bool
only_in n s o f = every (8 * n) (λ k. not (bit_at s (8 * o + k)) || f k)

-- none, and the first n

unfoldable pub none : ℕ → Bool
none k = false

unfoldable pub first : ℕ → ℕ → Bool
first n k = ltb k n

-- f where b holds, and none where it does not
unfoldable pub gated : Bool → (ℕ → Bool) → ℕ → Bool
gated b f k = b && f k

-- f in each of the first `used` rows of w bytes, and none in the others
unfoldable pub in_rows : ℕ → ℕ → (ℕ → Bool) → ℕ → Bool
in_rows used w f k = ltb (k / (8 * w)) used && f (k % (8 * w))

-- the row from byte o on has only bits of the row m; where `there` is false, none
abbrev pub masked : List ℕ → ℕ → List ℕ → Bool
masked s o m = only_in (length m) s o (bit_at m)

abbrev pub masked_if : Bool → List ℕ → ℕ → List ℕ → Bool
masked_if there s o m = only_in (length m) s o (gated there (bit_at m))

-- so it is of n rows one after the other, of which the first `used` may have bits
abbrev pub rows_masked : ℕ → ℕ → List ℕ → ℕ → List ℕ → Bool
rows_masked n used s o m = only_in (n * length m) s o (in_rows used (length m) (bit_at m))

-- and of such rows of one peer, a row for each period, and of those of all peers, of whom the first n may have bits
abbrev pub table_masked_if : Bool → ℕ → List ℕ → ℕ → List ℕ → Bool
table_masked_if there used s o m = only_in (periods * length m) s o (gated there (in_rows used (length m) (bit_at m)))

abbrev pub tables_masked : ℕ → ℕ → List ℕ → ℕ → List ℕ → Bool
tables_masked n used s o m =
    only_in (peers * (periods * length m)) s o (in_rows n (periods * length m) (in_rows used (length m) (bit_at m)))

-- byte b of the row of bits f, and the w bytes of that row
unfoldable pub byte_of : (ℕ → Bool) → ℕ → ℕ
byte_of f b = pack 8 (λ k. f (8 * b + k))

unfoldable pub mask : ℕ → (ℕ → Bool) → List ℕ
mask w f = tab w (byte_of f)
