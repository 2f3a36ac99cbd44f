-- The sets of signers on the items of one period, which stand one behind the other.
use Rattle.std.specs.Prelude.{ℕ, ◌+◌, ◌*◌, ◌^◌, Bool, List, ltb}
use Rattle.bits.specs.Number.{num}
use Rattle.state.specs.Layout.{peer_bytes}

-- the bytes of the sets of one period
abbrev pub row_bytes : ℕ
row_bytes = 128

-- of the sets from byte o on, set x has only the first n bits
unfoldable pub signers_ok : ℕ → List ℕ → ℕ → ℕ → Bool
signers_ok n s o x = ltb (num peer_bytes s (o + peer_bytes * x)) (2 ^ n)
