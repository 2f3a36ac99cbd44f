-- A list of bytes as a row of bits: bit a of the row is bit a % 8 of byte a / 8.
use Rattle.std.specs.Prelude.{ℕ, ◌+◌, ◌/◌, ◌%◌, ◌^◌, ◌<◌, Bool, cond, List, eqb, set}
use Rattle.std.specs.Int.Bits.{bit_or, bit_xor}
use Rattle.base.specs.Below.{every}
use Rattle.base.specs.Bits.{bit}
use Rattle.base.specs.Bytes.{byte_at}

-- bit a of the row
unfoldable pub bit_at : List ℕ → ℕ → Bool
bit_at s a = bit (byte_at s (a / 8)) (a % 8)

-- the byte with bit j made what v says: set, or set and then turned over
unfoldable pub written_byte : ℕ → ℕ → Bool → ℕ
written_byte x j v = cond v (bit_or x (2 ^ j)) (bit_xor (bit_or x (2 ^ j)) (2 ^ j))

-- the row with bit a made what v says
unfoldable pub write_bit : List ℕ → ℕ → Bool → List ℕ
write_bit s a v = set s (a / 8) (written_byte (byte_at s (a / 8)) (a % 8) v)

-- the row with bit a set
unfoldable pub put_bit : List ℕ → ℕ → List ℕ
put_bit s a = set s (a / 8) (bit_or (byte_at s (a / 8)) (2 ^ (a % 8)))

-- the n bytes from o on are 0
unfoldable pub zeros : ℕ → List ℕ → ℕ → Bool
zeros n s o = every n (λ i. eqb (byte_at s (o + i)) 0)

-- every element is a byte
abbrev pub Bytes : List ℕ → Type 0
Bytes s = (i : ℕ) → byte_at s i < 256
