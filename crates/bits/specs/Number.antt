-- Numbers of several bytes in a list of bytes, low byte first.
use Rattle.std.specs.Prelude.{ℕ, zero, suc, ◌+◌, ◌*◌, ◌/◌, ◌%◌, List, set}
use Rattle.std.specs.Int.Bits.{bit_or}
use Rattle.base.specs.Bytes.{byte_at}

-- the number in the n bytes from o on
unfoldable pub num : ℕ → List ℕ → ℕ → ℕ
num zero s o = 0
num (suc n) s o = byte_at s o + 256 * num n s (suc o)

-- the list with the n low bytes of v stored from o on
unfoldable pub stored : ℕ → List ℕ → ℕ → ℕ → List ℕ
stored zero s o v = s
stored (suc n) s o v = stored n (set s o (v % 256)) (o + 1) (v / 256)

-- the list with the bits of v set in the n bytes from o on
unfoldable pub joined : ℕ → List ℕ → ℕ → ℕ → List ℕ
joined n s o v = stored n s o (bit_or (num n s o) v)
