-- Laws of numbers joined: the bits of v are set in n bytes, and every other bit and byte is as it was.
use Prim.Native.Nat.{ℕ, ◌+◌, ◌*◌, ◌/◌, ◌^◌, ◌≤◌, ◌<◌}
use mathlib.Core.Bool.{◌||◌, or_comm}
use mathlib.Core.List.{List}
use mathlib.Core.Path.{◌≡◌, ap, ◌∙◌}
use lib.Bits.{bit_or, or_lt}
use lib.ListN.{length}
use Rattle.base.specs.Bits.{bit}
use Rattle.base.specs.Bytes.{byte_at}
use Rattle.base.proofs.Bits.{bit-or}
use Rattle.bits.specs.Row.{bit_at, Bytes}
use Rattle.bits.specs.Number.{num, stored, joined}
use Rattle.bits.proofs.Row.{bit_at_same}
use Rattle.bits.proofs.Number.{bytes_bits, num-lt, num-bit, length-stored, bytes-stored, stored-out, bit_at-stored}

module _ (n : ℕ) (s : List ℕ) (o v : ℕ) where
  pub length-joined : length (joined n s o v) ≡ length s
  unfolding joined
  length-joined = length-stored n s o _

  pub bytes-joined : Bytes s → Bytes (joined n s o v)
  unfolding joined
  bytes-joined b = bytes-stored n s o _ b

  pub joined-out : (i : ℕ) → (o ≤ i → o + n ≤ i) → byte_at (joined n s o v) i ≡ byte_at s i
  unfolding joined
  joined-out i h = stored-out n s o _ i h

  pub bit_at-joined-out : (a : ℕ) → (o ≤ a / 8 → o + n ≤ a / 8) → bit_at (joined n s o v) a ≡ bit_at s a
  bit_at-joined-out a h = bit_at_same _ s a (joined-out (a / 8) h)

  pub bit_at-joined : (k : ℕ) → Bytes s → o + n ≤ length s → v < 2 ^ (8 * n) → k < 8 * n
      → bit_at (joined n s o v) (8 * o + k) ≡ (bit v k || bit_at s (8 * o + k))
  unfolding joined
  bit_at-joined k b h l m =
      bit_at-stored n s o (bit_or (num n s o) v) k b h both m
      ∙ bit-or (num n s o) v k
      ∙ or_comm (bit (num n s o) k) (bit v k)
      ∙ ap (λ x. bit v k || x) (num-bit n s o k b m)
    where
      both : bit_or (num n s o) v < 256 ^ n
      both = rw (bytes_bits n) (or_lt (8 * n) (num n s o) v (rw (← bytes_bits n) (num-lt n s o b)) l)

-- what a word's reading, joining and storing come to
pub join_is : (s t : List ℕ) (o v w x : ℕ) → w ≡ num 2 s o → x ≡ bit_or w v → t ≡ stored 2 s o x → t ≡ joined 2 s o v
unfolding joined
join_is s t o v w x p q e = e ∙ ap (stored 2 s o) (q ∙ ap (λ (y : ℕ). bit_or y v) p)
