-- One heard bit and one heard byte, read by the old numbers.
use Prim.Native.Nat.{ℕ, ◌+◌, ◌-◌, ◌*◌, ◌%◌, ◌^◌, ◌<◌, ◌≤◌}
use native.Mathlib.Omega.{arith}
use mathlib.Core.Bool.{Bool, false}
use mathlib.Core.List.{List}
use mathlib.Core.Path.{◌≡◌, refl, sym, ◌∙◌}
use borrow.Author.Tests.{lt-ltb, le-ltb}
use Rattle.base.specs.Bits.{digit, pack}
use Rattle.base.specs.Bytes.{byte_at}
use Rattle.base.proofs.Bits.{pack_ext, pack_more, pack-lt}
use Rattle.bits.specs.Row.{bit_at}
use Rattle.state.specs.Layout.{entries, heard_at}
use Rattle.clearing.specs.Moves.{heard_bit, heard_bits, heard_byte}

module _ (s old : List ℕ) (n : ℕ) where
  pub no_bit : (a : ℕ) → n ≤ a % entries → false ≡ heard_bit s old n a
  unfolding heard_bit
  no_bit a l = rw (le-ltb (a % entries) n l)

  pub a_bit : (a : ℕ) {r : Bool} → a % entries < n → r ≡ bit_at s (8 * heard_at + (a - a % entries + byte_at old (a % entries)))
      → r ≡ heard_bit s old n a
  unfolding heard_bit
  a_bit a l h = h ∙ rw (lt-ltb (a % entries) n l)

  -- where the first of its numbers is none of the n, none is
  pub no_byte : (b : ℕ) → n ≤ 8 * b % entries → 0 ≡ heard_byte s old n b
  unfolding heard_byte heard_bits pack
  no_byte b l = sym (pack_ext 8 (λ k. heard_bit s old n (8 * b + k)) (λ k. false) (λ k m. sym (no_bit (8 * b + k) (omega arith))))

  pub bits_none : (b : ℕ) → 0 ≡ pack 0 (heard_bits s old n b)
  unfolding pack
  bits_none b = refl

  pub bits_lt : (b k v : ℕ) → v ≡ pack k (heard_bits s old n b) → v < 2 ^ k
  bits_lt b k v e = omega (arith, pack-lt k (heard_bits s old n b))

  pub bits_more : (b k v r : ℕ) {y : Bool} → v ≡ pack k (heard_bits s old n b) → y ≡ heard_bit s old n (8 * b + k)
      → r ≡ v + digit y * 2 ^ k → r ≡ pack (k + 1) (heard_bits s old n b)
  unfolding heard_bits
  bits_more b k v r {y} e h d = d ∙ rw (h, e) (sym (pack_more k (heard_bits s old n b)))
