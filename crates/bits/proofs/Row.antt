-- Laws of the row: a bit that is set is set, and every other bit and byte is as it was.
use Prim.Native.Nat.{ℕ, ◌*◌, ◌/◌, ◌%◌, ◌^◌, ◌<◌}
use native.Mathlib.Decide.{ℕ_discrete, dec_lt}
use native.Mathlib.Omega.{arith}
use mathlib.Core.Bool.{Bool, ◌||◌, or_comm}
use mathlib.Core.List.{List}
use mathlib.Core.Path.{◌≡◌, sym, ap, ◌∙◌}
use lib.Bits.{bit_or, or_lt}
use lib.Dec.{eqb}
use lib.ListN.{length, set, length-set}
use lib.Pow.{pow-lt}
use lib.Seq.{get_or-set_same, get_or-set_other, set_out}
use borrow.Author.Tests.{eq-eqb, ne_eqb, eqb-true}
use Rattle.base.specs.Bits.{bit}
use Rattle.base.specs.Bytes.{byte_at}
use Rattle.base.proofs.Bits.{bit-or, bit-pow}
use Rattle.base.proofs.Masks.{shifted}
use Rattle.base.proofs.Truth.{iff}
use Rattle.bits.specs.Row.{bit_at, put_bit, Bytes}

pub length_put : (s : List ℕ) (a : ℕ) → length (put_bit s a) ≡ length s
unfolding put_bit
length_put s a = length-set s (a / 8) _

-- the bits of a byte are its own
pub bit_at_same : (t s : List ℕ) (a : ℕ) → byte_at t (a / 8) ≡ byte_at s (a / 8) → bit_at t a ≡ bit_at s a
unfolding bit_at
bit_at_same t s a e = ap (λ (x : ℕ). bit x (a % 8)) e

-- a set bit leaves the other bytes as they were
pub byte_put : (s : List ℕ) (a i : ℕ) → (a / 8 ≡ i → ⊥) → byte_at (put_bit s a) i ≡ byte_at s i
unfolding put_bit
byte_put s a i n = get_or-set_other s (a / 8) i _ 0 (λ e. n (sym e))

-- in one byte, bits are told apart by their places in it
pub same_place : (a b : ℕ) → b / 8 ≡ a / 8 → eqb (a % 8) (b % 8) ≡ eqb a b
same_place a b e =
    iff _ _ (λ q. let r = eqb-true (a % 8) (b % 8) q in eq-eqb a b (omega arith))
    (λ q. let r = eqb-true a b q in eq-eqb (a % 8) (b % 8) (omega arith))

-- a set bit is set, and every other bit is as it was
pub bit_at_put : (s : List ℕ) (a b : ℕ) → a / 8 < length s → bit_at (put_bit s a) b ≡ (eqb a b || bit_at s b)
unfolding bit_at put_bit
bit_at_put s a b h = go (ℕ_discrete (b / 8) (a / 8))
  where
    old : ℕ
    old = byte_at s (a / 8)

    new : ℕ
    new = bit_or old (2 ^ (a % 8))

    go : Dec (b / 8 ≡ a / 8) → bit (byte_at (set s (a / 8) new) (b / 8)) (b % 8) ≡ (eqb a b || bit (byte_at s (b / 8)) (b % 8))
    go (yes e) =
        rw (e, get_or-set_same s (a / 8) new 0 h)
        (bit-or old (2 ^ (a % 8)) (b % 8)
        ∙ or_comm (bit old (b % 8)) (bit (2 ^ (a % 8)) (b % 8))
        ∙ ap (λ (x : Bool). x || bit old (b % 8)) (bit-pow (a % 8) (b % 8) ∙ same_place a b e))
    go (no n) =
        ap (λ (x : ℕ). bit x (b % 8)) (get_or-set_other s (a / 8) (b / 8) new 0 n)
        ∙ sym (ap (λ (x : Bool). x || bit (byte_at s (b / 8)) (b % 8)) (ne_eqb a b (λ q. n (ap (λ (x : ℕ). x / 8) (sym q)))))

-- bytes stay bytes

pub bytes-set : (s : List ℕ) (i v : ℕ) → Bytes s → v < 256 → Bytes (set s i v)
bytes-set s i v h l j = go (ℕ_discrete j i) (dec_lt i (length s))
  where
    go : Dec (j ≡ i) → Dec (i < length s) → byte_at (set s i v) j < 256
    go (yes e) (yes k) = rw (e, get_or-set_same s i v 0 k) l
    go (yes e) (no k) = rw (set_out s i v (omega arith)) (h j)
    go (no n) k = rw (get_or-set_other s i j v 0 n) (h j)

pub bytes_put : (s : List ℕ) (a : ℕ) → Bytes s → Bytes (put_bit s a)
unfolding put_bit
bytes_put s a h = bytes-set s (a / 8) _ h (or_lt 8 (byte_at s (a / 8)) (2 ^ (a % 8)) (h (a / 8)) (pow-lt {j = 8} (omega arith)))

-- a byte joined with the machine's shift of 1
pub is_put : (s : List ℕ) (a w : ℕ) → w ≡ (1 * 2 ^ (a % 8)) % 2 ^ 8 → set s (a / 8) (bit_or (byte_at s (a / 8)) w) ≡ put_bit s a
unfolding put_bit
is_put s a w e = rw (e, shifted 8 (a % 8) (omega arith))
