-- Laws of a row with one bit written: that bit is what was asked, and every other bit is as it was.
use Prim.Native.Nat.{ℕ, ◌*◌, ◌/◌, ◌%◌, ◌^◌, ◌<◌, ◌≤◌}
use native.Mathlib.Decide.{ℕ_discrete}
use native.Mathlib.Omega.{arith}
use mathlib.Core.Bool.{Bool, true, false, cond, ◌||◌, not}
use mathlib.Core.List.{List}
use mathlib.Core.Path.{◌≡◌, refl, sym, ap, ◌∙◌}
use lib.Bits.{bit_or, bit_xor}
use lib.Dec.{eqb}
use lib.ListN.{length, set, get_or-eq_default}
use lib.Seq.{get_or-set_same, get_or-set_other}
use borrow.Author.Tests.{ne_eqb}
use Rattle.base.specs.Bits.{bit}
use Rattle.base.specs.Bytes.{byte_at}
use Rattle.base.proofs.Bits.{bit-none, bit-or, bit-xor, bit-pow}
use Rattle.base.proofs.Masks.{shifted}
use Rattle.bits.specs.Row.{bit_at, written_byte, write_bit}
use Rattle.bits.proofs.Row.{same_place}

-- past the end none is set
pub bit_at_past : (s : List ℕ) (a : ℕ) → length s ≤ a / 8 → false ≡ bit_at s a
unfolding bit_at
bit_at_past s a l = sym (ap (λ (x : ℕ). bit x (a % 8)) (get_or-eq_default s 0 l) ∙ bit-none (a % 8))

-- a byte with one bit written has that one, and the others as they were

set-one : (p q : Bool) → (p || q) ≡ cond q true p
set-one true true = refl
set-one true false = refl
set-one false true = refl
set-one false false = refl

cleared-one : (p q : Bool) → cond q (not (p || q)) (p || q) ≡ cond q false p
cleared-one true true = refl
cleared-one true false = refl
cleared-one false true = refl
cleared-one false false = refl

byte_bit : (x j k : ℕ) (v : Bool) → bit (written_byte x j v) k ≡ cond (eqb j k) v (bit x k)
unfolding written_byte
byte_bit x j k true = rw (bit-or x (2 ^ j) k, bit-pow j k) (set-one (bit x k) (eqb j k))
byte_bit x j k false =
    rw (bit-xor (bit_or x (2 ^ j)) (2 ^ j) k, bit-or x (2 ^ j) k, bit-pow j k) (cleared-one (bit x k) (eqb j k))

-- a row with one bit written has that one, and the others as they were
pub bit_at_write : (s : List ℕ) (a b : ℕ) (v : Bool) → a / 8 < length s → bit_at (write_bit s a v) b ≡ cond (eqb a b) v (bit_at s b)
unfolding bit_at write_bit
bit_at_write s a b v h = go (ℕ_discrete (b / 8) (a / 8))
  where
    old : ℕ
    old = byte_at s (a / 8)

    new : ℕ
    new = written_byte old (a % 8) v

    go : Dec (b / 8 ≡ a / 8) → bit (byte_at (set s (a / 8) new) (b / 8)) (b % 8) ≡ cond (eqb a b) v (bit (byte_at s (b / 8)) (b % 8))
    go (yes e) =
        rw (e, get_or-set_same s (a / 8) new 0 h)
        (byte_bit old (a % 8) (b % 8) v ∙ ap (λ (x : Bool). cond x v (bit old (b % 8))) (same_place a b e))
    go (no n) =
        ap (λ (x : ℕ). bit x (b % 8)) (get_or-set_other s (a / 8) (b / 8) new 0 n)
        ∙ sym (ap (λ (x : Bool). cond x v (bit (byte_at s (b / 8)) (b % 8))) (ne_eqb a b (λ q. n (ap (λ (x : ℕ). x / 8) (sym q)))))

-- what the machine stores, with its shift of 1
module _ (s : List ℕ) (a w : ℕ) (e : w ≡ (1 * 2 ^ (a % 8)) % 2 ^ 8) where
  pub is_set : {v : Bool} → v ≡ true → set s (a / 8) (bit_or (byte_at s (a / 8)) w) ≡ write_bit s a v
  unfolding write_bit written_byte
  is_set t = rw (t, e, shifted 8 (a % 8) (omega arith))

  pub is_cleared : {v : Bool} → v ≡ false → set s (a / 8) (bit_xor (bit_or (byte_at s (a / 8)) w) w) ≡ write_bit s a v
  unfolding write_bit written_byte
  is_cleared t = rw (t, e, shifted 8 (a % 8) (omega arith))
