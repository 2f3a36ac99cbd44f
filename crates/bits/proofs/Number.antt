-- Laws of numbers in a list of bytes: the number in n bytes is the number of their 8 * n bits, and one that is stored is there.
use Prim.Native.Nat.{ℕ, zero, suc, ◌+◌, ◌-◌, ◌*◌, ◌/◌, ◌%◌, ◌^◌, ◌≤◌, ◌<◌}
use native.Mathlib.Decide.{dec_lt}
use native.Mathlib.Nat.{not-suc-le-zero, le_of_suc-le-suc, add-zero, add-suc, suc-add, pow-succ', div-div-eq-div-mul}
use native.Mathlib.Omega.{arith}
use mathlib.Core.List.{List}
use mathlib.Core.Path.{◌≡◌, refl, sym, ap, ap₂, ◌∙◌}
use lib.Arith.{lt-one}
use lib.Pow.{pow-add}
use lib.ListN.{length, set, length-set}
use lib.Seq.{get_or-set_same, get_or-set_other}
use Rattle.base.specs.Bits.{bit, pack}
use Rattle.base.specs.Bytes.{byte_at}
use Rattle.base.proofs.Bits.{bit_low, bit_top, pack_ext, pack-bit}
use Rattle.bits.specs.Row.{bit_at, Bytes}
use Rattle.bits.specs.Number.{num, stored}
use Rattle.bits.proofs.Row.{bytes-set}

-- a number in n bytes

pub num_ext : (n : ℕ) (s r : List ℕ) (o : ℕ) → ((i : ℕ) → o ≤ i → i < o + n → byte_at s i ≡ byte_at r i) → num n s o ≡ num n r o
unfolding num
num_ext zero s r o e = refl
num_ext (suc n) s r o e =
    ap₂ (λ (x y : ℕ). x + 256 * y) (e o (omega arith) (omega arith)) (num_ext n s r (suc o) (λ i p q. e i (omega arith) (omega arith)))

pub num-zero : (n : ℕ) (s : List ℕ) (o : ℕ) → ((i : ℕ) → o ≤ i → byte_at s i ≡ 0) → num n s o ≡ 0
unfolding num
num-zero zero s o e = refl
num-zero (suc n) s o e = omega (arith, e o (omega arith), num-zero n s (suc o) (λ i p. e i (omega arith)))

pub num-lt : (n : ℕ) (s : List ℕ) (o : ℕ) → Bytes s → num n s o < 256 ^ n
unfolding num
num-lt zero s o b = omega arith
num-lt (suc n) s o b = omega (arith, pow-succ' 256 n, b o, num-lt n s (suc o) b)

-- a number of two bytes
pub num-two : (s : List ℕ) (o a b : ℕ) → a ≡ byte_at s o → b ≡ byte_at s (o + 1) → a + 256 * b ≡ num 2 s o
unfolding num
num-two s o a b p q = omega (arith, p, q, ap (byte_at s) {x = o + 1} {y = suc o} (omega arith))

-- byte k of the number in the n bytes from o on is byte o + k
pub num_byte : (n : ℕ) (s : List ℕ) (o k : ℕ) → Bytes s → k < n → num n s o / 256 ^ k % 256 ≡ byte_at s (o + k)
unfolding num
num_byte zero s o k b l = absurd (not-suc-le-zero l)
num_byte (suc n) s o zero b l = rw (add-zero o) (omega (arith, b o))
num_byte (suc n) s o (suc k) b l =
    ap (λ (x : ℕ). x % 256) shift ∙ num_byte n s (suc o) k b (le_of_suc-le-suc l) ∙ ap (byte_at s) (suc-add o k ∙ sym (add-suc o k))
  where
    rest : (byte_at s o + 256 * num n s (suc o)) / 256 ≡ num n s (suc o)
    rest = omega (arith, b o)

    shift : (byte_at s o + 256 * num n s (suc o)) / 256 ^ suc k ≡ num n s (suc o) / 256 ^ k
    shift = rw (pow-succ' 256 k, ← div-div-eq-div-mul (byte_at s o + 256 * num n s (suc o)) 256 (256 ^ k), rest)

-- and a number is settled by its bytes
pub num_of : (n : ℕ) (s : List ℕ) (o v : ℕ) → v < 256 ^ n → ((k : ℕ) → k < n → byte_at s (o + k) ≡ v / 256 ^ k % 256) → num n s o ≡ v
unfolding num
num_of zero s o v l e = sym (lt-one l)
num_of (suc n) s o v l e = omega (arith, first, num_of n s (suc o) (v / 256) (omega (arith, pow-succ' 256 n)) rest)
  where
    first : byte_at s o ≡ v % 256
    first = ap (byte_at s) (sym (add-zero o)) ∙ e 0 (omega arith) ∙ omega arith

    rest : (k : ℕ) → k < n → byte_at s (suc o + k) ≡ v / 256 / 256 ^ k % 256
    rest k h =
        ap (byte_at s) (suc-add o k ∙ sym (add-suc o k)) ∙ e (suc k) (omega arith)
        ∙ rw (pow-succ' 256 k, ← div-div-eq-div-mul v 256 (256 ^ k))

-- bit k of it is bit 8 * o + k of the row
pub num-bit : (n : ℕ) (s : List ℕ) (o k : ℕ) → Bytes s → k < 8 * n → bit (num n s o) k ≡ bit_at s (8 * o + k)
unfolding num bit_at
num-bit zero s o k b l = absurd (omega arith)
num-bit (suc n) s o k b l = rw split (go (num-bit n s (suc o) (k - 8) b) (dec_lt k 8))
  where
    low : ℕ
    low = byte_at s o

    high : ℕ
    high = num n s (suc o)

    split : low + 256 * high ≡ high * 2 ^ 8 + low
    split = omega arith

    go : (k - 8 < 8 * n → bit high (k - 8) ≡ bit (byte_at s ((8 * suc o + (k - 8)) / 8)) ((8 * suc o + (k - 8)) % 8)) → Dec (k < 8)
        → bit (high * 2 ^ 8 + low) k ≡ bit (byte_at s ((8 * o + k) / 8)) ((8 * o + k) % 8)
    go r (yes m) =
        bit_low 8 high low k (b o) m ∙ ap₂ (λ (x y : ℕ). bit (byte_at s x) y) {x = o} {y = (8 * o + k) / 8} (omega arith) (omega arith)
    go r (no m) =
        ap (bit (high * 2 ^ 8 + low)) {x = k} {y = 8 + (k - 8)} (omega arith)
        ∙ bit_top 8 high low (k - 8) (b o)
        ∙ r (omega arith)
        ∙ ap₂ (λ (x y : ℕ). bit (byte_at s x) y) {x = (8 * suc o + (k - 8)) / 8} {y = (8 * o + k) / 8} (omega arith) (omega arith)

-- n bytes are 8 * n bits
pub bytes_bits : (n : ℕ) → 256 ^ n ≡ 2 ^ (8 * n)
bytes_bits zero = refl
bytes_bits (suc n) =
    pow-succ' 256 n ∙ ap (λ (x : ℕ). 256 * x) (bytes_bits n) ∙ sym (pow-add 2 8 (8 * n)) ∙ ap (λ (k : ℕ). 2 ^ k) (omega arith)

-- the number in n bytes is the number of their bits
pub num-pack : (n : ℕ) (s : List ℕ) (o : ℕ) → Bytes s → num n s o ≡ pack (8 * n) (λ k. bit_at s (8 * o + k))
num-pack n s o b =
    sym (pack-bit (8 * n) (num n s o) (rw (← bytes_bits n) (num-lt n s o b)))
    ∙ pack_ext (8 * n) (bit (num n s o)) (λ k. bit_at s (8 * o + k)) (λ k l. num-bit n s o k b l)

-- a number stored

pub length-stored : (n : ℕ) (s : List ℕ) (o v : ℕ) → length (stored n s o v) ≡ length s
unfolding stored
length-stored zero s o v = refl
length-stored (suc n) s o v = length-stored n (set s o (v % 256)) (o + 1) (v / 256) ∙ length-set s o (v % 256)

pub bytes-stored : (n : ℕ) (s : List ℕ) (o v : ℕ) → Bytes s → Bytes (stored n s o v)
unfolding stored
bytes-stored zero s o v b = b
bytes-stored (suc n) s o v b = bytes-stored n (set s o (v % 256)) (o + 1) (v / 256) (bytes-set s o (v % 256) b (omega arith))

-- the bytes outside are as they were
pub stored-out : (n : ℕ) (s : List ℕ) (o v i : ℕ) → (o ≤ i → o + n ≤ i) → byte_at (stored n s o v) i ≡ byte_at s i
unfolding stored
stored-out zero s o v i h = refl
stored-out (suc n) s o v i h =
    stored-out n (set s o (v % 256)) (o + 1) (v / 256) i (λ l. omega (arith, h (omega arith)))
    ∙ get_or-set_other s o i (v % 256) 0 (λ e. omega (arith, h (omega arith)))

-- and the number is there
pub num-stored : (n : ℕ) (s : List ℕ) (o v : ℕ) → o + n ≤ length s → v < 256 ^ n → num n (stored n s o v) o ≡ v
unfolding stored num
num-stored zero s o v h l = sym (lt-one l)
num-stored (suc n) s o v h l =
    omega (
      arith,
      first,
      next,
      num-stored n (set s o (v % 256)) (o + 1) (v / 256) (omega (arith, length-set s o (v % 256)))
          (omega (arith, pow-succ' 256 n)),
    )
  where
    t : List ℕ
    t = stored n (set s o (v % 256)) (o + 1) (v / 256)

    first : byte_at t o ≡ v % 256
    first = stored-out n (set s o (v % 256)) (o + 1) (v / 256) o (λ l. absurd (omega arith)) ∙ get_or-set_same s o (v % 256) 0 (omega arith)

    next : num n t (suc o) ≡ num n t (o + 1)
    next = ap (num n t) (omega arith)

-- so its bits are those of the row there
pub bit_at-stored : (n : ℕ) (s : List ℕ) (o v k : ℕ) → Bytes s → o + n ≤ length s → v < 256 ^ n → k < 8 * n
    → bit_at (stored n s o v) (8 * o + k) ≡ bit v k
bit_at-stored n s o v k b h l m =
    sym (num-bit n (stored n s o v) o k (bytes-stored n s o v b) m) ∙ ap (λ (x : ℕ). bit x k) (num-stored n s o v h l)
