-- Laws of rows of bits of which some must be 0: by bytes, and by rows.
use Prim.Native.Nat.{ℕ, suc, ◌+◌, ◌*◌, ◌/◌, ◌%◌, ◌<◌, ◌≤◌}
use native.Mathlib.Nat.{mul_comm, mul_left_comm, mul-suc, mul-le-mul_right}
use native.Mathlib.Omega.{arith}
use mathlib.Core.Bool.{Bool, true, false, ◌&&◌, ◌||◌, not}
use mathlib.Core.List.{List}
use mathlib.Core.Path.{◌≡◌, refl, sym, ap, ap₂, ◌∙◌}
use lib.Arith.{digits_div, digits_mod}
use lib.Bits.{bit_or, bit_xor, or_lt, xor_self, xor_add_and, and_le_l, and_le_r}
use lib.Dec.{eqb, ltb}
use borrow.Author.Tests.{eqb-true, eq-eqb, ltb-true, lt-ltb}
use Rattle.base.specs.Below.{every}
use Rattle.base.specs.Bits.{bit}
use Rattle.base.specs.Bytes.{byte_at}
use Rattle.base.proofs.Truth.{iff, or_l, imp_i}
use Rattle.base.proofs.Below.{every-at, every_of, every_ext, every_rows}
use Rattle.base.proofs.Bits.{bit-or, bit-none, pack-bit, pack_ext}
use Rattle.base.proofs.Chain.{by_loop}
use Rattle.bits.specs.Row.{bit_at, zeros, Bytes}
use Rattle.bits.proofs.Zeros.{zero_byte, zeros-all, gather_more}
use Rattle.state.proofs.Places.{ap₃}
use Rattle.valid.specs.Rows.{only_in, none, gated, in_rows}

-- a number has only bits of m: no bit is left beside those of m
abbrev pub beside : ℕ → ℕ → ℕ
beside x m = bit_xor (bit_or x m) m

module _ (x m : ℕ) (a : x < 256) (b : m < 256) where
  none_beside : eqb (beside x m) 0 ≡ true → bit_or x m ≡ m
  none_beside e =
      let z = eqb-true (beside x m) 0 e in omega (arith, xor_add_and (bit_or x m) m, and_le_l (bit_or x m) m, and_le_r (bit_or x m) m)

  pub only_byte : eqb (beside x m) 0 ≡ every 8 (λ k. not (bit x k) || bit m k)
  only_byte = iff _ _
      (λ e. every_of 8 (λ k. not (bit x k) || bit m k)
      (λ k l. imp_i (bit x k) (bit m k) (λ t. ap (λ (y : ℕ). bit y k) (sym (none_beside e)) ∙ bit-or x m k ∙ or_l (bit x k) (bit m k) t)))
      (λ e. eq-eqb (beside x m) 0 (ap (λ (y : ℕ). bit_xor y m) (same e) ∙ xor_self m))
    where
      covered : (p q : Bool) → not p || q ≡ true → (p || q) ≡ q
      covered true q e = sym e
      covered false q e = refl

      same : every 8 (λ k. not (bit x k) || bit m k) ≡ true → bit_or x m ≡ m
      same e =
          sym (pack-bit 8 (bit_or x m) (or_lt 8 x m a b))
          ∙ pack_ext 8 (bit (bit_or x m)) (bit m)
          (λ k l. bit-or x m k ∙ covered (bit x k) (bit m k) (every-at (λ k. not (bit x k) || bit m k) 8 e k l))
          ∙ pack-bit 8 m b

no_bits : (x : ℕ) → x < 256 → eqb x 0 ≡ every 8 (λ k. not (bit x k) || false)
no_bits x h = iff _ _
    (λ e. every_of 8 (λ k. not (bit x k) || false)
    (λ k l. ap (λ (y : ℕ). not (bit y k) || false) (eqb-true x 0 e) ∙ ap (λ (p : Bool). not p || false) (bit-none k)))
    (λ e. eq-eqb x 0 (sym (pack-bit 8 x h) ∙ pack_ext 8 (bit x) (bit 0)
    (λ k l. is_none (bit x k) (every-at (λ k. not (bit x k) || false) 8 e k l) ∙ sym (bit-none k)) ∙ pack-bit 8 0 (omega arith)))
  where
    is_none : (p : Bool) → not p || false ≡ true → p ≡ false
    is_none true e = sym e
    is_none false e = refl

-- eight bits to a byte
by_bytes_lem : (n : ℕ) (f : ℕ → Bool) → every (8 * n) f ≡ every n (λ i. every 8 (λ k. f (8 * i + k)))
by_bytes_lem n f =
    ap (λ (x : ℕ). every x f) (mul_comm 8 n)
    ∙ every_rows n 8 f
    ∙ every_ext n (λ i. every 8 (λ k. f (i * 8 + k))) (λ i. every 8 (λ k. f (8 * i + k)))
    (λ i l. every_ext 8 (λ k. f (i * 8 + k)) (λ k. f (8 * i + k)) (λ k h. ap f (omega arith)))

-- bit k of byte i
pub bit_in : (s : List ℕ) (i k : ℕ) → k < 8 → bit_at s (8 * i + k) ≡ bit (byte_at s i) k
unfolding bit_at
bit_in s i k l = ap₂ (λ (a b : ℕ). bit (byte_at s a) b) {x = (8 * i + k) / 8} {y = i} (omega arith) (omega arith)

module _ (s : List ℕ) (o : ℕ) where
  bit-from : (i k : ℕ) → k < 8 → bit_at s (8 * o + (8 * i + k)) ≡ bit (byte_at s (o + i)) k
  bit-from i k l = ap (bit_at s) {x = 8 * o + (8 * i + k)} {y = 8 * (o + i) + k} (omega arith) ∙ bit_in s (o + i) k l

  -- by bytes: the bits of byte i pass f
  unfoldable pub byte_in : (ℕ → Bool) → ℕ → Bool
  byte_in f i = every 8 (λ k. not (bit (byte_at s (o + i)) k) || f (8 * i + k))

  pub only_bytes : (n : ℕ) (f : ℕ → Bool) → only_in n s o f ≡ every n (byte_in f)
  unfolding only_in byte_in
  only_bytes n f =
      by_bytes_lem n (λ k. not (bit_at s (8 * o + k)) || f k)
      ∙ every_ext n _ _ (λ i l. every_ext 8 (λ k. not (bit_at s (8 * o + (8 * i + k))) || f (8 * i + k))
      (λ k. not (bit (byte_at s (o + i)) k) || f (8 * i + k)) (λ k h. ap (λ (p : Bool). not p || f (8 * i + k)) (bit-from i k h)))

  -- only bits of the mask m
  byte_masked : (m : List ℕ) (i : ℕ) → byte_at s (o + i) < 256 → byte_at m i < 256
      → eqb (beside (byte_at s (o + i)) (byte_at m i)) 0 ≡ byte_in (bit_at m) i
  unfolding byte_in
  byte_masked m i b c =
      only_byte (byte_at s (o + i)) (byte_at m i) b c
      ∙ every_ext 8 _ (λ k. not (bit (byte_at s (o + i)) k) || bit_at m (8 * i + k))
      (λ k h. ap (λ (q : Bool). not (bit (byte_at s (o + i)) k) || q) (sym (bit_in m i k h)))

  -- no bits
  byte_none : (i : ℕ) → byte_at s (o + i) < 256 → zero_byte s o i ≡ byte_in none i
  unfolding byte_in none zero_byte
  byte_none i h = no_bits (byte_at s (o + i)) h

  -- a loop that gathers: one byte more
  pub only_more : (m : List ℕ) (i sum : ℕ) → eqb sum 0 ≡ every i (byte_in (bit_at m)) → byte_at s (o + i) < 256 → byte_at m i < 256
      → eqb (bit_or sum (beside (byte_at s (o + i)) (byte_at m i))) 0 ≡ every (i + 1) (byte_in (bit_at m))
  only_more m i sum e b c = gather_more (byte_in (bit_at m)) i sum (beside (byte_at s (o + i)) (byte_at m i)) e (byte_masked m i b c)

  -- f where b holds, and none where it does not

  pub only_there : (b r : Bool) (f : ℕ → Bool) (n : ℕ) → b ≡ true → r ≡ only_in n s o f → r ≡ only_in n s o (gated b f)
  unfolding gated
  only_there b r f n e q = rw e q

  pub only_zeros : (b r : Bool) (f : ℕ → Bool) (n : ℕ) → Bytes s → b ≡ false → r ≡ zeros n s o → r ≡ only_in n s o (gated b f)
  unfolding gated none
  only_zeros b r f n h e q =
      rw e (q ∙ zeros-all s o n ∙ every_ext n (zero_byte s o) (byte_in none) (λ i l. byte_none i (h (o + i))) ∙ sym (only_bytes n none))

  -- rows of w bytes, each by itself
  unfoldable pub row_in : ℕ → ℕ → (ℕ → Bool) → ℕ → Bool
  row_in used w f r = only_in w s (o + w * r) (gated (ltb r used) f)

  pub by_row_lem : (used w r : ℕ) (f : ℕ → Bool) (b : Bool) → b ≡ only_in w s (o + w * r) (gated (ltb r used) f) → b ≡ row_in used w f r
  unfolding row_in
  by_row_lem used w r f b e = e

  only_rows : (m used w : ℕ) (f : ℕ → Bool) → only_in (m * w) s o (in_rows used w f) ≡ every m (row_in used w f)
  unfolding only_in in_rows gated row_in
  only_rows m used w f =
      ap (λ (x : ℕ). every x G) {x = 8 * (m * w)} {y = m * (8 * w)} (mul_left_comm 8 m w)
      ∙ every_rows m (8 * w) G
      ∙ every_ext m _ _ (λ r l. every_ext (8 * w) (λ k. G (r * (8 * w) + k))
      (λ k. not (bit_at s (8 * (o + w * r) + k)) || (ltb r used && f k)) (λ k h.
      ap₃ (λ (a b c : ℕ). not (bit_at s a) || (ltb b used && f c)) (at r k) (digits_div r h) (digits_mod r h)))
    where
      G : ℕ → Bool
      G k = not (bit_at s (8 * o + k)) || (ltb (k / (8 * w)) used && f (k % (8 * w)))

      at : (r k : ℕ) → 8 * o + (r * (8 * w) + k) ≡ 8 * (o + w * r) + k
      at r k = omega (arith, mul_left_comm r 8 w, mul_comm r w)

  pub by_rows : (m used w : ℕ) (f : ℕ → Bool) (b : Bool) → b ≡ every m (row_in used w f) → b ≡ only_in (m * w) s o (in_rows used w f)
  by_rows m used w f b e = e ∙ sym (only_rows m used w f)

pub ruleset by-each-row = (by_loop, by_rows, by_row_lem)

-- there is room for one more of m rows of w bytes
pub row_fits : (w r m : ℕ) → r < m → w * r + w ≤ m * w
row_fits w r m h = let more : suc r ≤ m = omega arith in omega (arith, mul-suc w r, mul_comm w (suc r), mul-le-mul_right w more)

-- only the bits that pass, as f and g agree on the bits that there are
pub only_ext : (n : ℕ) (s : List ℕ) (o : ℕ) (f g : ℕ → Bool) → ((k : ℕ) → k < 8 * n → f k ≡ g k) → only_in n s o f ≡ only_in n s o g
unfolding only_in
only_ext n s o f g e = every_ext (8 * n) _ _ (λ k l. ap (λ (q : Bool). not (bit_at s (8 * o + k)) || q) (e k l))

-- tests that follow from each other
pub same_test : (a b c d : ℕ) → (a < b → c < d) → (c < d → a < b) → ltb a b ≡ ltb c d
same_test a b c d f g = iff _ _ (λ e. lt-ltb c d (f (ltb-true a b e))) (λ e. lt-ltb a b (g (ltb-true c d e)))
