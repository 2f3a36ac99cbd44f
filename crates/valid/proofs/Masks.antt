-- Laws of masks: their bytes, how one is filled, and that a test with one is a test of what it was made of.
use Prim.Native.Nat.{ℕ, zero, suc, ◌+◌, ◌*◌, ◌/◌, ◌%◌, ◌^◌, ◌-◌, ◌<◌, ◌≤◌}
use native.Mathlib.Nat.{mul_left_comm, pow-suc, mod-lt, mod-eq_of_lt, div-eq_of_lt, div-add-mod'}
use native.Mathlib.Omega.{arith}
use mathlib.Core.Bool.{Bool, ◌&&◌}
use mathlib.Core.List.{List}
use mathlib.Core.Path.{◌≡◌, sym, ap, ap₂, fun_ext, ◌∙◌}
use lib.Arith.{digits_div, digits_mod}
use lib.Dec.{ltb}
use lib.ListN.{length, set}
use lib.Pow.{pow_pos}
use borrow.Author.Tests.{ltb-true, lt-ltb, le-ltb}
use Rattle.base.specs.Bits.{bit, pack}
use Rattle.base.proofs.Truth.{iff}
use Rattle.base.proofs.Bits.{bit-none, bit-pack, pack-bit, pack_ext}
use Rattle.bits.specs.Row.{bit_at}
use Rattle.state.specs.Layout.{peers, periods}
use Rattle.base.specs.Tab.{FilledTo}
use Rattle.base.proofs.Tab.{tab_ext, get_or-tab, length-tab, filled_more, filled_all}
use Rattle.valid.specs.Rows.{only_in, first, in_rows, byte_of, mask}
use Rattle.valid.proofs.Only.{same_test, only_ext}

-- the bits of a mask are those of which it was made
pub bit_mask : (w : ℕ) (f : ℕ → Bool) (k : ℕ) → k < 8 * w → bit_at (mask w f) k ≡ f k
unfolding mask byte_of bit_at
bit_mask w f k l =
    rw (get_or-tab w (byte_of f) (k / 8) 0 (omega arith)) (bit-pack 8 (λ i. f (8 * (k / 8) + i)) (k % 8) (omega arith) ∙ ap f (omega arith))

-- a mask filled from the front: one byte more, all

pub mask_more : (f : ℕ → Bool) (m b v : ℕ) (l : List ℕ) → FilledTo 0 m (byte_of f) b l → v ≡ byte_of f b → b < m
    → FilledTo 0 m (byte_of f) (b + 1) (set l b v)
mask_more f m b v l w e h = filled_more 0 m (byte_of f) b l v h e w

pub mask-all : (f : ℕ → Bool) (m b : ℕ) (l : List ℕ) → FilledTo 0 m (byte_of f) b l → m ≤ b → l ≡ mask m f
unfolding mask
mask-all f m b l w h = filled_all 0 m (byte_of f) b l h w

-- the byte of a row in which the first n bits are 1

pack-first : (w r : ℕ) → r ≤ w → pack w (λ k. ltb k r) + 1 ≡ 2 ^ r
unfolding pack
pack-first w zero h =
    ap (λ (x : ℕ). x + 1)
    (pack_ext w (λ k. ltb k 0) (bit 0) (λ k l. le-ltb k 0 (omega arith) ∙ sym (bit-none k)) ∙ pack-bit w 0 (pow_pos w))
pack-first zero (suc r) h = absurd (omega arith)
pack-first (suc w) (suc r) h =
    rw (
      lt-ltb 0 (suc r) (omega arith),
      pack_ext w (λ k. ltb (suc k) (suc r)) (λ k. ltb k r)
          (λ k l. iff _ _ (λ e. lt-ltb k r (omega (arith, ltb-true (suc k) (suc r) e)))
          (λ e. lt-ltb (suc k) (suc r) (omega (arith, ltb-true k r e)))),
    )
    (omega (arith, pow-suc 2 r, pack-first w r (omega arith)))

first_byte : (n b r : ℕ) → r ≤ 8 → ((k : ℕ) → k < 8 → ltb (8 * b + k) n ≡ ltb k r) → byte_of (first n) b + 1 ≡ 2 ^ r
unfolding byte_of first
first_byte n b r h e = ap (λ (x : ℕ). x + 1) (pack_ext 8 (λ k. ltb (8 * b + k) n) (λ k. ltb k r) e) ∙ pack-first 8 r h

module _ (n b : ℕ) where
  pub first_full : b < n / 8 → 255 ≡ byte_of (first n) b
  first_full h = omega (arith, first_byte n b 8 (omega arith) (λ k l. same_test (8 * b + k) n k 8 (λ q. l) (λ q. omega arith)))

  pub first_past : n / 8 < b → 0 ≡ byte_of (first n) b
  first_past h =
      omega
      (arith, first_byte n b 0 (omega arith) (λ k l. same_test (8 * b + k) n k 0 (λ q. absurd (omega arith)) (λ q. absurd (omega arith))))

  pub first_last : b ≡ n / 8 → 2 ^ (n % 8) - 1 ≡ byte_of (first n) b
  first_last h =
      omega (arith, first_byte n b (n % 8) (omega arith) (λ k l. same_test (8 * b + k) n k (n % 8) (λ q. omega arith) (λ q. omega arith)))

-- the bytes of rows
module _ (used w : ℕ) (f : ℕ → Bool) (b : ℕ) (pos : 0 < w) where
  in_row : (k : ℕ) → k < 8 → ((8 * b + k) / (8 * w) ≡ b / w) × ((8 * b + k) % (8 * w) ≡ 8 * (b % w) + k)
  in_row k l =
      let at : 8 * b + k ≡ b / w * (8 * w) + (8 * (b % w) + k) = omega (arith, div-add-mod' b w, mul_left_comm (b / w) 8 w) in
      let low : 8 * (b % w) + k < 8 * w = omega (arith, mod-lt b pos) in
      (ap (λ (x : ℕ). x / (8 * w)) at ∙ digits_div (b / w) low, ap (λ (x : ℕ). x % (8 * w)) at ∙ digits_mod (b / w) low)

  pub row_byte_lem : b / w < used → byte_of f (b % w) ≡ byte_of (in_rows used w f) b
  unfolding byte_of in_rows
  row_byte_lem h =
      pack_ext 8 (λ k. f (8 * (b % w) + k)) (λ k. ltb ((8 * b + k) / (8 * w)) used && f ((8 * b + k) % (8 * w)))
      (λ k l. sym (rw ((in_row k l).0, (in_row k l).1, lt-ltb (b / w) used h)))

  pub past_rows : used ≤ b / w → 0 ≡ byte_of (in_rows used w f) b
  unfolding byte_of in_rows
  past_rows h =
      sym (pack-bit 8 0 (omega arith))
      ∙ pack_ext 8 (bit 0) (λ k. ltb ((8 * b + k) / (8 * w)) used && f ((8 * b + k) % (8 * w)))
      (λ k l. bit-none k ∙ sym (rw ((in_row k l).0, le-ltb (b / w) used h)))

-- one row alone
pub mask-row : (w : ℕ) (f : ℕ → Bool) → 0 < w → mask w (in_rows 1 w f) ≡ mask w f
unfolding mask byte_of in_rows
mask-row w f pos =
    tab_ext w _ _ (λ b l. pack_ext 8 (λ k. ltb ((8 * b + k) / (8 * w)) 1 && f ((8 * b + k) % (8 * w))) (λ k. f (8 * b + k)) (λ k q.
    let low : 8 * b + k < 8 * w = omega arith in rw (div-eq_of_lt low, mod-eq_of_lt low)))

-- the length of a mask, and tests by it, are those of what it was made of
module _ (m : List ℕ) (w : ℕ) (f : ℕ → Bool) (e : m ≡ mask w f) where
  pub mask-length : length m ≡ w
  unfolding mask
  mask-length = ap length e ∙ length-tab w (byte_of f)

  pub only_of_mask : (s : List ℕ) (o : ℕ) → only_in (length m) s o (bit_at m) ≡ only_in w s o f
  only_of_mask s o = ap₂ (λ (n : ℕ) (l : List ℕ). only_in n s o (bit_at l)) mask-length e ∙ only_ext w s o (bit_at (mask w f)) f (bit_mask w f)

  module _ (pos : 0 < w) where
    mask_rows : (used : ℕ) → in_rows used (length m) (bit_at m) ≡ in_rows used w f
    unfolding in_rows
    mask_rows used =
        ap₂ (λ (n : ℕ) (l : List ℕ). in_rows used n (bit_at l)) mask-length e
        ∙ fun_ext (λ k. ap (λ (x : Bool). ltb (k / (8 * w)) used && x) (bit_mask w f (k % (8 * w)) (mod-lt k (omega arith))))

    pub rows_of_mask : (s : List ℕ) (o rows used : ℕ)
        → only_in (rows * length m) s o (in_rows used (length m) (bit_at m)) ≡ only_in (rows * w) s o (in_rows used w f)
    rows_of_mask s o rows used = ap₂ (λ (x : ℕ) (g : ℕ → Bool). only_in (rows * x) s o g) mask-length (mask_rows used)

    pub tables_of_mask : (s : List ℕ) (o n used : ℕ)
        → only_in (peers * (periods * length m)) s o (in_rows n (periods * length m) (in_rows used (length m) (bit_at m))) ≡ only_in
        (peers * (periods * w)) s o (in_rows n (periods * w) (in_rows used w f))
    tables_of_mask s o n used =
        ap₂ (λ (x : ℕ) (g : ℕ → Bool). only_in (peers * (periods * x)) s o (in_rows n (periods * x) g)) mask-length (mask_rows used)
