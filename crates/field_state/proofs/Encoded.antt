-- The bytes of a canonical box are those of what they say.
use Prim.Native.Nat.{ℕ, ◌+◌, ◌-◌, ◌*◌, ◌/◌, ◌%◌, ◌<◌}
use native.Mathlib.Omega.{arith}
use mathlib.Core.Bool.{Bool}
use mathlib.Core.List.{List}
use mathlib.Core.Path.{◌≡◌, sym, ap, ap₂, ◌∙◌}
use lib.ListN.{length}
use lib.Seq.{ext_get_or}
use Rattle.base.specs.Bits.{bit, pack}
use Rattle.base.specs.Bytes.{byte_at}
use Rattle.base.specs.Tab.{tab}
use Rattle.base.proofs.Bits.{pack_ext, pack-bit, digit-eqb}
use Rattle.base.proofs.Tab.{length-tab, get_or-tab}
use Rattle.bits.specs.Row.{bit_at}
use Rattle.bits.proofs.Number.{num_byte}
use Rattle.state.specs.Layout.{peers, items, count_bytes, item_bytes}
use Rattle.state.proofs.Ranges.{within_cell, within_spot}
use Rattle.state.proofs.Places.{by_test}
use Rattle.field_rules.specs.Box.{Box}
use Rattle.field_state.specs.Layout.{held_at, gave_at, known_at, current_at, to_back_at, down_at, count_at, heard_at, hash_size, hash_start, size}
use Rattle.field_state.specs.Holding.{cell_bit, spot_bit, heard_count, hash_at, heard_in, box_of, Canon, Holds}
use Rattle.field_state.specs.Encode.{cell_at, spot_at, hash_byte, heard_byte, box_byte, encode}
use Rattle.field_state.proofs.Cells.{has-cell, has-spot}
use Rattle.field_state.proofs.Hashes.{heard_length, heard_nth}

module _ (s : List ℕ) (c : Canon s) where
  bits_byte : (f : ℕ → Bool) (b : ℕ) → ((k : ℕ) → k < 8 → f k ≡ bit_at s (8 * b + k)) → pack 8 f ≡ byte_at s b
  unfolding bit_at
  bits_byte f b e =
      pack_ext 8 f (bit (byte_at s b))
      (λ k l. e k l ∙ ap₂ (λ (x y : ℕ). bit (byte_at s x) y) {x = (8 * b + k) / 8} {y = b} (omega arith) (omega arith))
      ∙ pack-bit 8 (byte_at s b) (c.bytes b)

  cell_bits : (o i : ℕ) → i < 64 → (k : ℕ) → k < 8 → cell_at (cell_bit s o) (8 * i + k) ≡ bit_at s (8 * (o + i) + k)
  cell_bits o i l k m = sym
      (has-cell s o ((8 * i + k) / items) ((8 * i + k) % items)
      (within_cell ((8 * i + k) / items) ((8 * i + k) % items) (omega arith, omega arith))) ∙ ap (bit_at s) (omega arith)

  spot_bits : (i : ℕ) → i < 1024 → (k : ℕ) → k < 8 → spot_at (spot_bit s) (8 * i + k) ≡ bit_at s (8 * (known_at + i) + k)
  spot_bits i l k m =
      let a = 8 * i + k in
      sym (has-spot s (a / peers / items) (a / peers % items) (a % peers + 1)
      (within_spot (a % peers + 1) (a / peers / items) (a / peers % items) ((omega arith, omega arith), (omega arith, omega arith))))
      ∙ ap (bit_at s) (omega arith)

  hash_byte_lem : (e o : ℕ) → o < hash_size → hash_byte (hash_at s e) o ≡ byte_at s (hash_start e + o)
  unfolding hash_byte hash_at
  hash_byte_lem e o l =
      by_test Is o 1 _ _ (λ h. ap (byte_at s) (omega arith)) (λ h0.
      by_test Is o 2 _ _ (λ h. ap (byte_at s) (omega arith)) (λ h1.
      num_byte item_bytes s (hash_start e + 2) (o - 2) c.bytes (omega arith) ∙ ap (byte_at s) (omega arith)))
    where
      Is : ℕ → Type 0
      Is v = v ≡ byte_at s (hash_start e + o)

  heard_byte_lem : (e o : ℕ) → o < hash_size → heard_byte (heard_in s) e o ≡ byte_at s (hash_start e + o)
  unfolding heard_byte
  heard_byte_lem e o h =
      by_test Is e (length (heard_in s)) _ _
      (λ l. let m : e < heard_count s = omega (arith, l, heard_length s) in rw (heard_nth s e m) (hash_byte_lem e o h))
      (λ l. sym (c.rest (hash_start e + o) (omega (arith, l, heard_length s))))
    where
      Is : ℕ → Type 0
      Is v = v ≡ byte_at s (hash_start e + o)

  box_byte_lem : (i : ℕ) → box_byte (box_of s) i ≡ byte_at s i
  unfolding box_byte
  box_byte_lem i =
      by_test Is i gave_at _ _ (λ h. bits_byte _ i (λ k m. cell_bits held_at i h k m ∙ ap (bit_at s) (omega arith))) (λ h0.
      by_test Is i known_at _ _ (λ h. bits_byte _ i (λ k m. cell_bits gave_at (i - gave_at) (omega arith) k m ∙ ap (bit_at s) (omega arith)))
      (λ h1.
      by_test Is i current_at _ _ (λ h. bits_byte _ i (λ k m. spot_bits (i - known_at) (omega arith) k m ∙ ap (bit_at s) (omega arith))) (λ h2.
      by_test Is i to_back_at _ _ (λ h. ap (byte_at s) (omega arith)) (λ h3.
      by_test Is i down_at _ _ (λ h. ap (byte_at s) (omega arith)) (λ h4.
      by_test Is i count_at _ _ (λ h. sym (digit-eqb (byte_at s down_at) (omega (arith, c.flag))) ∙ ap (byte_at s) (omega arith)) (λ h5.
      by_test Is i heard_at _ _
      (λ h. rw (heard_length s) (num_byte count_bytes s count_at (i - count_at) c.bytes (omega arith) ∙ ap (byte_at s) (omega arith)))
      (λ h6.
      heard_byte_lem ((i - heard_at) / hash_size) ((i - heard_at) % hash_size) (omega arith) ∙ ap (byte_at s) (omega arith))))))))
    where
      Is : ℕ → Type 0
      Is v = v ≡ byte_at s i

  pub encode_box : encode (box_of s) ≡ s
  unfolding encode
  encode_box =
      ext_get_or 0 (tab size (box_byte (box_of s))) s (length-tab size (box_byte (box_of s)) ∙ sym c.long)
      (λ i h. get_or-tab size (box_byte (box_of s)) i 0 (omega (arith, h, length-tab size (box_byte (box_of s)))) ∙ box_byte_lem i)

-- the bytes are settled by what they say
pub holds_bytes : (s : List ℕ) (b : Box) → Holds s b → s ≡ encode b
holds_bytes s b h = sym (encode_box s h.canon) ∙ ap encode h.says
