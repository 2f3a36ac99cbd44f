-- The bytes of a box for which there is room are canonical, and say that box.
use Prim.Native.Nat.{ℕ, ◌+◌, ◌-◌, ◌*◌, ◌/◌, ◌%◌, ◌^◌, ◌<◌, ◌≤◌}
use native.Mathlib.Decide.{dec_lt}
use native.Mathlib.Omega.{arith}
use mathlib.Core.Bool.{Bool, true, false, cond}
use mathlib.Core.List.{List}
use mathlib.Core.Path.{◌≡◌, refl, sym, ap, ap₂, fun_ext, ◌∙◌}
use mathlib.Core.Logic.{◌⊎◌, inl, inr}
use lib.Dec.{eqb, ltb}
use lib.ListN.{length}
use Rattle.base.specs.Bits.{bit, pack, digit}
use Rattle.field_state.proofs.Cells.{has-cell, no_cell, has-spot, no_spot}
use Rattle.base.specs.Bytes.{byte_at}
use Rattle.base.specs.Tab.{tab}
use Rattle.base.proofs.Bits.{pack-lt, bit-pack, digit_lt}
use Rattle.base.proofs.Tab.{tab_ext, tab-get_or, length-tab, get_or-tab, get_or-tab-out}
use Rattle.base.proofs.Truth.{either, is_false, split, false_true}
use Rattle.bits.specs.Row.{bit_at, Bytes}
use Rattle.bits.proofs.Number.{num_of}
use Rattle.rules.specs.declared.Entry.{Entry}
use Rattle.rules.specs.declared.Entry.TheVariants.{Hash, Backing, Board}
use Rattle.rules.specs.Bag.{signer_of, period_of, board_of, is_hash, no_entry, entry_at as nth}
use Rattle.state.specs.Layout.{peers, items, entries, count_bytes, item_bytes}
use Rattle.state.specs.Facts.{is_cell, is_spot}
use Rattle.state.specs.Places.{cell}
use Rattle.state.specs.Entries.{EntryFits}
use Rattle.state.proofs.Places.{by_test, before, after}
use Rattle.state.proofs.Ranges.{cell_within, spot_within}
use Rattle.field_rules.specs.Box.{Box}
use Rattle.field_state.specs.Layout.{held_at, gave_at, known_at, current_at, to_back_at, down_at, count_at, heard_at, hash_size, hash_start, size}
use Rattle.field_state.specs.Holding.{cell_bit, spot_bit, heard_count, hash_at, heard_in, Holds}
use Rattle.field_state.specs.Encode.{cell_at, spot_at, hash_byte, heard_byte, box_byte, encode}

-- there is room for the box
pub record Fits (b : Box) : Type 0 where
  pub held : (p x : ℕ) → b.held p x ≡ true → is_cell p x ≡ true
  pub gave : (p x : ℕ) → b.gave p x ≡ true → is_cell p x ≡ true
  pub known : (p x k : ℕ) → b.db p x k ≡ true → is_spot k p x ≡ true
  pub current : b.current < 256
  pub to_back : b.to_back < 256
  pub counted : length b.heard ≤ entries
  pub entry : (e : ℕ) → e < length b.heard → EntryFits (nth b.heard e)
  pub hash : (e : ℕ) → e < length b.heard → is_hash (nth b.heard e) ≡ true

hash_byte_lt : (x : Entry) (o : ℕ) → EntryFits x → hash_byte x o < 256
unfolding hash_byte
hash_byte_lt x o h = by_test Is o 1 _ _ (λ l. h.signer) (λ l0. by_test Is o 2 _ _ (λ l. h.period) (λ l1. omega arith))
  where
    Is : ℕ → Type 0
    Is v = v < 256

hash_of : (x : Entry) → is_hash x ≡ true → Hash (signer_of x) (period_of x) (board_of x) ≡ x
hash_of (Hash k p B) e = refl
hash_of (Backing k p B) e = false_true e
hash_of (Board p B) e = false_true e

module _ (b : Box) where
  abbrev s : List ℕ
  s = encode b

  byte : (i : ℕ) → i < size → byte_at s i ≡ box_byte b i
  unfolding encode
  byte i l = get_or-tab size (box_byte b) i 0 l

  byte_past : (i : ℕ) → size ≤ i → byte_at s i ≡ 0
  unfolding encode
  byte_past i l = get_or-tab-out size (box_byte b) i 0 l

  held_byte : (i : ℕ) → i < gave_at → byte_at s i ≡ pack 8 (λ k. cell_at b.held (8 * i + k))
  unfolding box_byte
  held_byte i l = byte i (omega arith) ∙ before i gave_at _ _ _ l refl

  gave_byte : (i : ℕ) → gave_at ≤ i → i < known_at → byte_at s i ≡ pack 8 (λ k. cell_at b.gave (8 * (i - gave_at) + k))
  unfolding box_byte
  gave_byte i l m = byte i (omega arith) ∙ after i gave_at _ _ _ l (before i known_at _ _ _ m refl)

  known_byte : (i : ℕ) → known_at ≤ i → i < current_at → byte_at s i ≡ pack 8 (λ k. spot_at b.db (8 * (i - known_at) + k))
  unfolding box_byte
  known_byte i l m = byte i (omega arith) ∙ after i gave_at _ _ _ (omega arith) (after i known_at _ _ _ l (before i current_at _ _ _ m refl))

  current_byte : byte_at s current_at ≡ b.current
  unfolding box_byte
  current_byte = byte current_at (omega arith)

  to_back_byte : byte_at s to_back_at ≡ b.to_back
  unfolding box_byte
  to_back_byte = byte to_back_at (omega arith)

  down_byte : byte_at s down_at ≡ digit b.down
  unfolding box_byte
  down_byte = byte down_at (omega arith)

  past : (i : ℕ) → count_at ≤ i → i < size → byte_at s i ≡ cond (ltb i heard_at) (length b.heard / 256 ^ (i - count_at) % 256)
      (heard_byte b.heard ((i - heard_at) / hash_size) ((i - heard_at) % hash_size))
  unfolding box_byte
  past i l m = byte i m ∙ after i gave_at _ _ _ (omega arith) (after i known_at _ _ _ (omega arith) (after i current_at _ _ _ (omega arith)
      (after i to_back_at _ _ _ (omega arith) (after i down_at _ _ _ (omega arith) (after i count_at _ _ _ l refl)))))

  count_byte : (k : ℕ) → k < count_bytes → byte_at s (count_at + k) ≡ length b.heard / 256 ^ k % 256
  count_byte k l = past (count_at + k) (omega arith) (omega arith)
      ∙ before (count_at + k) heard_at _ _ _ (omega arith) (ap (λ (n : ℕ). length b.heard / 256 ^ n % 256) (omega arith))

  heard_byte_lem : (i : ℕ) → heard_at ≤ i → i < size → byte_at s i ≡ heard_byte b.heard ((i - heard_at) / hash_size) ((i - heard_at) % hash_size)
  heard_byte_lem i l m = past i (omega arith) m ∙ after i heard_at _ _ _ l refl

  module _ (fits : Fits b) where
    bytes : Bytes s
    unfolding box_byte heard_byte
    bytes i = go (dec_lt i size)
      where
        Is : ℕ → Type 0
        Is v = v < 256

        go : Dec (i < size) → byte_at s i < 256
        go (no l) = rw (byte_past i (omega arith)) (omega arith)
        go (yes l) =
            rw (byte i l) (
            by_test Is i gave_at _ _ (λ h. pack-lt 8 _) (λ h0.
            by_test Is i known_at _ _ (λ h. pack-lt 8 _) (λ h1.
            by_test Is i current_at _ _ (λ h. pack-lt 8 _) (λ h2.
            by_test Is i to_back_at _ _ (λ h. fits.current) (λ h3.
            by_test Is i down_at _ _ (λ h. fits.to_back) (λ h4.
            by_test Is i count_at _ _ (λ h. omega (arith, digit_lt b.down)) (λ h5.
            by_test Is i heard_at _ _ (λ h. omega arith) (λ h6.
            by_test Is ((i - heard_at) / hash_size) (length b.heard) _ _ (λ h. hash_byte_lt _ _ (fits.entry ((i - heard_at) / hash_size) h))
            (λ h. omega arith)))))))))

    counted : heard_count s ≡ length b.heard
    counted = num_of count_bytes s count_at (length b.heard) (omega (arith, fits.counted)) count_byte

    hash_byte_lem : (e o : ℕ) → e < length b.heard → o < hash_size → byte_at s (hash_start e + o) ≡ hash_byte (nth b.heard e) o
    unfolding heard_byte
    hash_byte_lem e o l h =
        let i = hash_start e + o in
        heard_byte_lem i (omega arith) (omega (arith, fits.counted))
        ∙ ap₂ (heard_byte b.heard) {x = (i - heard_at) / hash_size} {y = e} (omega arith) (omega arith)
        ∙ before e (length b.heard) _ _ _ l refl

    hash_there : (e : ℕ) → e < length b.heard → hash_at s e ≡ nth b.heard e
    unfolding hash_at hash_byte
    hash_there e l =
        let x = nth b.heard e in
        rw (
          ap (byte_at s) {x = hash_start e} {y = hash_start e + 0} (omega arith) ∙ hash_byte_lem e 0 l (omega arith),
          hash_byte_lem e 1 l (omega arith),
          num_of item_bytes s (hash_start e + 2) (board_of x) (fits.entry e l).board
              (λ k h. ap (byte_at s) {x = hash_start e + 2 + k} {y = hash_start e + (2 + k)} (omega arith) ∙ hash_byte_lem e (2 + k) l
              (omega arith)
              ∙ after (2 + k) 1 _ _ _ (omega arith)
              (after (2 + k) 2 _ _ _ (omega arith) (ap (λ (n : ℕ). board_of x / 256 ^ n % 256) (omega arith)))),
        ) (hash_of x (fits.hash e l))

    rest : (i : ℕ) → hash_start (heard_count s) ≤ i → byte_at s i ≡ 0
    unfolding heard_byte
    rest i l = go (dec_lt i size)
      where
        go : Dec (i < size) → byte_at s i ≡ 0
        go (no h) = byte_past i (omega arith)
        go (yes h) = heard_byte_lem i (omega arith) h ∙ after ((i - heard_at) / hash_size) (length b.heard) _ _ _ (omega (arith, counted, l))
            refl

    bit-of : (f : ℕ → Bool) (i k : ℕ) → k < 8 → byte_at s i ≡ pack 8 f → bit_at s (8 * i + k) ≡ f k
    unfolding bit_at
    bit-of f i k l e = rw (ap (byte_at s) {x = (8 * i + k) / 8} {y = i} (omega arith) ∙ e)
        (ap (bit (pack 8 f)) {x = (8 * i + k) % 8} {y = k} (omega arith) ∙ bit-pack 8 f k l)

    held_said : (p x : ℕ) → (is_cell p x ≡ true) ⊎ (is_cell p x ≡ false) → cell_bit s held_at p x ≡ b.held p x
    held_said p x (inr e) = no_cell s held_at p x e ∙ sym (is_false (b.held p x) (λ t. split (fits.held p x t) e))
    held_said p x (inl e) =
        let w = cell_within p x e in
        let a = cell p x in
        sym (has-cell s held_at p x e)
        ∙ ap (bit_at s) {x = 8 * held_at + a} {y = 8 * (a / 8) + a % 8} (omega arith)
        ∙ bit-of (λ k. cell_at b.held (8 * (a / 8) + k)) (a / 8) (a % 8) (omega arith) (held_byte (a / 8) (omega (arith, w.0, w.1)))
        ∙ ap₂ b.held {x = (8 * (a / 8) + a % 8) / items} {y = p} (omega (arith, w.1)) (omega (arith, w.1))

    gave_said : (p x : ℕ) → (is_cell p x ≡ true) ⊎ (is_cell p x ≡ false) → cell_bit s gave_at p x ≡ b.gave p x
    gave_said p x (inr e) = no_cell s gave_at p x e ∙ sym (is_false (b.gave p x) (λ t. split (fits.gave p x t) e))
    gave_said p x (inl e) =
        let w = cell_within p x e in
        let a = cell p x in
        let i = gave_at + a / 8 in
        sym (has-cell s gave_at p x e)
        ∙ ap (bit_at s) {x = 8 * gave_at + a} {y = 8 * i + a % 8} (omega arith)
        ∙ bit-of (λ k. cell_at b.gave (8 * (i - gave_at) + k)) i (a % 8) (omega arith)
        (gave_byte i (omega arith) (omega (arith, w.0, w.1)))
        ∙ ap₂ b.gave {x = (8 * (i - gave_at) + a % 8) / items} {y = p} (omega (arith, w.1)) (omega (arith, w.1))

    known_said : (p x k : ℕ) → (is_spot k p x ≡ true) ⊎ (is_spot k p x ≡ false) → spot_bit s p x k ≡ b.db p x k
    known_said p x k (inr e) = no_spot s p x k e ∙ sym (is_false (b.db p x k) (λ t. split (fits.known p x k t) e))
    known_said p x k (inl e) =
        let w = spot_within k p x e in
        let a = cell p x * peers + (k - 1) in
        let i = known_at + a / 8 in
        let n : (8 * (i - known_at) + a % 8) / peers ≡ cell p x = omega (arith, w.0.0, w.0.1) in
        let l : (8 * (i - known_at) + a % 8) % peers + 1 ≡ k = omega (arith, w.0.0, w.0.1) in
        sym (has-spot s p x k e)
        ∙ ap (bit_at s) {x = 8 * known_at + a} {y = 8 * i + a % 8} (omega arith)
        ∙ bit-of (λ k. spot_at b.db (8 * (i - known_at) + k)) i (a % 8) (omega arith)
        (known_byte i (omega arith) (omega (arith, w.0.0, w.0.1, w.1.0, w.1.1)))
        ∙ ap₂ (λ (m v : ℕ). b.db (m / items) (m % items) v) n l
        ∙ ap₂ (λ (q y : ℕ). b.db q y k) {x = cell p x / items} {y = p} (omega (arith, w.1.1)) (omega (arith, w.1.1))

    down_said : (d : Bool) → eqb (digit d) 1 ≡ d
    down_said true = refl
    down_said false = refl

    heard_said : heard_in s ≡ b.heard
    unfolding heard_in
    heard_said =
        ap (λ (n : ℕ). tab n (hash_at s)) counted ∙ tab_ext (length b.heard) (hash_at s) (nth b.heard) hash_there
        ∙ tab-get_or b.heard no_entry

    pub encode_holds : Holds (encode b) b
    unfolding encode
    encode_holds = record {
      canon = record {
        long = length-tab size (box_byte b);
        bytes = bytes;
        flag = rw down_byte (omega (arith, digit_lt b.down));
        counted = rw counted fits.counted;
        rest = rest;
      };
      says = λ i. record {
        down = (ap (λ (v : ℕ). eqb v 1) down_byte ∙ down_said b.down) i;
        held = fun_ext (λ p. fun_ext (λ x. held_said p x (either (is_cell p x)))) i;
        db = fun_ext (λ p. fun_ext (λ x. fun_ext (λ k. known_said p x k (either (is_spot k p x))))) i;
        gave = fun_ext (λ p. fun_ext (λ x. gave_said p x (either (is_cell p x)))) i;
        current = current_byte i;
        to_back = to_back_byte i;
        heard = heard_said i;
      };
    }
