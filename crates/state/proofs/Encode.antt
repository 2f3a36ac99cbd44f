-- The bytes of a canonical state are those of what they say.
use Prim.Native.Nat.{ℕ, ◌+◌, ◌-◌, ◌*◌, ◌/◌, ◌%◌, ◌^◌, ◌<◌, ◌≤◌}
use native.Mathlib.Omega.{arith}
use mathlib.Core.List.{List}
use mathlib.Core.Path.{◌≡◌, sym, ap, ap₂, ◌∙◌}
use lib.ListN.{length}
use lib.Seq.{ext_get_or}
use Rattle.base.specs.Bits.{bit, pack}
use Rattle.base.specs.Bytes.{byte_at}
use Rattle.base.proofs.Bits.{pack_ext, pack-bit}
use Rattle.bits.specs.Row.{bit_at}
use Rattle.bits.specs.Number.{num}
use Rattle.bits.proofs.Number.{num_byte}
use Rattle.state.specs.Layout.{current_at, count_at, bag_at, entry_size, entry_start, size, signer_in, period_in, board_in, count_bytes, item_bytes}
use Rattle.state.specs.Places.{fact_at}
use Rattle.state.specs.Numbers.{peer_of, number_of}
use Rattle.rules.specs.Bag.{period_of, board_of, no_entry, entry_at as nth}
use Rattle.state.specs.Entries.{entry_byte}
use Rattle.base.specs.Tab.{tab}
use Rattle.state.specs.Contents.{Contents, count, entry_at, contents, Canon, Holds}
use Rattle.state.specs.Encode.{bag_byte, state_byte, encode}
use Rattle.base.proofs.Tab.{length-tab, get_or-tab}
use Rattle.state.proofs.Ranges.{within_range, within_peer}
use Rattle.state.proofs.Places.{by_test, at_place}
use Rattle.state.proofs.Slots.{at_slot}
use Rattle.state.proofs.Entries.{period_of_lem, board-of}
use Rattle.state.proofs.Frame.{has-bit, number_byte}

-- the period and the board of an entry, as its bytes have them

pub entry_period : (s : List ℕ) (e : ℕ) → period_of (entry_at s e) ≡ byte_at s (entry_start e + period_in)
unfolding entry_at
entry_period s e = period_of_lem _ _ _ _

pub entry_board : (s : List ℕ) (e : ℕ) → board_of (entry_at s e) ≡ num item_bytes s (entry_start e + board_in)
unfolding entry_at
entry_board s e = board-of _ _ _ _

-- entry e of what the bytes say
pub entry_nth : (s : List ℕ) (e : ℕ) → e < count s → nth (contents s).bag e ≡ entry_at s e
unfolding contents
entry_nth s e l = get_or-tab (count s) (entry_at s) e no_entry l

-- how many entries there are
pub bag_length : (s : List ℕ) → length (contents s).bag ≡ count s
unfolding contents
bag_length s = length-tab (count s) (entry_at s)

module _ (s : List ℕ) (c : Canon s) where
  -- a byte of facts
  fact_byte : (b : ℕ) → b < current_at → pack 8 (λ k. (contents s).has (fact_at (8 * b + k))) ≡ byte_at s b
  unfolding bit_at
  fact_byte b l = pack_ext 8 (λ k. (contents s).has (fact_at (8 * b + k))) (bit (byte_at s b)) one ∙ pack-bit 8 (byte_at s b) (c.bytes b)
    where
      one : (k : ℕ) → k < 8 → (contents s).has (fact_at (8 * b + k)) ≡ bit (byte_at s b) k
      one k h =
          let f = at_place (8 * b + k) (omega arith) in
          sym (has-bit s (fact_at (8 * b + k)) (within_range (fact_at (8 * b + k)) f.0))
          ∙ ap (bit_at s) f.1
          ∙ ap₂ (λ (x y : ℕ). bit (byte_at s x) y) {x = (8 * b + k) / 8} {y = b} (omega arith) (omega arith)

  -- a byte of numbers
  slot_byte : (b : ℕ) → current_at ≤ b → b < count_at → (contents s).number (number_of b) ≡ byte_at s b
  slot_byte b l h =
      let n = at_slot b l h in sym (number_byte s (number_of b) (within_peer (peer_of (number_of b)) n.0)) ∙ ap (byte_at s) n.1

  -- a byte of the count
  count_byte : (b : ℕ) → count_at ≤ b → b < bag_at → length (contents s).bag / 256 ^ (b - count_at) % 256 ≡ byte_at s b
  count_byte b l h = rw (bag_length s) (num_byte count_bytes s count_at (b - count_at) c.bytes (omega arith) ∙ ap (byte_at s) (omega arith))

  -- a byte of an entry
  entry_byte_lem : (e o : ℕ) → e < count s → o < entry_size → entry_byte (entry_at s e) o ≡ byte_at s (entry_start e + o)
  unfolding entry_byte
  entry_byte_lem e o l h =
      by_test Is o signer_in _ _ (λ h0. sym (c.settled e l).kind ∙ ap (byte_at s) (omega arith)) (λ h0.
      by_test Is o period_in _ _ (λ h1. sym (c.settled e l).signer ∙ ap (byte_at s) (omega arith)) (λ h1.
      by_test Is o board_in _ _ (λ h2. entry_period s e ∙ ap (byte_at s) (omega arith)) (λ h2.
      rw (entry_board s e) (num_byte item_bytes s (entry_start e + board_in) (o - board_in) c.bytes (omega arith) ∙ ap (byte_at s)
      (omega arith)))))
    where
      Is : ℕ → Type 0
      Is v = v ≡ byte_at s (entry_start e + o)

  -- a byte of the bag, also past the last entry
  bag_byte_lem : (e o : ℕ) → o < entry_size → bag_byte (contents s).bag e o ≡ byte_at s (entry_start e + o)
  unfolding bag_byte
  bag_byte_lem e o h =
      by_test Is e (length (contents s).bag) _ _
      (λ l. let m : e < count s = omega (arith, bag_length s) in rw (entry_nth s e m) (entry_byte_lem e o m h))
      (λ l. sym (c.rest (entry_start e + o) (omega (arith, bag_length s))))
    where
      Is : ℕ → Type 0
      Is v = v ≡ byte_at s (entry_start e + o)

  state_byte_lem : (b : ℕ) → state_byte (contents s) b ≡ byte_at s b
  unfolding state_byte
  state_byte_lem b =
      by_test Is b current_at _ _ (λ h. fact_byte b h) (λ h0.
      by_test Is b count_at _ _ (λ h. slot_byte b h0 h) (λ h1.
      by_test Is b bag_at _ _ (λ h. count_byte b h1 h) (λ h2.
      bag_byte_lem ((b - bag_at) / entry_size) ((b - bag_at) % entry_size) (omega arith) ∙ ap (byte_at s) (omega arith))))
    where
      Is : ℕ → Type 0
      Is v = v ≡ byte_at s b

  pub encode-contents : encode (contents s) ≡ s
  unfolding encode
  encode-contents =
      ext_get_or 0 (tab size (state_byte (contents s))) s (length-tab size (state_byte (contents s)) ∙ sym c.long)
      (λ b h. get_or-tab size (state_byte (contents s)) b 0 (omega (arith, length-tab size (state_byte (contents s)))) ∙ state_byte_lem b)

-- the bytes are settled by what they say
pub holds_bytes : (s : List ℕ) (c : Contents) → Holds s c → s ≡ encode c
holds_bytes s c h = sym (encode-contents s h.canon) ∙ ap encode h.says
