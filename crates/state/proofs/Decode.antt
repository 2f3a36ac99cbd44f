-- The bytes of contents for which there is room are canonical, and say those contents.
use Prim.Native.Nat.{ℕ, ◌+◌, ◌-◌, ◌*◌, ◌/◌, ◌%◌, ◌^◌, ◌<◌, ◌≤◌}
use native.Mathlib.Decide.{dec_lt}
use native.Mathlib.Omega.{arith}
use mathlib.Core.Bool.{true, false, ◌&&◌, cond}
use mathlib.Core.List.{List}
use mathlib.Core.Path.{◌≡◌, refl, sym, ap, ap₂, fun_ext, ◌∙◌}
use mathlib.Core.Logic.{◌⊎◌, inl, inr}
use lib.ListN.{length}
use Rattle.base.specs.Bits.{pack}
use Rattle.base.specs.Bytes.{byte_at}
use Rattle.base.proofs.Bits.{pack-lt, bit-pack}
use Rattle.base.proofs.Truth.{either, is_false, split}
use Rattle.bits.specs.Row.{bit_at, Bytes}
use Rattle.bits.specs.Number.{num}
use Rattle.bits.proofs.Number.{num_of}
use Rattle.rules.specs.declared.Entry.{Entry}
use Rattle.state.specs.declared.Fact.{Fact}
use Rattle.state.specs.declared.Number.{Number}
use Rattle.state.specs.Layout.{current_at, count_at, bag_at, entry_size, entry_start, size, signer_in, period_in, board_in, count_bytes, item_bytes}
use Rattle.state.specs.Facts.{in_range, is_peer}
use Rattle.state.specs.Places.{place, fact_at}
use Rattle.state.specs.Numbers.{slot, peer_of, number_of}
use Rattle.rules.specs.Bag.{kind_of, signer_of, period_of, board_of, no_entry, entry_at as nth}
use Rattle.state.specs.Entries.{entry_byte, EntryFits}
use Rattle.base.specs.Tab.{tab}
use Rattle.state.specs.Contents.{Contents, count, entry_at, contents, Settled, Canon, Holds, Fits}
use Rattle.state.specs.Encode.{bag_byte, state_byte, encode}
use Rattle.base.proofs.Tab.{tab_ext, tab-get_or, length-tab, get_or-tab, get_or-tab-out}
use Rattle.state.proofs.Ranges.{range_within, peer_within}
use Rattle.state.proofs.Places.{by_test, before, after, place-lt, fact_at_lem}
use Rattle.state.proofs.Slots.{slot_within, number_at}
use Rattle.state.proofs.Entries.{entry_of_lem, kind_lt, board_byte_lem}

-- a byte of an entry is one
entry_byte_lt : (x : Entry) (o : ℕ) → EntryFits x → entry_byte x o < 256
unfolding entry_byte
entry_byte_lt x o h =
    by_test Is o signer_in _ _ (λ l. kind_lt x) (λ l0.
    by_test Is o period_in _ _ (λ l. h.signer) (λ l1.
    by_test Is o board_in _ _ (λ l. h.period) (λ l2. omega arith)))
  where
    Is : ℕ → Type 0
    Is v = v < 256

module _ (c : Contents) where
  abbrev s : List ℕ
  s = encode c

  byte : (b : ℕ) → b < size → byte_at s b ≡ state_byte c b
  unfolding encode
  byte b l = get_or-tab size (state_byte c) b 0 l

  byte_past : (b : ℕ) → size ≤ b → byte_at s b ≡ 0
  unfolding encode
  byte_past b l = get_or-tab-out size (state_byte c) b 0 l

  -- the four parts of the layout

  fact_byte : (b : ℕ) → b < current_at → byte_at s b ≡ pack 8 (λ k. c.has (fact_at (8 * b + k)))
  unfolding state_byte
  fact_byte b l = byte b (omega arith) ∙ before b current_at _ _ _ l refl

  slot_byte : (b : ℕ) → current_at ≤ b → b < count_at → byte_at s b ≡ c.number (number_of b)
  unfolding state_byte
  slot_byte b l h = byte b (omega arith) ∙ after b current_at _ _ _ l (before b count_at _ _ _ h refl)

  count_byte : (k : ℕ) → k < count_bytes → byte_at s (count_at + k) ≡ length c.bag / 256 ^ k % 256
  unfolding state_byte
  count_byte k l =
      let b = count_at + k in
      byte b (omega arith)
      ∙ after b current_at _ _ _ (omega arith)
      (after b count_at _ _ _ (omega arith)
      (before b bag_at _ _ _ (omega arith) (ap (λ (n : ℕ). length c.bag / 256 ^ n % 256) (omega arith))))

  bag_byte_lem : (b : ℕ) → bag_at ≤ b → b < size → byte_at s b ≡ bag_byte c.bag ((b - bag_at) / entry_size) ((b - bag_at) % entry_size)
  unfolding state_byte
  bag_byte_lem b l h = byte b h ∙ after b current_at _ _ _ (omega arith) (after b count_at _ _ _ (omega arith) (after b bag_at _ _ _ l refl))

  module _ (fits : Fits c) where
    bytes : Bytes s
    unfolding state_byte bag_byte
    bytes b = go (dec_lt b size)
      where
        Is : ℕ → Type 0
        Is v = v < 256

        go : Dec (b < size) → byte_at s b < 256
        go (no l) = rw (byte_past b (omega arith)) (omega arith)
        go (yes l) =
            rw (byte b l) (
            by_test Is b current_at _ _ (λ h. pack-lt 8 (λ k. c.has (fact_at (8 * b + k)))) (λ h0.
            by_test Is b count_at _ _ (λ h. fits.small (number_of b)) (λ h1.
            by_test Is b bag_at _ _ (λ h. omega arith) (λ h2.
            by_test Is ((b - bag_at) / entry_size) (length c.bag) _ _ (λ h. entry_byte_lt _ _ (fits.entry ((b - bag_at) / entry_size) h))
            (λ h. omega arith)))))

    counted : count s ≡ length c.bag
    counted = num_of count_bytes s count_at (length c.bag) (omega (arith, fits.counted)) count_byte

    -- an entry's bytes
    entry_byte_lem : (e o : ℕ) → e < length c.bag → o < entry_size → byte_at s (entry_start e + o) ≡ entry_byte (nth c.bag e) o
    unfolding bag_byte
    entry_byte_lem e o l h =
        let b = entry_start e + o in
        bag_byte_lem b (omega arith) (omega (arith, fits.counted))
        ∙ ap₂ (bag_byte c.bag) {x = (b - bag_at) / entry_size} {y = e} (omega arith) (omega arith)
        ∙ before e (length c.bag) _ _ _ l refl

    module _ (e : ℕ) (l : e < length c.bag) where
      abbrev x : Entry
      x = nth c.bag e

      kind_byte_lem : byte_at s (entry_start e) ≡ kind_of x
      unfolding entry_byte
      kind_byte_lem = ap (byte_at s) (omega arith) ∙ entry_byte_lem e 0 l (omega arith)

      signer_byte : byte_at s (entry_start e + signer_in) ≡ signer_of x
      unfolding entry_byte
      signer_byte = entry_byte_lem e signer_in l (omega arith)

      period_byte : byte_at s (entry_start e + period_in) ≡ period_of x
      unfolding entry_byte
      period_byte = entry_byte_lem e period_in l (omega arith)

      board-bytes : num item_bytes s (entry_start e + board_in) ≡ board_of x
      board-bytes =
          num_of item_bytes s (entry_start e + board_in) (board_of x) (fits.entry e l).board
          (λ k h. ap (byte_at s) (omega arith) ∙ entry_byte_lem e (board_in + k) l (omega arith) ∙ board_byte_lem x k)

      entry_there : entry_at s e ≡ x
      unfolding entry_at
      entry_there = rw (kind_byte_lem, signer_byte, period_byte, board-bytes) (entry_of_lem x)

      settled : Settled s e
      settled = record { kind = kind_byte_lem ∙ ap kind_of (sym entry_there); signer = signer_byte ∙ ap signer_of (sym entry_there) }

    rest : (i : ℕ) → entry_start (count s) ≤ i → byte_at s i ≡ 0
    unfolding bag_byte
    rest i l = go (dec_lt i size)
      where
        go : Dec (i < size) → byte_at s i ≡ 0
        go (no h) = byte_past i (omega arith)
        go (yes h) = bag_byte_lem i (omega arith) h ∙ after ((i - bag_at) / entry_size) (length c.bag) _ _ _ (omega (arith, counted)) refl

    canon : Canon s
    unfolding encode
    canon =
        record {
          long = length-tab size (state_byte c);
          bytes = bytes;
          counted = rw counted fits.counted;
          settled = λ e h. settled e (omega (arith, counted));
          rest = rest;
        }

    -- what they say

    member : (f : Fact) → (in_range f ≡ true) ⊎ (in_range f ≡ false) → (in_range f && bit_at s (place f)) ≡ c.has f
    unfolding bit_at
    member f (inr e) = rw e (sym (is_false (c.has f) (λ h. split (fits.facts f h) e)))
    member f (inl e) =
        let w = range_within f e in
        let a = place f in
        rw (e, fact_byte (a / 8) (omega (arith, place-lt f w)), bit-pack 8 (λ k. c.has (fact_at (8 * (a / 8) + k))) (a % 8) (omega arith))
        (ap (λ (n : ℕ). c.has (fact_at n)) {x = 8 * (a / 8) + a % 8} {y = a} (omega arith) ∙ ap c.has (fact_at_lem f w))

    value : (n : Number) → (is_peer (peer_of n) ≡ true) ⊎ (is_peer (peer_of n) ≡ false)
        → cond (is_peer (peer_of n)) (byte_at s (slot n)) 0 ≡ c.number n
    value n (inr e) = rw e (sym (fits.others n e))
    value n (inl e) =
        let w = peer_within (peer_of n) e in
        let r = slot_within n w in
        rw e (slot_byte (slot n) r.0 r.1 ∙ ap c.number (number_at n w))

    bag : tab (count s) (entry_at s) ≡ c.bag
    bag =
        ap (λ (n : ℕ). tab n (entry_at s)) counted ∙ tab_ext (length c.bag) (entry_at s) (nth c.bag) entry_there
        ∙ tab-get_or c.bag no_entry

    pub encode_holds : Holds (encode c) c
    unfolding contents
    encode_holds =
        record {
          canon = canon;
          says =
              λ i. record {
                has = fun_ext (λ f. member f (either (in_range f))) i;
                number = fun_ext (λ n. value n (either (is_peer (peer_of n)))) i;
                bag = bag i;
              };
        }
