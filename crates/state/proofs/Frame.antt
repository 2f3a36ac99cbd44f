-- Two states whose bytes agree in a part of the layout say the same there.
use Prim.Native.Nat.{ℕ, ◌+◌, ◌/◌, ◌<◌, ◌≤◌}
use native.Mathlib.Omega.{arith}
use mathlib.Core.Bool.{Bool, true, false, ◌&&◌, cond}
use mathlib.Core.List.{List}
use mathlib.Core.Path.{◌≡◌, sym, ap, ◌∙◌}
use mathlib.Core.Logic.{◌⊎◌, inl, inr}
use lib.ListN.{length}
use Rattle.base.specs.Bytes.{byte_at}
use Rattle.base.proofs.Truth.{either}
use Rattle.bits.specs.Row.{bit_at, Bytes}
use Rattle.bits.proofs.Row.{bit_at_same}
use Rattle.bits.proofs.Number.{num_ext}
use Rattle.state.specs.declared.Fact.{Fact}
use Rattle.state.specs.declared.Number.{Number}
use Rattle.state.specs.Layout.{current_at, count_at, entry_size, entry_start, signer_in, period_in, board_in, count_bytes, item_bytes}
use Rattle.state.specs.Facts.{in_range, is_peer}
use Rattle.state.specs.Places.{place}
use Rattle.state.specs.Numbers.{peer_of, slot}
use Rattle.base.specs.Tab.{tab}
use Rattle.state.specs.Contents.{count, entry_at, contents, Settled, Canon}
use Rattle.base.proofs.Tab.{tab_ext}
use Rattle.state.proofs.Ranges.{range_within, peer_within}
use Rattle.state.proofs.Places.{place-lt}
use Rattle.state.proofs.Slots.{slot_within}

-- what a fact in range, and a number of a peer, are read from

pub has-bit : (s : List ℕ) (f : Fact) → in_range f ≡ true → bit_at s (place f) ≡ (contents s).has f
unfolding contents
has-bit s f e = rw e

pub has-none : (s : List ℕ) (f : Fact) → in_range f ≡ false → (contents s).has f ≡ false
unfolding contents
has-none s f e = rw e

-- a fact read at its place, where a test found it in range
module _ (s : List ℕ) (f : Fact) {b : Bool} (e : b ≡ in_range f) where
  pub there_yes : (a : ℕ) {r : Bool} → b ≡ true → r ≡ bit_at s a → a ≡ place f → r ≡ (contents s).has f
  there_yes a t r p = r ∙ ap (bit_at s) p ∙ has-bit s f (sym e ∙ t)

  pub there_no : b ≡ false → b ≡ (contents s).has f
  there_no t = t ∙ sym (has-none s f (sym e ∙ t))

pub number_byte : (s : List ℕ) (n : Number) → is_peer (peer_of n) ≡ true → byte_at s (slot n) ≡ (contents s).number n
unfolding contents
number_byte s n e = rw e

pub number_none : (s : List ℕ) (n : Number) → is_peer (peer_of n) ≡ false → (contents s).number n ≡ 0
unfolding contents
number_none s n e = rw e

module _ (t s : List ℕ) where
  pub has_same : ((i : ℕ) → i < current_at → byte_at t i ≡ byte_at s i) → (f : Fact) → (contents t).has f ≡ (contents s).has f
  unfolding contents
  has_same same f = go (either (in_range f))
    where
      go : (in_range f ≡ true) ⊎ (in_range f ≡ false) → (in_range f && bit_at t (place f)) ≡ (in_range f && bit_at s (place f))
      go (inl e) =
          ap (λ (b : Bool). in_range f && b) (bit_at_same t s (place f) (same (place f / 8) (omega (arith, place-lt f (range_within f e)))))
      go (inr e) = rw e

  pub number_same : ((i : ℕ) → current_at ≤ i → i < count_at → byte_at t i ≡ byte_at s i) → (n : Number)
      → (contents t).number n ≡ (contents s).number n
  unfolding contents
  number_same same n = go (either (is_peer (peer_of n)))
    where
      go : (is_peer (peer_of n) ≡ true) ⊎ (is_peer (peer_of n) ≡ false)
          → cond (is_peer (peer_of n)) (byte_at t (slot n)) 0 ≡ cond (is_peer (peer_of n)) (byte_at s (slot n)) 0
      go (inl e) =
          let w = slot_within n (peer_within (peer_of n) e) in ap (λ (v : ℕ). cond (is_peer (peer_of n)) v 0) (same (slot n) w.0 w.1)
      go (inr e) = rw e

  pub entry_same : (e : ℕ) → ((i : ℕ) → entry_start e ≤ i → i < entry_start e + entry_size → byte_at t i ≡ byte_at s i)
      → entry_at t e ≡ entry_at s e
  unfolding entry_at
  entry_same e same =
      rw (
        same (entry_start e) (omega arith) (omega arith),
        same (entry_start e + signer_in) (omega arith) (omega arith),
        same (entry_start e + period_in) (omega arith) (omega arith),
        num_ext item_bytes t s (entry_start e + board_in) (λ i p q. same i (omega arith) (omega arith)),
      )

  pub settled_same : (e : ℕ) → ((i : ℕ) → entry_start e ≤ i → i < entry_start e + entry_size → byte_at t i ≡ byte_at s i)
      → Settled s e → Settled t e
  settled_same e same w =
      record {
        kind = rw (entry_same e same, same (entry_start e) (omega arith) (omega arith)) w.kind;
        signer = rw (entry_same e same, same (entry_start e + signer_in) (omega arith) (omega arith)) w.signer;
      }

  -- from the count on
  module _ (same : (i : ℕ) → count_at ≤ i → byte_at t i ≡ byte_at s i) where
    count_same : count t ≡ count s
    count_same = num_ext count_bytes t s count_at (λ i p q. same i p)

    pub bag_same : (contents t).bag ≡ (contents s).bag
    unfolding contents
    bag_same =
        ap (λ (n : ℕ). tab n (entry_at t)) count_same
        ∙ tab_ext (count s) (entry_at t) (entry_at s) (λ e l. entry_same e (λ i p q. same i (omega arith)))

    pub canon_same : Canon s → length t ≡ length s → Bytes t → Canon t
    canon_same c l b =
        record {
          long = l ∙ c.long;
          bytes = b;
          counted = rw count_same c.counted;
          settled = λ e h. settled_same e (λ i p q. same i (omega arith)) (c.settled e (rw count_same at h));
          rest = λ i h. same i (omega arith) ∙ c.rest i (rw count_same at h);
        }
