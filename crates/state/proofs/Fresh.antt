-- All zero bytes are the fresh state; and what a canonical state says fits the layout.
use Prim.Native.Nat.{ℕ, ◌+◌, ◌/◌, ◌%◌, ◌<◌}
use native.Mathlib.Omega.{arith}
use mathlib.Core.Bool.{true, false, ◌&&◌, cond}
use mathlib.Core.List.{List, []}
use mathlib.Core.Path.{◌≡◌, sym, ap, fun_ext}
use mathlib.Core.Logic.{◌⊎◌, inl, inr}
use lib.ListN.{length}
use Rattle.base.specs.Bytes.{byte_at}
use Rattle.base.proofs.Bits.{bit-none}
use Rattle.base.proofs.Truth.{either, and_l, and_false}
use Rattle.bits.specs.Row.{bit_at}
use Rattle.bits.proofs.Number.{num-two, num-lt}
use Rattle.state.specs.declared.Fact.{Fact}
use Rattle.state.specs.declared.Number.{Number}
use Rattle.state.specs.Layout.{count_at, entry_start, size, signer_in, period_in, board_in, item_bytes}
use Rattle.state.specs.Facts.{in_range, is_peer}
use Rattle.state.specs.Places.{place}
use Rattle.state.specs.Numbers.{slot, peer_of}
use Rattle.state.specs.Entries.{EntryFits}
use Rattle.base.specs.Tab.{tab}
use Rattle.state.specs.Contents.{count, entry_at, contents, Canon, Holds, Fits, empty}
use Rattle.state.proofs.Frame.{number_byte, number_none}
use Rattle.state.proofs.Encode.{bag_length, entry_nth, entry_period, entry_board}

-- a state of zero bytes
module _ (s : List ℕ) (long : length s ≡ size) (zeros : (i : ℕ) → byte_at s i ≡ 0) where
  no_entries : count s ≡ 0
  no_entries = sym (num-two s count_at 0 0 (sym (zeros count_at)) (sym (zeros (count_at + 1))))

  no_fact : (f : Fact) → (in_range f && bit_at s (place f)) ≡ false
  unfolding bit_at
  no_fact f = rw (zeros (place f / 8), bit-none (place f % 8)) (and_false (in_range f))

  no_number : (n : Number) → (is_peer (peer_of n) ≡ true) ⊎ (is_peer (peer_of n) ≡ false) → cond (is_peer (peer_of n)) (byte_at s (slot n)) 0 ≡ 0
  no_number n (inl e) = rw e (zeros (slot n))
  no_number n (inr e) = rw e

  no_bag : tab (count s) (entry_at s) ≡ []
  unfolding tab
  no_bag = ap (λ (n : ℕ). tab n (entry_at s)) no_entries

  pub fresh_holds : Holds s empty
  unfolding contents
  fresh_holds =
      record {
        canon =
            record {
              long = long;
              bytes = λ i. rw (zeros i) (omega arith);
              counted = omega (arith, no_entries);
              settled = λ e l. absurd (omega (arith, no_entries));
              rest = λ i l. zeros i;
            };
        says =
            λ i. record {
              has = fun_ext no_fact i;
              number = fun_ext (λ n. no_number n (either (is_peer (peer_of n)))) i;
              bag = no_bag i;
            };
      }

-- the contents of a canonical state
module _ (s : List ℕ) (c : Canon s) where
  number_lt : (n : Number) → (is_peer (peer_of n) ≡ true) ⊎ (is_peer (peer_of n) ≡ false) → (contents s).number n < 256
  number_lt n (inl e) = rw (← number_byte s n e) (c.bytes (slot n))
  number_lt n (inr e) = rw (number_none s n e) (omega arith)

  entry_fits : (e : ℕ) → e < count s → EntryFits (entry_at s e)
  entry_fits e l =
      record {
        signer = rw (← (c.settled e l).signer) (c.bytes (entry_start e + signer_in));
        period = rw (entry_period s e) (c.bytes (entry_start e + period_in));
        board = rw (entry_board s e) (num-lt item_bytes s (entry_start e + board_in) c.bytes);
      }

  fact_in : (f : Fact) → (contents s).has f ≡ true → in_range f ≡ true
  unfolding contents
  fact_in f h = and_l (in_range f) (bit_at s (place f)) h

  pub contents_fit : Fits (contents s)
  contents_fit =
      record {
        facts = fact_in;
        small = λ n. number_lt n (either (is_peer (peer_of n)));
        others = number_none s;
        counted = rw (bag_length s) c.counted;
        entry = λ e l. let m : e < count s = omega (arith, bag_length s) in rw (entry_nth s e m) (entry_fits e m);
      }
