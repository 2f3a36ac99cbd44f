-- Bytes written 0 one after the other; and the bag cut to its first entries.
use Prim.Native.Nat.{ℕ, ◌+◌, ◌<◌, ◌≤◌}
use native.Mathlib.Decide.{dec_lt}
use native.Mathlib.Omega.{arith}
use mathlib.Core.List.{List}
use mathlib.Core.Path.{◌≡◌, sym, ap, subst, fun_ext, ◌∙◌}
use lib.ListN.{length, take}
use lib.Seq.{ext_get_or, length-take-le, get_or-take}
use Rattle.base.specs.Bytes.{byte_at}
use Rattle.base.specs.Tab.{tab}
use Rattle.base.proofs.Tab.{length-tab, get_or-tab}
use Rattle.bits.specs.Row.{Bytes}
use Rattle.bits.specs.Number.{stored}
use Rattle.bits.proofs.Number.{length-stored, bytes-stored, stored-out, num-stored}
use Rattle.rules.specs.Bag.{no_entry}
use Rattle.state.specs.Layout.{count_at, bag_at, entry_size, entry_start, count_bytes}
use Rattle.state.specs.Contents.{count, entry_at, contents, Canon, Holds, bag_on}
use Rattle.state.specs.Cleared.{with_bag}
use Rattle.state.proofs.Encode.{bag_length}
use Rattle.state.proofs.Frame as frame
use Rattle.clearing.specs.Moves.{Zeroed}

module _ (s u : List ℕ) (n : ℕ) (c : Canon s) (few : n ≤ count s) (Z : Zeroed s u (entry_start n) (entry_start (count s))) where
  t : List ℕ
  t = stored count_bytes u count_at n

  counted : count t ≡ n
  unfolding t
  counted = num-stored count_bytes u count_at n (omega (arith, Z.long, c.long)) (omega (arith, c.counted))

  -- the bytes before the count, and those of the entries that stay
  same : (i : ℕ) → (count_at ≤ i → bag_at ≤ i) → (entry_start n ≤ i → entry_start (count s) ≤ i) → byte_at t i ≡ byte_at s i
  unfolding t
  same i p q = stored-out count_bytes u count_at n i p ∙ Z.others i q

  -- every byte after them is 0
  past : (i : ℕ) → entry_start n ≤ i → byte_at t i ≡ 0
  unfolding t
  past i l = stored-out count_bytes u count_at n i (λ z. omega arith) ∙ go (dec_lt i (entry_start (count s)))
    where
      go : Dec (i < entry_start (count s)) → byte_at u i ≡ 0
      go (yes h) = Z.zeros i l h
      go (no h) = Z.others i (λ z. omega (arith, h)) ∙ c.rest i (omega (arith, h))

  older : (e : ℕ) → e < n → (i : ℕ) → entry_start e ≤ i → i < entry_start e + entry_size → byte_at t i ≡ byte_at s i
  older e l i p q = same i (λ z. omega arith) (λ z. absurd (omega arith))

  bytes_zeroed : Bytes u
  bytes_zeroed i = go (dec_lt i (entry_start n)) (dec_lt i (entry_start (count s)))
    where
      go : Dec (i < entry_start n) → Dec (i < entry_start (count s)) → byte_at u i < 256
      go (yes h) k = omega (arith, Z.others i (λ z. absurd (omega (arith, h))), c.bytes i)
      go (no h) (yes k) = omega (arith, Z.zeros i (omega (arith, h)) k)
      go (no h) (no k) = omega (arith, Z.others i (λ z. omega (arith, k)), c.bytes i)

  canon : Canon t
  unfolding t
  canon = record {
    long = length-stored count_bytes u count_at n ∙ Z.long ∙ c.long;
    bytes = bytes-stored count_bytes u count_at n bytes_zeroed;
    counted = omega (arith, counted, c.counted);
    settled = λ e l. frame.settled_same t s e (older e (omega (arith, counted))) (c.settled e (omega (arith, counted)));
    rest = λ i l. past i (omega (arith, counted));
  }

  bag : tab (count t) (entry_at t) ≡ take n (tab (count s) (entry_at s))
  bag =
      let m = count s in
      let long = length-tab m (entry_at s) in
      let short = length-take-le n (tab m (entry_at s)) (omega (arith, long)) in
      ap (λ (k : ℕ). tab k (entry_at t)) counted
      ∙ ext_get_or no_entry (tab n (entry_at t)) (take n (tab m (entry_at s))) (length-tab n (entry_at t) ∙ sym short) (λ e h.
      let l : e < n = omega (arith, length-tab n (entry_at t)) in
      get_or-tab n (entry_at t) e no_entry l ∙ frame.entry_same t s e (older e l)
      ∙ sym (get_or-take n (tab m (entry_at s)) e no_entry l ∙ get_or-tab m (entry_at s) e no_entry (omega arith)))

  cut_holds : Holds t (with_bag (take n (contents s).bag) (contents s))
  unfolding contents with_bag
  cut_holds = record {
    canon = canon;
    says = λ i. record {
      has = fun_ext (frame.has_same t s (λ i l. same i (λ z. omega arith) (λ z. omega arith))) i;
      number = fun_ext (frame.number_same t s (λ i p q. same i (λ z. omega arith) (λ z. omega arith))) i;
      bag = bag i;
    };
  }

pub cut_done : (s u t : List ℕ) (n m : ℕ) → Canon s → n ≤ length (bag_on s) → m ≡ length (bag_on s)
    → Zeroed s u (entry_start n) (entry_start m) → t ≡ stored count_bytes u count_at n → Holds t (with_bag (take n (bag_on s)) (contents s))
unfolding t
cut_done s u t n m c l e Z q =
    let same : m ≡ count s = e ∙ bag_length s in
    subst (λ r. Holds r (with_bag (take n (bag_on s)) (contents s))) (sym q)
    (cut_holds s u n c (omega (arith, bag_length s)) (subst (λ (k : ℕ). Zeroed s u (entry_start n) (entry_start k)) same Z))
