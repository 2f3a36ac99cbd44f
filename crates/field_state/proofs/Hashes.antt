-- Heard hashes looked for, and a hash added.
use Prim.Native.Nat.{ℕ, ◌+◌, ◌^◌, ◌<◌, ◌≤◌}
use native.Mathlib.Numerals.{add-one}
use native.Mathlib.Omega.{arith}
use mathlib.Core.Bool.{Bool, true, false}
use mathlib.Core.List.{List, [], ◌∷◌, ◌++◌}
use mathlib.Core.Path.{◌≡◌, refl, sym, ap, ap₂, subst, ◌∙◌}
use lib.Dec.{eqb}
use lib.ListN.{length, set, length-set}
use lib.Seq.{get_or-set_same, get_or-set_other}
use borrow.Author.Tests.{leb-false}
use Rattle.base.specs.Below.{any}
use Rattle.base.specs.Bytes.{byte_at}
use Rattle.base.specs.Tab.{tab}
use Rattle.base.proofs.Below.{any_at, any_found}
use Rattle.base.proofs.Tab.{tab_ext, tab_more, length-tab, get_or-tab}
use Rattle.base.proofs.Truth.{iff}
use Rattle.bits.specs.Row.{Bytes}
use Rattle.bits.specs.Number.{num, stored}
use Rattle.bits.proofs.Row.{bytes-set}
use Rattle.bits.proofs.Number.{length-stored, bytes-stored, stored-out, num-stored}
use Rattle.rules.specs.declared.Entry.{Entry}
use Rattle.rules.specs.declared.Entry.TheVariants.{Hash}
use Rattle.rules.specs.Bag.{same_entry, is_in, entry_at as nth, no_entry, enter, is_full}
use Rattle.rules.proofs.Bag.{in_at, at_in, same_self, eq_of_same}
use Rattle.state.specs.Layout.{entries, count_bytes, item_bytes}
use Rattle.field_state.specs.Layout.{held_at, gave_at, current_at, to_back_at, down_at, count_at, heard_at, hash_size, hash_start}
use Rattle.field_state.specs.Holding.{heard_count, hash_at, heard_in, box_of, Canon, Holds}
use Rattle.field_state.specs.Hearing.{same_at, hash_written, appended, hearing}
use Rattle.field_state.proofs.Frame.{cells_same, spots_same, hash_same}

pub heard_length : (s : List ℕ) → length (heard_in s) ≡ heard_count s
unfolding heard_in
heard_length s = length-tab (heard_count s) (hash_at s)

pub heard_nth : (s : List ℕ) (e : ℕ) → e < heard_count s → nth (heard_in s) e ≡ hash_at s e
unfolding heard_in
heard_nth s e l = get_or-tab (heard_count s) (hash_at s) e no_entry l

-- looked for, one after the other
pub heard_any : (s : List ℕ) (k p B : ℕ) → any (heard_count s) (same_at s k p B) ≡ is_in (Hash k p B) (heard_in s)
unfolding same_at
heard_any s k p B = iff _ _
    (λ t.
    let f = any_found (heard_count s) (same_at s k p B) t in
    at_in (Hash k p B) (heard_in s) f.0 (omega (arith, f.1, heard_length s))
    (heard_nth s f.0 f.1 ∙ sym (eq_of_same (Hash k p B) (hash_at s f.0) f.2)))
    (λ t.
    let f = in_at (Hash k p B) (heard_in s) t in
    let l : f.0 < heard_count s = omega (arith, f.1, heard_length s) in
    any_at (same_at s k p B) f.0 (heard_count s) l
    (subst (λ (x : Entry). same_entry (Hash k p B) x ≡ true) (sym f.2 ∙ heard_nth s f.0 l) (same_self (Hash k p B))))

pub new_room : (s : List ℕ) (k p B : ℕ) {r : Bool} → is_full (Hash k p B) (heard_in s) ≡ false → r ≡ is_in (Hash k p B) (heard_in s)
    → r ≡ false → heard_count s < entries
unfolding is_full
new_room s k p B full e f = omega (arith, leb-false entries (length (heard_in s)) (rw (← e, f) at full), heard_length s)

-- a hash hash_written at byte o
module _ (s : List ℕ) (o k p B : ℕ) where
  abbrev s1 : List ℕ
  s1 = set s o k

  abbrev s2 : List ℕ
  s2 = set s1 (o + 1) p

  length-written : length (hash_written s o k p B) ≡ length s
  unfolding hash_written
  length-written = simp (length-stored, length-set)

  bytes-written : Bytes s → k < 256 → p < 256 → Bytes (hash_written s o k p B)
  unfolding hash_written
  bytes-written b l m = bytes-stored item_bytes s2 (o + 2) B (bytes-set s1 (o + 1) p (bytes-set s o k b l) m)

  written_out : (i : ℕ) → (o ≤ i → o + hash_size ≤ i) → byte_at (hash_written s o k p B) i ≡ byte_at s i
  unfolding hash_written
  written_out i h =
      stored-out item_bytes s2 (o + 2) B i (λ l. omega (arith, h (omega arith)))
      ∙ get_or-set_other s1 (o + 1) i p 0 (λ e. omega (arith, h (omega arith)))
      ∙ get_or-set_other s o i k 0 (λ e. omega (arith, h (omega arith)))

  module _ (inside : o + hash_size ≤ length s) where
    written_signer_lem : byte_at (hash_written s o k p B) o ≡ k
    unfolding hash_written
    written_signer_lem =
        stored-out item_bytes s2 (o + 2) B o (λ l. absurd (omega arith))
        ∙ get_or-set_other s1 (o + 1) o p 0 (omega arith)
        ∙ get_or-set_same s o k 0 (omega arith)

    written_period : byte_at (hash_written s o k p B) (o + 1) ≡ p
    unfolding hash_written
    written_period =
        stored-out item_bytes s2 (o + 2) B (o + 1) (λ l. absurd (omega arith))
        ∙ get_or-set_same s1 (o + 1) p 0 (omega (arith, length-set s o k))

    written-board : B < 256 ^ item_bytes → num item_bytes (hash_written s o k p B) (o + 2) ≡ B
    unfolding hash_written
    written-board h = num-stored item_bytes s2 (o + 2) B (simp length-set (omega arith)) h

-- so it is there, and counted
module _ (s : List ℕ) (k p B : ℕ) (c : Canon s) (left : heard_count s < entries) (kf : k < 256) (pf : p < 256) (bf : B < 256 ^ item_bytes)
  where
    n : ℕ
    n = heard_count s

    u : List ℕ
    u = hash_written s (hash_start n) k p B

    t : List ℕ
    t = stored count_bytes u count_at (n + 1)

    inside : hash_start n + hash_size ≤ length s
    unfolding n
    inside = omega (arith, c.long, left)

    there : hash_at u n ≡ Hash k p B
    unfolding hash_at u
    there = rw (
      written_signer_lem s (hash_start n) k p B inside,
      written_period s (hash_start n) k p B inside,
      written-board s (hash_start n) k p B
          inside bf,
    )

    outside : (i : ℕ) → (count_at ≤ i → heard_at ≤ i) → (hash_start n ≤ i → hash_start n + hash_size ≤ i) → byte_at t i ≡ byte_at s i
    unfolding t u
    outside i a b = stored-out count_bytes u count_at (n + 1) i a ∙ written_out s (hash_start n) k p B i b

    counted : heard_count t ≡ n + 1
    unfolding t u n
    counted = num-stored count_bytes u count_at (n + 1) (omega (arith, length-written s (hash_start n) k p B, c.long)) (omega (arith, left))

    older : (e : ℕ) → e < n → (i : ℕ) → hash_start e ≤ i → i < hash_start e + hash_size → byte_at t i ≡ byte_at s i
    older e l i a b = outside i (λ z. omega arith) (λ z. absurd (omega arith))

    newer : (i : ℕ) → hash_start n ≤ i → i < hash_start n + hash_size → byte_at t i ≡ byte_at u i
    unfolding t
    newer i a b = stored-out count_bytes u count_at (n + 1) i (λ z. omega arith)

    heard : heard_in t ≡ heard_in s ++ (Hash k p B ∷ [])
    unfolding heard_in u n
    heard =
        ap (λ (m : ℕ). tab m (hash_at t)) (counted ∙ add-one n)
        ∙ tab_more n (hash_at t)
        ∙ ap₂ (λ (l : List Entry) (y : Entry). l ++ (y ∷ []))
        (tab_ext n (hash_at t) (hash_at s) (λ e l. hash_same t s e (older e l)))
        (hash_same t u n newer ∙ there)

    below : (i : ℕ) → i < count_at → byte_at t i ≡ byte_at s i
    below i l = outside i (λ z. omega arith) (λ z. omega arith)

    canon : Canon t
    unfolding t u n
    canon = record {
      long = length-stored count_bytes u count_at (n + 1) ∙ length-written s (hash_start n) k p B ∙ c.long;
      bytes = bytes-stored count_bytes u count_at (n + 1) (bytes-written s (hash_start n) k p B c.bytes kf pf);
      flag = rw (below down_at (omega arith)) c.flag;
      counted = omega (arith, counted, left);
      rest = λ i l. outside i (λ z. omega (arith, counted, l)) (λ z. omega (arith, counted, l)) ∙ c.rest i (omega (arith, counted, l));
    }

    pub append_holds : is_in (Hash k p B) (heard_in s) ≡ false → Holds (appended s k p B) (hearing k p B (box_of s))
    unfolding appended hearing enter t u n
    append_holds new = rw new (record {
      canon = canon;
      says = λ i. record {
        down = eqb (below down_at (omega arith) i) 1;
        held = cells_same t s held_at (λ i l m. below i (omega (arith, m))) i;
        db = spots_same t s (λ i l m. below i (omega (arith, m))) i;
        gave = cells_same t s gave_at (λ i l m. below i (omega (arith, m))) i;
        current = below current_at (omega arith) i;
        to_back = below to_back_at (omega arith) i;
        heard = heard i;
      };
    })

-- what the writing and the counting come to
pub append_done : (s u t : List ℕ) (k p B n : ℕ) → Canon s → heard_count s < entries → is_in (Hash k p B) (heard_in s) ≡ false
    → n ≡ heard_count s → (u ≡ hash_written s (hash_start n) k p B) × ((k < 256) × ((p < 256) × (B < 256 ^ 8)))
    → t ≡ stored count_bytes u count_at (n + 1) → Holds t (hearing k p B (box_of s))
unfolding appended
append_done s u t k p B n c left new m w q =
    subst (λ (r : List ℕ). Holds r (hearing k p B (box_of s)))
    (sym (q ∙ ap₂ (λ (a : List ℕ) (k : ℕ). stored count_bytes a count_at (k + 1))
    (w.0 ∙ ap (λ (m : ℕ). hash_written s (hash_start m) k p B) m) m))
    (append_holds s k p B c left w.1.0 w.1.1.0 w.1.1.1 new)

pub heard_there : (s : List ℕ) (k p B : ℕ) {r : Bool} → Canon s → r ≡ is_in (Hash k p B) (heard_in s) → r ≡ true
    → Holds s (hearing k p B (box_of s))
unfolding hearing enter
heard_there s k p B c e t = rw (← e, t) (record { canon = c; says = refl })

-- the last of the tests on a hash's bytes
pub read_same : (b : ℕ) {r v : ℕ} → r ≡ v → eqb b r ≡ eqb b v
read_same b e = ap (λ (x : ℕ). eqb b x) e

-- the search, as the code has it
pub heard_searched : (s : List ℕ) (k p B n : ℕ) {r : Bool} → n ≡ heard_count s → r ≡ any n (same_at s k p B)
    → r ≡ is_in (Hash k p B) (heard_in s)
heard_searched s k p B n e q = q ∙ ap (λ (m : ℕ). any m (same_at s k p B)) e ∙ heard_any s k p B
