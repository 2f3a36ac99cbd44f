-- The numbers of the entries that stay, listed from the bag's front: none yet, one more, all.
use mir.Val.{bool_byte}
use Prim.Native.Nat.{ℕ, zero, suc, ◌+◌, ◌^◌, ◌<◌, ◌≤◌}
use native.Mathlib.Decide.{ℕ_discrete}
use native.Mathlib.Numerals.{add-one}
use native.Mathlib.Omega.{arith}
use mathlib.Core.Bool.{Bool, true, false, ◌&&◌, not, and-true}
use mathlib.Core.List.{List, [], ◌∷◌}
use mathlib.Core.Path.{◌≡◌, refl, sym, ap, subst, ◌∙◌}
use mathlib.Core.Logic.{◌⊎◌, inl, inr}
use lib.Dec.{eqb}
use lib.ListN.{length, get_or, set, drop, length-set, length-drop, drop_of_length-le}
use lib.Seq.{drop-cons, drop-nil, get_or-set_same, get_or-set_other}
use borrow.Author.Tests.{eq-eqb, ne_eqb}
use Rattle.base.specs.Bits.{digit}
use Rattle.base.specs.Bytes.{byte_at}
use Rattle.base.proofs.Truth.{either, and_false}
use Rattle.rules.specs.declared.Entry.{Entry}
use Rattle.rules.specs.declared.Entry.TheVariants.{Hash, Backing, Board}
use Rattle.rules.specs.Bag.{is_hash_of, kind_of, period_of, no_entry, entry_at as nth}
use Rattle.state.specs.Layout.{entry_start, period_in, hash_kind}
use Rattle.state.specs.Contents.{count, entry_at, Canon, bag_on}
use Rattle.state.specs.Cleared.{kept_from, kept}
use Rattle.state.proofs.Encode.{bag_length, entry_nth, entry_period}
use Rattle.state.proofs.Cleared.{kept_gone, kept_stays}
use Rattle.clearing.specs.Moves.{Numbers}

-- a hash of the period, by its two numbers
hash_test : (q : ℕ) (x : Entry) → is_hash_of q x ≡ (eqb (period_of x) q && eqb (kind_of x) hash_kind)
hash_test q (Hash k p B) = sym (and-true (eqb p q))
hash_test q (Backing k p B) = sym (and_false (eqb p q))
hash_test q (Board p B) = sym (and_false (eqb p q))

module _ (s : List ℕ) (e q : ℕ) (c : Canon s) (l : e < length (bag_on s)) where
  byte_test : is_hash_of q (nth (bag_on s) e) ≡ (eqb (byte_at s (entry_start e + period_in)) q && eqb (byte_at s (entry_start e)) hash_kind)
  byte_test =
      let m : e < count s = omega (arith, bag_length s) in
      ap (is_hash_of q) (entry_nth s e m) ∙ hash_test q (entry_at s e) ∙ rw (entry_period s e, (c.settled e m).kind)

  pub other_period : (byte_at s (entry_start e + period_in) ≡ q → ⊥)
      → not (eqb (byte_at s (entry_start e + period_in)) q) ≡ not (is_hash_of q (nth (bag_on s) e))
  other_period n = rw (byte_test, ne_eqb _ _ n)

  pub its_period : byte_at s (entry_start e + period_in) ≡ q
      → not (eqb (byte_at s (entry_start e)) hash_kind) ≡ not (is_hash_of q (nth (bag_on s) e))
  its_period p = rw (byte_test, eq-eqb _ _ p)

-- a test as a number
pub as_digit : (b : Bool) → bool_byte b ≡ digit b
as_digit true = refl
as_digit false = refl

-- where these bytes are read

pub period_fits : (s : List ℕ) (e : ℕ) → Canon s → e < length (bag_on s) → entry_start e + period_in < 2 ^ 64
period_fits s e c l = omega (arith, bag_length s, c.counted)

pub period_inside : (s : List ℕ) (e : ℕ) → Canon s → e < length (bag_on s) → entry_start e + period_in < length s
period_inside s e c l = omega (arith, bag_length s, c.counted, c.long)

pub kind_inside : (s : List ℕ) (e : ℕ) → Canon s → e < length (bag_on s) → entry_start e < length s
kind_inside s e c l = omega (arith, bag_length s, c.counted, c.long)

-- what is left of a list, where it begins with x
pub record Head (l : List ℕ) (w x : ℕ) (rest : List ℕ) : Type 0 where
  pub inside : w < length l
  pub here : get_or l w 0 ≡ x
  pub next : drop (suc w) l ≡ rest

head_of : (l : List ℕ) (w x : ℕ) (rest : List ℕ) → drop w l ≡ x ∷ rest → Head l w x rest
head_of [] w x rest e = let z = ap length (sym (drop-nil w) ∙ e) in absurd (omega (arith, z))
head_of (y ∷ l) zero x rest e = record { inside = omega arith; here = ap (λ r. get_or r 0 0) e; next = ap (drop 1) e }
head_of (y ∷ l) (suc w) x rest e = let r = head_of l w x rest e in record
    { inside = omega (arith, r.inside); here = r.here; next = r.next }

-- the entries below e gave w numbers
pub record Listed (q : ℕ) (bag : List Entry) (old : List ℕ) (w e : ℕ) : Type 0 where
  pub long : length old ≡ 256
  pub behind : w ≤ e
  pub few : w ≤ length (kept q bag)
  pub left : drop w (kept q bag) ≡ kept_from q e (drop e bag)
  pub each : (i : ℕ) → i < w → byte_at old i ≡ get_or (kept q bag) i 0

pub listed_none : (q : ℕ) (bag : List Entry) (old : List ℕ) → length old ≡ 256 → Listed q bag old 0 0
listed_none q bag old l = record { long = l; behind = omega arith; few = omega arith; left = refl; each = λ i h. absurd (omega arith) }

module _ (q : ℕ) (bag : List Entry) (old : List ℕ) (w e : ℕ) (L : Listed q bag old w e) where
  pub listed_more : {r : ℕ} → e < length bag → e < 256 → r ≡ digit (not (is_hash_of q (nth bag e)))
      → Listed q bag (set old w e) (w + r) (e + 1)
  listed_more {r} l h d = go (either (is_hash_of q (nth bag e)))
    where
      first : drop w (kept q bag) ≡ kept_from q e (nth bag e ∷ drop (suc e) bag)
      first = L.left ∙ ap (kept_from q e) (drop-cons bag e no_entry l)

      on : kept_from q (suc e) (drop (suc e) bag) ≡ kept_from q (e + 1) (drop (e + 1) bag)
      on = ap (λ (n : ℕ). kept_from q n (drop n bag)) (sym (add-one e))

      before : (i : ℕ) → i < w → byte_at (set old w e) i ≡ get_or (kept q bag) i 0
      before i m = get_or-set_other old w i e 0 (λ z. omega arith) ∙ L.each i m

      go : (is_hash_of q (nth bag e) ≡ true) ⊎ (is_hash_of q (nth bag e) ≡ false) → Listed q bag (set old w e) (w + r) (e + 1)
      go (inl g) =
          let same : w + r ≡ w = omega (arith, d ∙ ap (λ (b : Bool). digit (not b)) g) in
          subst (λ (v : ℕ). Listed q bag (set old w e) v (e + 1)) (sym same) (record {
            long = length-set old w e ∙ L.long;
            behind = omega (arith, L.behind);
            few = L.few;
            left = first ∙ kept_gone q e (nth bag e) (drop (suc e) bag) g ∙ on;
            each = before;
          })
      go (inr g) =
          let same : w + r ≡ suc w = omega (arith, d ∙ ap (λ (b : Bool). digit (not b)) g) in
          let next = head_of (kept q bag) w e (kept_from q (suc e) (drop (suc e) bag))
          (first ∙ kept_stays q e (nth bag e) (drop (suc e) bag) g) in
          subst (λ (v : ℕ). Listed q bag (set old w e) v (e + 1)) (sym same) (record {
            long = length-set old w e ∙ L.long;
            behind = omega (arith, L.behind);
            few = next.inside;
            left = next.next ∙ on;
            each = λ i m. at i m next (ℕ_discrete i w);
          })
        where
          at : (i : ℕ) → i < suc w → Head (kept q bag) w e (kept_from q (suc e) (drop (suc e) bag)) → Dec (i ≡ w)
              → byte_at (set old w e) i ≡ get_or (kept q bag) i 0
          at i m n (yes z) = rw z (get_or-set_same old w e 0 (omega (arith, L.long, L.behind)) ∙ sym n.here)
          at i m n (no z) = before i (omega (arith, z))

  pub listed_all : {n : ℕ} → n ≡ length bag → n ≤ e → Numbers q bag old w
  unfolding kept_from
  listed_all c l =
      let none = L.left ∙ ap (kept_from q e) (drop_of_length-le bag {i = e} (omega arith)) in
      record { many = omega (arith, L.few, length-drop w (kept q bag), ap length none); each = L.each }
