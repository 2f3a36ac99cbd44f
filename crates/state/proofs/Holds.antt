-- What setting bits and storing numbers does to what the bytes say.
use Prim.Native.Nat.{ℕ, ◌*◌, ◌<◌, ◌≤◌}
use native.Mathlib.Omega.{arith}
use mathlib.Core.Bool.{Bool, true, false, ◌&&◌, ◌||◌, cond}
use mathlib.Core.List.{List}
use mathlib.Core.Path.{◌≡◌, sym, ap, subst, fun_ext, ◌∙◌}
use mathlib.Core.Logic.{◌⊎◌, inl, inr}
use lib.ListN.{length, set, length-set}
use lib.Seq.{get_or-set_same, get_or-set_other}
use Rattle.base.specs.Bytes.{byte_at}
use Rattle.base.proofs.Truth.{either, split, is_false}
use Rattle.bits.specs.Row.{bit_at, put_bit, Bytes}
use Rattle.bits.proofs.Row.{length_put, byte_put, bit_at_put, bytes_put, bytes-set}
use Rattle.state.specs.declared.Fact.{Fact}
use Rattle.state.specs.declared.Number.{Number}
use Rattle.state.specs.Layout.{current_at, count_at}
use Rattle.state.specs.Facts.{same_fact, in_range, Within, is_peer, Peer}
use Rattle.state.specs.Places.{place}
use Rattle.state.specs.Numbers.{same_number, peer_of, slot}
use Rattle.state.specs.Contents.{contents, Canon, Holds, adding, insert, store}
use Rattle.state.proofs.Ranges.{fact_same, range_within, within_range, peer_within, within_peer}
use Rattle.state.proofs.Places.{place-lt, same_place}
use Rattle.state.proofs.Slots.{number_self, number_same, slot_within, slot_same}
use Rattle.state.proofs.Frame as frame

-- bits set for a set of facts: the facts join, and all else is as it was
pub adding_holds : (s t : List ℕ) (new : Fact → Bool) → Canon s → length t ≡ length s → Bytes t
    → ((i : ℕ) → current_at ≤ i → byte_at t i ≡ byte_at s i)
    → ((f : Fact) → new f ≡ true → in_range f ≡ true)
    → ((f : Fact) → in_range f ≡ true → bit_at t (place f) ≡ (new f || bit_at s (place f)))
    → Holds t (adding new (contents s))
unfolding adding contents
adding_holds s t new c long bytes same room bits =
    record {
      canon = frame.canon_same t s (λ i l. same i (omega arith)) c long bytes;
      says =
          λ i. record {
            has = fun_ext (λ f. member f (either (in_range f))) i;
            number = fun_ext (frame.number_same t s (λ i p q. same i p)) i;
            bag = frame.bag_same t s (λ i l. same i (omega arith)) i;
          };
    }
  where
    member : (f : Fact) → (in_range f ≡ true) ⊎ (in_range f ≡ false)
        → (in_range f && bit_at t (place f)) ≡ (new f || (in_range f && bit_at s (place f)))
    member f (inl e) = rw e (bits f e)
    member f (inr e) = rw (e, is_false (new f) (λ n. split (room f n) e))

-- a fact's bit set: the fact joins
pub put_holds : (s : List ℕ) (f : Fact) → Canon s → in_range f ≡ true → Holds (put_bit s (place f)) (insert f (contents s))
unfolding insert
put_holds s f c e =
    adding_holds s (put_bit s (place f)) (λ g. same_fact g f) c (length_put s (place f)) (bytes_put s (place f) c.bytes)
    (λ i l. byte_put s (place f) i (λ q. omega (arith, before)))
    (λ g n. ap in_range (fact_same g f n) ∙ e)
    (λ g q. bit_at_put s (place f) (place g) (omega (arith, before, c.long)) ∙ ap (λ (b : Bool). b || bit_at s (place g))
    (same_place f g e q))
  where
    before : place f < 8 * current_at
    before = place-lt f (range_within f e)

pub put_done : (s t : List ℕ) (f : Fact) (a : ℕ) → Canon s → Within f → a ≡ place f → t ≡ put_bit s a → Holds t (insert f (contents s))
put_done s t f a c w at q =
    subst (λ (r : List ℕ). Holds r (insert f (contents s))) (sym (q ∙ ap (put_bit s) at)) (put_holds s f c (within_range f w))

-- a number's byte stored: the number has the value, and all else is as it was
pub store_holds : (s : List ℕ) (n : Number) (v : ℕ) → Canon s → is_peer (peer_of n) ≡ true → v < 256
    → Holds (set s (slot n) v) (store n v (contents s))
unfolding contents store
store_holds s n v c e h =
    record {
      canon =
          frame.canon_same t s (λ i l. other i (λ q. omega (arith, w))) c (length-set s (slot n) v) (bytes-set s (slot n) v c.bytes h);
      says =
          λ i. record {
            has = fun_ext (frame.has_same t s (λ i l. other i (λ q. omega (arith, w)))) i;
            number = fun_ext (λ m. value m (either (same_number m n)) (either (is_peer (peer_of m)))) i;
            bag = frame.bag_same t s (λ i l. other i (λ q. omega (arith, w))) i;
          };
    }
  where
    t : List ℕ
    t = set s (slot n) v

    w : (current_at ≤ slot n) × (slot n < count_at)
    w = slot_within n (peer_within (peer_of n) e)

    other : (i : ℕ) → (i ≡ slot n → ⊥) → byte_at t i ≡ byte_at s i
    other i d = get_or-set_other s (slot n) i v 0 d

    here : cond (is_peer (peer_of n)) (byte_at t (slot n)) 0 ≡ v
    here = rw e (get_or-set_same s (slot n) v 0 (omega (arith, c.long, w)))

    apart : (m : Number) → same_number m n ≡ false → is_peer (peer_of m) ≡ true → slot m ≡ slot n → ⊥
    apart m d p q =
        split
        (subst (λ (x : Number). same_number m x ≡ true) (slot_same m n (peer_within (peer_of m) p) (peer_within (peer_of n) e) q)
        (number_self m)) d

    value : (m : Number) → (same_number m n ≡ true) ⊎ (same_number m n ≡ false) → (is_peer (peer_of m) ≡ true) ⊎ (is_peer (peer_of m) ≡ false)
        → cond (is_peer (peer_of m)) (byte_at t (slot m)) 0 ≡ cond (same_number m n) v (cond (is_peer (peer_of m)) (byte_at s (slot m)) 0)
    value m (inl q) p = rw q (subst (λ (x : Number). cond (is_peer (peer_of x)) (byte_at t (slot x)) 0 ≡ v) (sym (number_same m n q)) here)
    value m (inr q) (inl p) = rw (q, p) (other (slot m) (apart m q p))
    value m (inr q) (inr p) = rw (q, p)

pub store_done : (s : List ℕ) (n : Number) (v b : ℕ) → Canon s → Peer (peer_of n) → v < 256 → b ≡ slot n
    → Holds (set s b v) (store n v (contents s))
store_done s n v b c w h at =
    subst (λ (x : ℕ). Holds (set s x v) (store n v (contents s))) (sym at) (store_holds s n v c (within_peer (peer_of n) w) h)
