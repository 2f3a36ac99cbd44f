-- A set of signers added to a database: the word in which they stand is joined with the set.
use Prim.Native.Nat.{ℕ, ◌+◌, ◌-◌, ◌*◌, ◌/◌, ◌^◌, ◌<◌, ◌≤◌}
use native.Mathlib.Decide.{dec_lt}
use native.Mathlib.Omega.{arith}
use mathlib.Core.Bool.{Bool, true, false, ◌&&◌, ◌||◌}
use mathlib.Core.List.{List}
use mathlib.Core.Path.{◌≡◌, sym, ap, ap₂, subst, ◌∙◌}
use lib.Dec.{eqb}
use borrow.Author.Tests.{eqb-true}
use Rattle.base.specs.Bits.{bit}
use Rattle.base.proofs.Truth.{is_false, false_true, and_l, and_r, eqb_self}
use Rattle.bits.specs.Row.{bit_at}
use Rattle.bits.specs.Number.{joined}
use Rattle.bits.proofs.Joined.{length-joined, bytes-joined, joined-out, bit_at-joined, bit_at-joined-out}
use Rattle.header.specs.declared.Signers.{Signers}
use Rattle.state.specs.declared.Fact.{Fact}
use Rattle.state.specs.declared.Fact.TheVariants.{Posted, Signed, Shared, Receipted, Held, Known, Heard}
use Rattle.state.specs.Layout.{peers, peer_bytes, database_at}
use Rattle.state.specs.Facts.{in_range, is_peer, Peer, Spot, Within}
use Rattle.state.specs.Places.{spot, place, fact_at}
use Rattle.state.specs.Contents.{contents, Canon, Holds, adding}
use Rattle.state.specs.Sets.{in_set, on_item, known_to}
use Rattle.state.proofs.Ranges.{peer_within, within_peer, range_within, within_range}
use Rattle.state.proofs.Places.{fact_at_lem}
use Rattle.state.proofs.Holds.{adding_holds}

-- a fact of the set is one of the database
pub known_is : (j p : ℕ) (S : ℕ → ℕ → Bool) (f : Fact) → known_to j p S f ≡ true → (i : ℕ) × (k : ℕ) × (f ≡ Known j p i k) × (S i k ≡ true)
unfolding known_to
known_is j p S (Posted i) e = false_true e
known_is j p S (Signed k q i) e = false_true e
known_is j p S (Shared k q i) e = false_true e
known_is j p S (Receipted q i) e = false_true e
known_is j p S (Held k q i) e = false_true e
known_is j p S (Heard k i) e = false_true e
known_is j p S (Known k q i l) e =
    let r = and_r (eqb k j) (eqb q p && S i l) e in (
      i,
      l,
      ap₂ (λ (a b : ℕ). Known a b i l) (eqb-true k j (and_l (eqb k j) (eqb q p && S i l) e))
          (eqb-true q p (and_l (eqb q p) (S i l) r)),
      and_r (eqb q p) (S i l) r,
    )

known_here : (j p : ℕ) (S : ℕ → ℕ → Bool) (i k : ℕ) → known_to j p S (Known j p i k) ≡ S i k
unfolding known_to
known_here j p S i k = rw (eqb_self j, eqb_self p)

-- a word of the state joined with a set
module _ (s : List ℕ) (j p i v : ℕ) (c : Canon s) (h : Spot j p i) (small : v < 2 ^ peers) where
  abbrev o : ℕ
  o = database_at + peer_bytes * spot j p i

  abbrev t : List ℕ
  t = joined peer_bytes s o v

  abbrev new : Fact → Bool
  new = known_to j p (on_item i v)

  new_is : (f : Fact) → new f ≡ true → (k : ℕ) × (f ≡ Known j p i k) × Peer k
  unfolding on_item in_set
  new_is f e =
      let w = known_is j p (on_item i v) f e in
      let y = w.0 in
      let k = w.1 in
      let item = eqb-true y i (and_l (eqb y i) (in_set v k) w.3) in
      let peer = and_l (is_peer k) (bit v (k - 1)) (and_r (eqb y i) (in_set v k) w.3) in
      (k, w.2 ∙ ap (λ (x : ℕ). Known j p x k) item, peer_within k peer)

  new_here : (k : ℕ) → Peer k → new (Known j p i k) ≡ bit v (k - 1)
  unfolding on_item in_set
  new_here k q = known_here j p (on_item i v) i k ∙ rw (eqb_self i, within_peer k q)

  room : (f : Fact) → new f ≡ true → in_range f ≡ true
  room f e =
      let w = new_is f e in subst (λ (g : Fact). in_range g ≡ true) (sym w.1) (within_range (Known j p i w.0) (h.0, (w.2, h.1)))

  -- a bit of the word
  inside : (k : ℕ) → Peer k → bit_at t (place (Known j p i k)) ≡ (new (Known j p i k) || bit_at s (place (Known j p i k)))
  inside k q =
      let at : place (Known j p i k) ≡ 8 * o + (k - 1) = omega arith in
      rw (at, new_here k q) (bit_at-joined peer_bytes s o v (k - 1) c.bytes (omega (arith, c.long)) small (omega arith))

  -- a bit outside the word
  outside : (f : Fact) → (o ≤ place f / 8 → o + peer_bytes ≤ place f / 8) → bit_at t (place f) ≡ (new f || bit_at s (place f))
  outside f d = rw old (bit_at-joined-out peer_bytes s o v (place f) d)
    where
      old : new f ≡ false
      old = is_false (new f) (λ e. let w = new_is f e in let at = ap place w.1 in omega (arith, at, w.2, d (omega (arith, at, w.2))))

  -- a fact whose bit stands in the word
  in_word : (f : Fact) → Within f → o ≤ place f / 8 → place f / 8 < o + peer_bytes → f ≡ Known j p i (place f - 8 * o + 1)
  in_word f w l m =
      sym (fact_at_lem f w) ∙ ap fact_at here ∙ fact_at_lem (Known j p i (place f - 8 * o + 1)) (h.0, ((omega arith, omega arith), h.1))
    where
      here : place f ≡ place (Known j p i (place f - 8 * o + 1))
      here = omega arith

  bits : (f : Fact) → in_range f ≡ true → bit_at t (place f) ≡ (new f || bit_at s (place f))
  bits f e = go (dec_lt (place f / 8) o) (dec_lt (place f / 8) (o + peer_bytes))
    where
      go : Dec (place f / 8 < o) → Dec (place f / 8 < o + peer_bytes) → bit_at t (place f) ≡ (new f || bit_at s (place f))
      go (yes l) m = outside f (λ q. absurd (omega arith))
      go (no l) (no m) = outside f (λ q. omega arith)
      go (no l) (yes m) =
          subst (λ (g : Fact). bit_at t (place g) ≡ (new g || bit_at s (place g))) (sym (in_word f (range_within f e) (omega arith) m))
          (inside (place f - 8 * o + 1) (omega arith, omega arith))

  pub join_holds : Holds (joined peer_bytes s (database_at + peer_bytes * spot j p i) v) (adding (known_to j p (on_item i v)) (contents s))
  join_holds =
      adding_holds s t new c (length-joined peer_bytes s o v) (bytes-joined peer_bytes s o v c.bytes)
      (λ b l. joined-out peer_bytes s o v b (λ q. omega arith)) room bits

-- as the code has it
pub join_done : (s t : List ℕ) (j p i n : ℕ) (x : Signers) → Canon s → Spot j p i → n ≡ spot j p i
    → (t ≡ joined peer_bytes s (database_at + peer_bytes * n) x.0) × (x.0 < 2 ^ peers)
    → Holds t (adding (known_to j p (on_item i x.0)) (contents s))
join_done s t j p i n x c h at q =
    subst (λ (r : List ℕ). Holds r (adding (known_to j p (on_item i x.0)) (contents s)))
    (sym (q.0 ∙ ap (λ (m : ℕ). joined peer_bytes s (database_at + peer_bytes * m) x.0) at))
    (join_holds s j p i x.0 c h q.1)
