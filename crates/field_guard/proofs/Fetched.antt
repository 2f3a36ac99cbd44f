-- Rows that a message brings: what is stray, and what is added.
use Prim.Native.Nat.{ℕ, zero, suc, ◌+◌, ◌-◌, ◌*◌, ◌/◌, ◌^◌, ◌<◌, ◌≤◌}
use native.Mathlib.Decide.{ℕ_discrete}
use native.Mathlib.Omega.{arith}
use mathlib.Core.Bool.{Bool, true, false, cond, not, ◌&&◌, ◌||◌, or-false}
use mathlib.Core.List.{List}
use mathlib.Core.Path.{◌≡◌, refl, sym, ap, ap₂, fun_ext, subst, ◌∙◌}
use mathlib.Core.Logic.{◌⊎◌, inl, inr}
use lib.Dec.{eqb, ltb}
use borrow.Author.Tests.{eqb-true, eq-eqb, ne_eqb, ltb-true, ltb-false, lt-ltb, le-ltb, not-true}
use Rattle.base.specs.Bits.{bit, member}
use Rattle.base.specs.Bytes.{byte_at, number_at}
use Rattle.base.proofs.Below.{any_ext}
use Rattle.base.proofs.Members.{member-among}
use Rattle.base.proofs.Truth.{eqb_self, and_false, either, iff, is_false, split, not_i, and_i, and_l, and_r}
use Rattle.bits.specs.Row.{bit_at}
use Rattle.bits.specs.Number.{joined}
use Rattle.bits.proofs.Joined.{length-joined, bytes-joined, joined-out, bit_at-joined, bit_at-joined-out}
use Rattle.header.specs.declared.Head.{Head}
use Rattle.rules.specs.Rules.{no_item, no_peer}
use Rattle.state.specs.Layout.{peers, items, peer_bytes}
use Rattle.state.specs.Facts.{is_spot, Peer, Cell, Spot}
use Rattle.state.specs.Places.{cell}
use Rattle.state.proofs.Ranges.{spot_within, within_spot}
use Rattle.view.specs.Ready.{Room}
use Rattle.field_rules.specs.Box.{Box, box_db}
use Rattle.field_rules.specs.Rules.{own_rows}
use Rattle.field_rules.specs.MessageBytes.{rows_in}
use Rattle.field_state.specs.Layout.{held_at, gave_at, known_at, current_at, to_back_at, down_at}
use Rattle.field_state.specs.Holding.{spot_bit, box_of, Canon, Holds}
use Rattle.field_state.specs.Width.{width_at}
use Rattle.field_state.proofs.Widths.{narrow, bits_above}
use Rattle.field_guard.specs.Fetching.{stray_at, joining, rows_to}
use Rattle.field_state.proofs.Cells.{has-spot, no_spot}
use Rattle.field_state.proofs.Frame.{cells_same, heard_same, canon_same}

pub member_is : (v k : ℕ) → 1 ≤ k → member v k ≡ bit v (k - 1)
unfolding member
member_is v zero l = absurd (omega arith)
member_is v (suc k) l = ap (bit v) {x = k} {y = suc k - 1} (omega arith)

module _ (h : Head) (room : Room h) (s : List ℕ) where
  -- a signer k + 1 that the table has not
  out_of : (x k : ℕ) → (no_item h.items x || no_peer h.n (k + 1)) ≡ not (ltb k (width_at h x))
  unfolding width_at
  out_of x k = go (either (ltb x h.items))
    where
      go : (ltb x h.items ≡ true) ⊎ (ltb x h.items ≡ false)
          → (no_item h.items x || no_peer h.n (k + 1)) ≡ not (ltb k (cond (ltb x h.items) h.n 0))
      go (inl e) = rw (e, ne_eqb (k + 1) 0 (omega arith)) (iff _ _
          (λ t. not_i _ (λ u. let p = ltb-true h.n (k + 1) t in let q = ltb-true k h.n u in omega arith))
          (λ t. let q = ltb-false k h.n (not-true _ t) in lt-ltb h.n (k + 1) (omega arith)))
      go (inr e) = rw (e, le-ltb k 0 (omega arith))

  stray_one : (x : ℕ) → x < items → number_at s (13 + 2 * x) 2 < 65536
      → stray_at h s x ≡ not (ltb (number_at s (13 + 2 * x) 2) (2 ^ width_at h x))
  unfolding stray_at rows_in
  stray_one x l small =
      any_ext 16 _ (λ k. bit (number_at s (13 + 2 * x) 2) k && not (ltb k (width_at h x)))
      (λ k m. rw (lt-ltb x 64 l)
      (ap₂ ◌&&◌ (member_is (number_at s (13 + 2 * x) 2) (k + 1) (omega arith) ∙ ap (bit (number_at s (13 + 2 * x) 2)) {x = k + 1 - 1} {y = k}
      (omega arith)) (out_of x k)))
      ∙ bits_above 16 (number_at s (13 + 2 * x) 2) (width_at h x) small (narrow h room x)

  pub stray_read : (x w m : ℕ) {r : Bool} → x < items → w ≡ number_at s (13 + 2 * x) 2 → w < 65536 → m ≡ width_at h x → r ≡ ltb w (2 ^ m)
      → not r ≡ stray_at h s x
  stray_read x w m l e small i q = ap not (q ∙ ap₂ (λ (w m : ℕ). ltb w (2 ^ m)) e i) ∙ sym (stray_one x l (omega (arith, e, small)))

-- a set joined to a word of the database
module _ (s : List ℕ) (c : Canon s) (p x v : ℕ) (h : Cell p x) (small : v < 2 ^ 16) where
  abbrev o : ℕ
  o = known_at + peer_bytes * cell p x

  abbrev t : List ℕ
  t = joined peer_bytes s o v

  abbrev spot : ℕ → ℕ → ℕ → ℕ
  spot q y k = 8 * known_at + (cell q y * peers + (k - 1))

  here : (k : ℕ) → Peer k → bit_at t (spot p x k) ≡ (member v k || bit_at s (spot p x k))
  here k q =
      let at : spot p x k ≡ 8 * o + (k - 1) = omega (arith, q.0, q.1) in
      rw (at, member_is v k q.0)
      (bit_at-joined peer_bytes s o v (k - 1) c.bytes (omega (arith, c.long, h.0, h.1)) small (omega (arith, q.1)))

  there : (q y k : ℕ) → Spot k q y → (cell q y ≡ cell p x → ⊥) → bit_at t (spot q y k) ≡ bit_at s (spot q y k)
  there q y k w d = bit_at-joined-out peer_bytes s o v (spot q y k) (beyond (cell q y) (cell p x) k w.0.0 w.0.1 d)
    where
      beyond : (m n k : ℕ) → 1 ≤ k → k ≤ 16 → (m ≡ n → ⊥) → known_at + 2 * n ≤ (8 * known_at + (m * 16 + (k - 1))) / 8
          → known_at + 2 * n + 2 ≤ (8 * known_at + (m * 16 + (k - 1))) / 8
      beyond m n k a b d l = omega arith

  spots_joined : spot_bit t ≡ (λ q y k. (eqb q p && (eqb y x && member v k)) || spot_bit s q y k)
  spots_joined = fun_ext (λ q. fun_ext (λ y. fun_ext (λ k. go q y k (either (is_spot k q y)))))
    where
      inner : (q y k : ℕ) → is_spot k q y ≡ true → Spot k q y → (eqb q p && eqb y x ≡ true) ⊎ (eqb q p && eqb y x ≡ false)
          → spot_bit t q y k ≡ ((eqb q p && (eqb y x && member v k)) || spot_bit s q y k)
      inner q y k e w (inl z) =
          let a = eqb-true q p (and_l (eqb q p) (eqb y x) z) in
          let b = eqb-true y x (and_r (eqb q p) (eqb y x) z) in
          rw (and_l (eqb q p) (eqb y x) z, and_r (eqb q p) (eqb y x) z)
          (sym (has-spot t q y k e) ∙ same q y k a b w.0 ∙ ap (λ (z : Bool). member v k || z) (has-spot s q y k e))
        where
          same : (q y k : ℕ) → q ≡ p → y ≡ x → Peer k → bit_at t (spot q y k) ≡ (member v k || bit_at s (spot q y k))
          same q y k a b w = rw (a, b) (here k w)
      inner q y k e w (inr z) =
          sym (has-spot t q y k e)
          ∙ there q y k w
          (λ d. split (and_i _ _ (eq-eqb q p (omega (arith, d, h.1, w.1.1))) (eq-eqb y x (omega (arith, d, h.1, w.1.1)))) z)
          ∙ has-spot s q y k e
          ∙ sym (ap (λ (u : Bool). u || spot_bit s q y k) (short (eqb q p) (eqb y x) (member v k) z))
        where
          short : (a b m : Bool) → a && b ≡ false → (a && (b && m)) ≡ false
          short true true m e = absurd (split {A = ⊥} refl e)
          short true false m e = refl
          short false b m e = refl

      go : (q y k : ℕ) → (is_spot k q y ≡ true) ⊎ (is_spot k q y ≡ false)
          → spot_bit t q y k ≡ ((eqb q p && (eqb y x && member v k)) || spot_bit s q y k)
      go q y k (inl e) = inner q y k e (spot_within k q y e) (either (eqb q p && eqb y x))
      go q y k (inr e) =
          no_spot t q y k e
          ∙ sym (ap₂ ◌||◌ (is_false (eqb q p && (eqb y x && member v k)) (λ z. split (within_spot k q y (spot q y k z)) e))
          (no_spot s q y k e))
        where
          spot : (q y k : ℕ) → eqb q p && (eqb y x && member v k) ≡ true → Spot k q y
          spot q y k z =
              let r = and_r (eqb q p) (eqb y x && member v k) z in (
                member-among 16 v small k (and_r (eqb y x) (member v k) r),
                (
                  omega (arith, eqb-true q p (and_l (eqb q p) (eqb y x && member v k) z), h.0),
                  omega (arith, eqb-true y x (and_l (eqb y x) (member v k) r), h.1),
                ),
              )

  still : (i : ℕ) → (i < known_at) ⊎ (current_at ≤ i) → byte_at t i ≡ byte_at s i
  still i (inl l) = joined-out peer_bytes s o v i (λ q. omega (arith, l, q))
  still i (inr l) = joined-out peer_bytes s o v i (λ q. omega (arith, l, h.0, h.1))

  join_holds : Holds (joined peer_bytes s (known_at + peer_bytes * cell p x) v) (joining p x v (box_of s))
  unfolding joining
  join_holds = record {
    canon = canon_same t s (λ i l. still i (inr (omega (arith, l)))) c (length-joined peer_bytes s o v)
        (bytes-joined peer_bytes s o v c.bytes)
        (rw (still down_at (inr (omega arith))) c.flag);
    says = λ i. record {
      down = eqb (still down_at (inr (omega arith)) i) 1;
      held = cells_same t s held_at (λ i l m. still i (inl (omega (arith, m)))) i;
      db = spots_joined i;
      gave = cells_same t s gave_at (λ i l m. still i (inl (omega (arith, m)))) i;
      current = still current_at (inr (omega arith)) i;
      to_back = still to_back_at (inr (omega arith)) i;
      heard = heard_same t s (λ i l. still i (inr (omega (arith, l)))) i;
    };
  }

pub join_done : (s t : List ℕ) (p x v n : ℕ) → Canon s → Cell p x → n ≡ cell p x
    → (t ≡ joined peer_bytes s (known_at + peer_bytes * n) v) × (v < 2 ^ 16) → Holds t (joining p x v (box_of s))
join_done s t p x v n c h at q =
    subst (λ (r : List ℕ). Holds r (joining p x v (box_of s)))
    (sym (q.0 ∙ ap (λ (m : ℕ). joined peer_bytes s (known_at + peer_bytes * m) v) at)) (join_holds s c p x v h q.1)

-- rows added one after the other: none yet, one more

pub rows_none : (s : List ℕ) (p : ℕ) (m : List ℕ) → Canon s → Holds s (rows_to p 0 m (box_of s))
unfolding rows_to own_rows
rows_none s p m c = record {
  canon = c;
  says = λ i. record {
    down = (box_of s).down;
    held = (box_of s).held;
    db = fun_ext (λ q. fun_ext (λ y. fun_ext (λ k. none q y k))) i;
    gave = (box_of s).gave;
    current = (box_of s).current;
    to_back = (box_of s).to_back;
    heard = (box_of s).heard;
  };
}
  where
    none : (q y k : ℕ) → spot_bit s q y k ≡ ((eqb q p && (ltb y 0 && rows_in m y k)) || spot_bit s q y k)
    none q y k = rw (le-ltb y 0 (omega arith)) (sym (ap (λ (z : Bool). z || spot_bit s q y k) (and_false (eqb q p))))

one_more : (m : List ℕ) (p n : ℕ) → n < 64 → (b : Box) → joining p n (number_at m (13 + 2 * n) 2) (rows_to p n m b) ≡ rows_to p (n + 1) m b
unfolding joining rows_to own_rows rows_in
one_more m p n l b = λ i. record {
  down = b.down;
  held = b.held;
  db = fun_ext (λ q. fun_ext (λ y. fun_ext (λ k. more (eqb q p) y k (b.db q y k)))) i;
  gave = b.gave;
  current = b.current;
  to_back = b.to_back;
  heard = b.heard;
}
  where
    row : ℕ → ℕ → Bool
    row y k = ltb y 64 && member (number_at m (13 + 2 * y) 2) k

    step : (y k : ℕ) → Dec (y ≡ n)
        → ((eqb y n && member (number_at m (13 + 2 * n) 2) k) || (ltb y n && row y k)) ≡ (ltb y (n + 1) && row y k)
    step y k (yes e) = rw (e, eqb_self n, le-ltb n n (omega arith), lt-ltb n (n + 1) (omega arith), lt-ltb n 64 l)
        (or-false (member (number_at m (13 + 2 * n) 2) k))
    step y k (no d) = rw (ne_eqb y n d) (ap (λ (z : Bool). z && row y k) (iff _ _
        (λ q. let u = ltb-true y n q in lt-ltb y (n + 1) (omega arith))
        (λ q. let u = ltb-true y (n + 1) q in lt-ltb y n (omega arith))))

    join : (a x y z w : Bool) → (x || y) ≡ z → ((a && x) || ((a && y) || w)) ≡ ((a && z) || w)
    join true true y z w e = rw (← e)
    join true false y z w e = rw (← e)
    join false x y z w e = refl

    more : (a : Bool) (y k : ℕ) (w : Bool)
        → ((a && (eqb y n && member (number_at m (13 + 2 * n) 2) k)) || ((a && (ltb y n && row y k)) || w)) ≡ ((a && (ltb y (n + 1) && row y
        k)) || w)
    more a y k w = join a _ _ _ w (step y k (ℕ_discrete y n))

pub rows_more : (s t m : List ℕ) (b : Box) (p n : ℕ) → n < 64 → Holds s (rows_to p n m b)
    → Holds t (joining p n (number_at m (13 + 2 * n) 2) (box_of s)) → Holds t (rows_to p (n + 1) m b)
rows_more s t m b p n l h k = record {
  canon = k.canon;
  says = k.says ∙ ap (joining p n (number_at m (13 + 2 * n) 2)) h.says ∙ one_more m p n l b;
}

-- and all of them are what the message brings
pub rows_all : (m : List ℕ) (p : ℕ) (b : Box) → rows_to p items m b ≡ box_db b (own_rows p (rows_in m) b.db)
unfolding rows_to rows_in
rows_all m p b = ap (λ (rows : ℕ → ℕ → Bool). box_db b (own_rows p rows b.db))
    (fun_ext (λ y. fun_ext (λ k. twice (ltb y 64) (member (number_at m (13 + 2 * y) 2) k))))
  where
    twice : (a x : Bool) → (a && (a && x)) ≡ (a && x)
    twice true x = refl
    twice false x = refl
