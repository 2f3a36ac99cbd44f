-- The test of row 14 holds exactly of the bytes that are ready.
use Prim.Native.Nat.{ℕ, zero, suc, ◌+◌, ◌-◌, ◌<◌, ◌≤◌}
use native.Mathlib.Decide.{dec_lt}
use native.Mathlib.Omega.{arith}
use mathlib.Core.Bool.{Bool, true, false, not, ◌&&◌, ◌||◌, or_comm}
use mathlib.Core.List.{List, [], ◌∷◌, ◌++◌}
use mathlib.Core.Path.{◌≡◌, refl, sym, ap, ap₂, subst, ◌∙◌}
use lib.Dec.{eqb, leb, ltb}
use lib.ListN.{length, get_or-eq_default}
use borrow.Author.Tests.{eqb-true, eq-eqb, ltb-true, lt-ltb, leb-true, le-leb}
use Rattle.base.specs.Below.{any, every}
use Rattle.base.specs.Bytes.{byte_at, between}
use Rattle.base.specs.Tab.{tab}
use Rattle.base.proofs.Below.{every-at, every_of}
use Rattle.base.proofs.Bytes.{between_true}
use Rattle.base.proofs.Tab.{tab_more}
use Rattle.base.proofs.Truth.{iff, and_i, and_l, and_r}
use Rattle.bits.specs.Row.{Bytes, zeros}
use Rattle.header.specs.declared.Head.{Head}
use Rattle.rules.specs.declared.Entry.{Entry}
use Rattle.rules.specs.Bag.{same_entry, is_in, is_hash}
use Rattle.rules.specs.Valid.{InTable, different}
use Rattle.rules.proofs.Bag.{in_append, eq_of_same, same_self, in_at, at_in}
use Rattle.state.specs.Layout.{periods, entries}
use Rattle.view.specs.View.{no_clash, table_of}
use Rattle.view.specs.Ready.{Room}
use Rattle.field_state.specs.Layout.{held_at, gave_at, current_at, to_back_at, down_at, hash_start, size}
use Rattle.field_state.specs.Holding.{heard_count, hash_at, heard_in, Canon}
use Rattle.field_state.specs.Ready.{Ready}
use Rattle.field_state.specs.Hearing.{same_at}
use Rattle.field_valid.specs.BoxOk.{cell_ok, spots_in, numbers_ok, hash_ok, new_at, hashes_ok, box_ok}
use Rattle.field_valid.proofs.SetsOk.{cell_of_ok, ok_of_cells, spot_of_ok, ok_of_spots}
use Rattle.field_state.proofs.Hashes.{heard_length, heard_nth}

-- hashes

different-append : (l : List Entry) (a : Entry) → different (l ++ (a ∷ [])) ≡ (different l && not (is_in a l))
unfolding different is_in
different-append [] a = refl
different-append (b ∷ l) a =
    rw (in_append b a l, different-append l a, same_turned b a) (regroup (same_entry a b) (is_in b l) (different l) (is_in a l))
  where
    same_turned : (x y : Entry) → same_entry x y ≡ same_entry y x
    same_turned x y =
        iff _ _ (λ t. ap (λ (z : Entry). same_entry z x) (sym (eq_of_same x y t)) ∙ same_self x)
        (λ t. ap (λ (z : Entry). same_entry z y) (sym (eq_of_same y x t)) ∙ same_self y)

    regroup : (x y z w : Bool) → (not (x || y) && (z && not w)) ≡ ((not y && z) && not (x || w))
    regroup true true z w = refl
    regroup true false true w = refl
    regroup true false false w = refl
    regroup false true z w = refl
    regroup false false z w = refl

in_tab : (n : ℕ) (f : ℕ → Entry) (a : Entry) → is_in a (tab n f) ≡ any n (λ d. same_entry a (f d))
unfolding any is_in tab
in_tab zero f a = empty
  where
    empty : is_in a (tab 0 f) ≡ false
    empty = refl
in_tab (suc n) f a =
    ap (is_in a) (tab_more n f) ∙ in_append a (f n) (tab n f) ∙ or_comm (same_entry a (f n)) (is_in a (tab n f))
    ∙ ap (λ (b : Bool). b || same_entry a (f n)) (in_tab n f a)

different-tab : (n : ℕ) (f : ℕ → Entry) → different (tab n f) ≡ every n (λ e. not (any e (λ d. same_entry (f e) (f d))))
unfolding every different tab
different-tab zero f = refl
different-tab (suc n) f =
    ap different (tab_more n f) ∙ different-append (tab n f) (f n) ∙ ap₂ (λ (a b : Bool). a && not b) (different-tab n f) (in_tab n f (f n))

all_apart : (s : List ℕ) → different (heard_in s) ≡ every (heard_count s) (new_at s)
unfolding heard_in new_at same_at hash_at
all_apart s = different-tab (heard_count s) (hash_at s)

module _ (h : Head) (s : List ℕ) where
  in_table : (clash : ℕ → ℕ → Bool) (e : ℕ) → hash_ok h s e ≡ true → InTable (table_of h clash) (hash_at s e) × (is_hash (hash_at s e) ≡ true)
  unfolding hash_ok hash_at
  in_table clash e ok =
      let a = between_true 1 (byte_at s (hash_start e)) h.n (and_l (between 1 (byte_at s (hash_start e)) h.n) _ ok) in
      let r = and_r (between 1 (byte_at s (hash_start e)) h.n) _ ok in (
        (
          a,
          (
            ltb-true _ _ (and_l (ltb (byte_at s (hash_start e + 1)) h.periods) _ r),
            ltb-true _ _
                (and_r (ltb (byte_at s (hash_start e + 1)) h.periods) _ r),
          ),
        ),
        refl,
      )

  table_in_lem : (e : ℕ) → InTable (table_of h no_clash) (hash_at s e) → hash_ok h s e ≡ true
  unfolding hash_ok hash_at
  table_in_lem e t = and_i _ _ (and_i _ _ (le-leb _ _ t.0.0) (le-leb _ _ t.0.1))
      (and_i _ _ (lt-ltb _ _ t.1.0) (lt-ltb _ _ t.1.1))

  -- the parts of the test
  record Tested : Type 0 where
    pub long : length s ≡ size
    pub numbers : numbers_ok h s ≡ true
    pub held : every periods (cell_ok h s held_at) ≡ true
    pub gave : every periods (cell_ok h s gave_at) ≡ true
    pub known : every periods (spots_in h s) ≡ true
    pub few : heard_count s ≤ entries
    pub hashes : every (heard_count s) (hash_ok h s) ≡ true
    pub apart : every (heard_count s) (new_at s) ≡ true
    pub rest : zeros (size - hash_start (heard_count s)) s (hash_start (heard_count s)) ≡ true

  tested : box_ok h s ≡ true → Tested
  unfolding box_ok hashes_ok
  tested ok =
      let r1 = and_r (eqb (length s) size) _ ok in
      let r2 = and_r (numbers_ok h s) _ r1 in
      let r3 = and_r (every periods (cell_ok h s held_at)) _ r2 in
      let r4 = and_r (every periods (cell_ok h s gave_at)) _ r3 in
      let r5 = and_r (every periods (spots_in h s)) _ r4 in
      let r6 = and_r (leb (heard_count s) entries) _ r5 in
      let r7 = and_r (every (heard_count s) (hash_ok h s)) _ r6 in
      record {
        long = eqb-true (length s) size (and_l (eqb (length s) size) _ ok);
        numbers = and_l (numbers_ok h s) _ r1;
        held = and_l (every periods (cell_ok h s held_at)) _ r2;
        gave = and_l (every periods (cell_ok h s gave_at)) _ r3;
        known = and_l (every periods (spots_in h s)) _ r4;
        few = leb-true (heard_count s) entries (and_l (leb (heard_count s) entries) _ r5);
        hashes = and_l (every (heard_count s) (hash_ok h s)) _ r6;
        apart = and_l (every (heard_count s) (new_at s)) _ r7;
        rest = and_r (every (heard_count s) (new_at s)) _ r7;
      }

  untested : Tested → box_ok h s ≡ true
  unfolding box_ok hashes_ok
  untested t =
      and_i _ _ (eq-eqb (length s) size t.long) (and_i _ _ t.numbers (and_i _ _ t.held (and_i _ _ t.gave (and_i _ _ t.known
      (and_i _ _ (le-leb (heard_count s) entries t.few) (and_i _ _ t.hashes (and_i _ _ t.apart t.rest)))))))

  record Numbers : Type 0 where
    pub opens : byte_at s current_at ≤ h.periods
    pub behind : byte_at s to_back_at ≤ byte_at s current_at
    pub flag : byte_at s down_at ≤ 1

  numbered : numbers_ok h s ≡ true → Numbers
  unfolding numbers_ok
  numbered ok =
      let r = and_r (leb (byte_at s current_at) h.periods) _ ok in
      record {
        opens = leb-true _ _ (and_l (leb (byte_at s current_at) h.periods) _ ok);
        behind = leb-true _ _ (and_l (leb (byte_at s to_back_at) (byte_at s current_at)) _ r);
        flag = leb-true _ _ (and_r (leb (byte_at s to_back_at) (byte_at s current_at)) _ r);
      }

  unnumbered : Numbers → numbers_ok h s ≡ true
  unfolding numbers_ok
  unnumbered n = and_i _ _ (le-leb _ _ n.opens) (and_i _ _ (le-leb _ _ n.behind) (le-leb _ _ n.flag))

  after_last : Tested → (i : ℕ) → hash_start (heard_count s) ≤ i → byte_at s i ≡ 0
  unfolding zeros
  after_last t i l = go (dec_lt i size)
    where
      end : ℕ
      end = hash_start (heard_count s)

      go : Dec (i < size) → byte_at s i ≡ 0
      go (yes q) = ap (byte_at s) {x = i} {y = hash_start (heard_count s) + (i - hash_start (heard_count s))} (omega arith)
          ∙ eqb-true _ 0
          (every-at (λ i. eqb (byte_at s (hash_start (heard_count s) + i)) 0) (size - hash_start (heard_count s)) t.rest
          (i - hash_start (heard_count s)) (omega arith))
      go (no q) = get_or-eq_default s 0 (omega (arith, t.long))

  zero-after : Canon s → zeros (size - hash_start (heard_count s)) s (hash_start (heard_count s)) ≡ true
  unfolding zeros
  zero-after c = every_of (size - hash_start (heard_count s)) (λ i. eqb (byte_at s (hash_start (heard_count s) + i)) 0)
      (λ k l. eq-eqb _ 0 (c.rest (hash_start (heard_count s) + k) (omega arith)))

  pub ready_of_ok : Room h → Bytes s → box_ok h s ≡ true → Ready h s
  ready_of_ok room bytes ok =
      let t = tested ok in
      let n = numbered t.numbers in
      let entry : (clash : ℕ → ℕ → Bool) (e : Entry) → is_in e (heard_in s) ≡ true → InTable (table_of h clash) e × (is_hash e ≡ true) =
      λ clash e i.
      let f = in_at e (heard_in s) i in
      let l : f.0 < heard_count s = omega (arith, f.1, heard_length s) in
      subst (λ (x : Entry). InTable (table_of h clash) x × (is_hash x ≡ true)) (sym (heard_nth s f.0 l) ∙ f.2)
      (in_table clash f.0 (every-at (hash_ok h s) (heard_count s) t.hashes f.0 l)) in
      record {
        room = room;
        canon = record { long = t.long; bytes = bytes; flag = n.flag; counted = t.few; rest = after_last t };
        good = λ clash. record {
          holds = λ p x e. cell_of_ok h s bytes held_at p x t.held e;
          knows = λ p x k e. spot_of_ok h s bytes p x k t.known e;
          gives = λ p x e. cell_of_ok h s bytes gave_at p x t.gave e;
          opens = n.opens;
          behind = n.behind;
          store = record {
            size = omega (arith, heard_length s, t.few);
            entries = λ e i. (entry clash e i).0;
            apart = all_apart s ∙ t.apart;
          };
          hashes = λ e i. (entry clash e i).1;
        };
      }

  pub ok_of_ready : Ready h s → box_ok h s ≡ true
  ok_of_ready R =
      let c = R.canon in
      let G = R.good no_clash in
      untested (record {
        long = c.long;
        numbers = unnumbered (record { opens = G.opens; behind = G.behind; flag = c.flag });
        held = ok_of_cells h s c.bytes R.room held_at G.holds;
        gave = ok_of_cells h s c.bytes R.room gave_at G.gives;
        known = ok_of_spots h s c.bytes R.room G.knows;
        few = c.counted;
        hashes = every_of (heard_count s) (hash_ok h s) (λ e l. table_in_lem e (G.store.entries (hash_at s e)
            (at_in (hash_at s e) (heard_in s) e (omega (arith, l, heard_length s)) (heard_nth s e l))));
        apart = sym (all_apart s) ∙ G.store.apart;
        rest = zero-after c;
      })
