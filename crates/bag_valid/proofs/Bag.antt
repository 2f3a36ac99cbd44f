-- The test on the bag says that its bytes are settled, and its entries of the table and different.
use Prim.Native.Nat.{ℕ, ◌+◌, ◌-◌, ◌<◌, ◌≤◌}
use native.Mathlib.Omega.{arith}
use native.Mathlib.Decide.{dec_lt}
use mathlib.Core.Bool.{Bool, true}
use mathlib.Core.List.{List}
use mathlib.Core.Path.{◌≡◌, sym, subst, ◌∙◌}
use lib.Dec.{eqb, leb}
use lib.ListN.{length, get_or-eq_default}
use borrow.Author.Tests.{eqb-true, eq-eqb, leb-true, le-leb, ltb-true, lt-ltb}
use Rattle.base.specs.Below.{every}
use Rattle.base.specs.Bytes.{byte_at, between}
use Rattle.base.proofs.Truth.{and_i, and_l, and_r}
use Rattle.base.proofs.Below.{every-at, every_of}
use Rattle.base.proofs.Bytes.{between_true}
use Rattle.bits.specs.Row.{Bytes}
use Rattle.rules.specs.declared.Entry.{Entry}
use Rattle.rules.specs.declared.Entry.TheVariants.{Hash, Backing, Board}
use Rattle.rules.specs.Bag.{kind_of, signer_of, no_entry, is_in}
use Rattle.rules.specs.Valid.{InTable, BagIn, different}
use Rattle.rules.proofs.Bag.{in_at, at_in}
use Rattle.state.specs.Layout.{entries, entry_start, signer_in, size}
use Rattle.base.specs.Tab.{tab}
use Rattle.state.specs.Contents.{count, entry_at, contents, Canon}
use Rattle.base.proofs.Tab.{length-tab, get_or-tab}
use Rattle.state.proofs.Encode.{bag_length}
use Rattle.header.specs.declared.Head.{Head}
use Rattle.view.specs.View.{table_of}
use Rattle.bag_valid.specs.BagOk.{entry_ok, entry_at_ok, bag_ok}

-- what is in a list from a function is a value of it, and the other way

in_tab : (n : ℕ) (f : ℕ → Entry) (x : Entry) → is_in x (tab n f) ≡ true → (e : ℕ) × (e < n) × (x ≡ f e)
in_tab n f x h =
    let w = in_at x (tab n f) h in
    let l : w.0 < n = omega (arith, length-tab n f, w.1) in
    (w.0, l, sym w.2 ∙ get_or-tab n f w.0 no_entry l)

tab_in : (n : ℕ) (f : ℕ → Entry) (e : ℕ) → e < n → is_in (f e) (tab n f) ≡ true
tab_in n f e l = at_in (f e) (tab n f) e (omega (arith, length-tab n f)) (get_or-tab n f e no_entry l)

module _ (h : Head) (clash : ℕ → ℕ → Bool) where
  entry_of_ok : (x : Entry) → entry_ok h x ≡ true → InTable (table_of h clash) x
  entry_of_ok (Hash k p B) e = search (and_l, and_r, ltb-true, between_true)
  entry_of_ok (Backing k p B) e = search (and_l, and_r, ltb-true, between_true)
  entry_of_ok (Board p B) e = search (and_l, and_r, ltb-true)

  is_between : (low x high : ℕ) → low ≤ x → x ≤ high → between low x high ≡ true
  is_between low x high p q = and_i _ _ (le-leb low x p) (le-leb x high q)

  ok_of_entry : (x : Entry) → InTable (table_of h clash) x → entry_ok h x ≡ true
  ok_of_entry (Hash k p B) t =
      and_i _ _ (is_between 1 k h.n t.0.0 t.0.1) (and_i _ _ (lt-ltb _ _ t.1.0) (lt-ltb _ _ t.1.1))
  ok_of_entry (Backing k p B) t =
      and_i _ _ (is_between 1 k h.n t.0.0 t.0.1) (and_i _ _ (lt-ltb _ _ t.1.0) (lt-ltb _ _ t.1.1))
  ok_of_entry (Board p B) t = and_i _ _ (lt-ltb _ _ t.0) (lt-ltb _ _ t.1)

  module _ (s : List ℕ) where
    -- the parts of the test
    record BagTested : Type 0 where
      pub counted : count s ≤ entries
      pub each : (e : ℕ) → e < count s → entry_at_ok h s e ≡ true
      pub apart : different (contents s).bag ≡ true
      pub rest : (i : ℕ) → i < size - entry_start (count s) → byte_at s (entry_start (count s) + i) ≡ 0

    tested : bag_ok h s ≡ true → BagTested
    unfolding bag_ok
    tested ok =
        let r1 = and_r (leb (count s) entries) _ ok in
        let r2 = and_r (every (count s) (entry_at_ok h s)) _ r1 in
        record {
          counted = leb-true _ _ (and_l (leb (count s) entries) _ ok);
          each = every-at (entry_at_ok h s) (count s) (and_l (every (count s) (entry_at_ok h s)) _ r1);
          apart = and_l (different (contents s).bag) _ r2;
          rest =
              λ i l. eqb-true _ 0 (every-at (λ i. eqb (byte_at s (entry_start (count s) + i)) 0) (size - entry_start (count s))
              (and_r (different (contents s).bag) _ r2) i l);
        }

    pub canon_of_ok : length s ≡ size → Bytes s → bag_ok h s ≡ true → Canon s
    unfolding entry_at_ok
    canon_of_ok long bytes ok =
        let B = tested ok in
        record {
          long = long;
          bytes = bytes;
          counted = B.counted;
          settled = λ e l.
              let each = B.each e l in
              let right = and_r (eqb (byte_at s (entry_start e)) (kind_of (entry_at s e))) _ each in
              record {
                kind = eqb-true _ _ (and_l (eqb (byte_at s (entry_start e)) (kind_of (entry_at s e))) _ each);
                signer = eqb-true _ _ (and_l (eqb (byte_at s (entry_start e + signer_in)) (signer_of (entry_at s e))) _ right);
              };
          rest = λ i l. after i l (dec_lt i size);
        }
      where
        after : (i : ℕ) → entry_start (count s) ≤ i → Dec (i < size) → byte_at s i ≡ 0
        after i l (yes q) =
            subst (λ (k : ℕ). byte_at s k ≡ 0) {x = entry_start (count s) + (i - entry_start (count s))} {y = i} (omega arith)
            ((tested ok).rest (i - entry_start (count s)) (omega arith))
        after i l (no q) = get_or-eq_default s 0 (omega (arith, long))

    pub bag_of_ok : bag_ok h s ≡ true → BagIn (table_of h clash) (contents s).bag
    unfolding contents entry_at_ok
    bag_of_ok ok =
        let B = tested ok in
        record {
          size = omega (arith, bag_length s, B.counted);
          entries = λ x q. let at = in_tab (count s) (entry_at s) x q in
              subst (λ (y : Entry). InTable (table_of h clash) y) (sym at.2)
              (entry_of_ok (entry_at s at.0)
              (and_r (eqb (byte_at s (entry_start at.0 + signer_in)) (signer_of (entry_at s at.0))) _
              (and_r (eqb (byte_at s (entry_start at.0)) (kind_of (entry_at s at.0))) _ (B.each at.0 at.1))));
          apart = B.apart;
        }

    pub ok_of_bag : Canon s → BagIn (table_of h clash) (contents s).bag → bag_ok h s ≡ true
    unfolding bag_ok contents entry_at_ok
    ok_of_bag c B = and_i _ _ (le-leb _ _ c.counted) (and_i _ _
        (every_of (count s) (entry_at_ok h s)
        (λ e l. let own = c.settled e l in and_i _ _ (eq-eqb _ _ own.kind)
        (and_i _ _ (eq-eqb _ _ own.signer) (ok_of_entry (entry_at s e) (B.entries (entry_at s e) (tab_in (count s) (entry_at s) e l))))))
        (and_i _ _ B.apart (every_of (size - entry_start (count s)) (λ i. eqb (byte_at s (entry_start (count s) + i)) 0)
        (λ i l. eq-eqb _ 0 (c.rest (entry_start (count s) + i) (omega arith))))))
