-- Entries read and looked for: what the bytes of the bag say of an entry, there or not.
use Rattle.std.specs.Prelude.{Option, Some, None, cond}
use Prim.Native.Nat.{ℕ, ◌+◌, ◌<◌, ◌≤◌}
use native.Mathlib.Decide.{dec_lt}
use native.Mathlib.Omega.{arith}
use mathlib.Core.Bool.{Bool, true, false, ◌&&◌, and-true}
use mathlib.Core.List.{List}
use mathlib.Core.Path.{◌≡◌, refl, sym, ap, ap₂, subst, ◌∙◌}
use lib.Dec.{eqb}
use lib.ListN.{length}
use Rattle.base.specs.Bytes.{byte_at}
use Rattle.base.specs.Below.{any}
use Rattle.base.proofs.Below.{any_found, any_at}
use Rattle.base.proofs.Truth.{iff, eqb_sym}
use Rattle.bits.specs.Number.{num}
use Rattle.bits.proofs.Number.{num-zero}
use Rattle.rules.specs.declared.Entry.{Entry}
use Rattle.rules.specs.declared.Entry.TheVariants.{Hash, Backing, Board}
use Rattle.state.specs.Layout.{entries, item_bytes, signer_in, period_in, board_in, entry_size, entry_start}
use Rattle.rules.specs.Bag.{kind_of, signer_of, period_of, board_of, no_entry, entry_at as nth, same_entry, is_in}
use Rattle.rules.proofs.Bag.{same_self, eq_of_same, in_at, at_in}
use Rattle.state.specs.Entries.{entry_of}
use Rattle.state.specs.Contents.{count, entry_at, contents, Canon}
use Rattle.bag.specs.declared.Four.{Four}
use Rattle.bag.specs.Bag.{byte_of, kind_in, four_of, signer_with, signer_found, written_signer, is_written}
use Rattle.base.proofs.Tab.{get_or-tab-out}
use Rattle.state.proofs.Encode.{bag_length, entry_nth, entry_period, entry_board}

-- an entry that is not there

zero_entry : (s : List ℕ) (e : ℕ) → ((i : ℕ) → entry_start e ≤ i → byte_at s i ≡ 0) → entry_at s e ≡ no_entry
unfolding entry_at entry_of
zero_entry s e zeros =
    rw (
      zeros (entry_start e) (omega arith),
      zeros (entry_start e + period_in) (omega arith),
      num-zero item_bytes s (entry_start e + board_in) (λ i l. zeros i (omega arith)),
    )

nth_none : (s : List ℕ) (e : ℕ) → count s ≤ e → nth (contents s).bag e ≡ no_entry
unfolding contents
nth_none s e l = get_or-tab-out (count s) (entry_at s) e no_entry l

-- what the bytes say of entry e, there or not
entry_read : (s : List ℕ) (e : ℕ) → Canon s → entry_at s e ≡ nth (contents s).bag e
entry_read s e c = go (dec_lt e (count s))
  where
    go : Dec (e < count s) → entry_at s e ≡ nth (contents s).bag e
    go (yes l) = sym (entry_nth s e l)
    go (no l) = zero_entry s e (λ i q. c.rest i (omega arith)) ∙ sym (nth_none s e (omega arith))

pub read_entry : (s : List ℕ) (e o board : ℕ) (x : Entry) → Canon s → o ≡ entry_start e → board ≡ num item_bytes s (o + board_in)
    → x ≡ entry_of (byte_at s o) (byte_at s (o + signer_in)) (byte_at s (o + period_in)) board
    → x ≡ nth (contents s).bag e
unfolding entry_at
read_entry s e o board x c at b q =
    q
    ∙ ap₂ (λ (a y : ℕ). entry_of (byte_at s a) (byte_at s (a + signer_in)) (byte_at s (a + period_in)) y) at
    (b ∙ ap (λ (a : ℕ). num item_bytes s (a + board_in)) at)
    ∙ entry_read s e c

pub entry_past : (s : List ℕ) (e : ℕ) → Canon s → entries ≤ e → no_entry ≡ nth (contents s).bag e
entry_past s e c l = sym (nth_none s e (omega (arith, c.counted)))

-- the four tests on an entry's bytes, in the order in which they are made, are the test for the same entry

swapped : (k s p b : Bool) → s && (b && (p && k)) ≡ k && (s && (p && b))
swapped true true true b = and-true b
swapped true true false true = refl
swapped true true false false = refl
swapped true false p b = refl
swapped false true true true = refl
swapped false true true false = refl
swapped false true false true = refl
swapped false true false false = refl
swapped false false p b = refl

entry_test : (s : List ℕ) (e : ℕ) (x : Entry) → Canon s → e < count s
    → is_written s (entry_start e) (kind_of x) (signer_of x) (period_of x) (board_of x) ≡ same_entry x (entry_at s e)
unfolding is_written same_entry
entry_test s e x c l =
    let y = entry_at s e in
    rw (
      (c.settled e l).signer,
      ← entry_board s e,
      ← entry_period s e,
      (c.settled e l).kind,
      eqb_sym (signer_of y) (signer_of x),
      eqb_sym (board_of y) (board_of x),
      eqb_sym (period_of y) (period_of x),
      eqb_sym (kind_of y) (kind_of x),
    )
    (swapped (eqb (kind_of x) (kind_of y)) (eqb (signer_of x) (signer_of y)) (eqb (period_of x) (period_of y)) (eqb (board_of x) (board_of y)))

pub byte_kind : (x : Entry) → byte_of (kind_in x) ≡ kind_of x
byte_kind (Hash k p B) = refl
byte_kind (Backing k p B) = refl
byte_kind (Board p B) = refl

pub entry_is : (s : List ℕ) (e o : ℕ) (x : Entry) (f : Four) (r : Bool) → Canon s → e < length (contents s).bag → o ≡ entry_start e
    → f ≡ four_of x → r ≡ is_written s o (byte_of f.kind) f.signer f.period f.board → r ≡ same_entry x (nth (contents s).bag e)
entry_is s e o x f r c l at q h =
    let m : e < count s = omega (arith, bag_length s) in
    h
    ∙ ap₂ (λ (a : ℕ) (g : Four). is_written s a (byte_of g.kind) g.signer g.period g.board) at q
    ∙ ap (λ (k : ℕ). is_written s (entry_start e) k (signer_of x) (period_of x) (board_of x)) (byte_kind x)
    ∙ entry_test s e x c m
    ∙ ap (same_entry x) (sym (entry_nth s e m))

-- the entries of the bag are at most 256, and the bytes of each are inside

pub entry_few : (s : List ℕ) (e : ℕ) → Canon s → e < length (contents s).bag → e < entries
entry_few s e c l = omega (arith, bag_length s, c.counted)

pub entry_inside : (s : List ℕ) (e : ℕ) → Canon s → e < length (contents s).bag → entry_start e + entry_size ≤ length s
entry_inside s e c l = omega (arith, bag_length s, c.counted, c.long)

-- the signer of an entry of the bag is the one in its bytes
pub signer_is : (s : List ℕ) (e o kind p B : ℕ) (r : Option ℕ) → Canon s → e < length (contents s).bag → o ≡ entry_start e
    → r ≡ written_signer s o kind p B → r ≡ signer_found kind p B (nth (contents s).bag e)
unfolding signer_found written_signer
signer_is s e o kind p B r c l at h =
    let m : e < count s = omega (arith, bag_length s) in
    h ∙ rw (at, entry_nth s e m, (c.settled e m).signer, (c.settled e m).kind, ← entry_board s e, ← entry_period s e)

-- the signer that was found is the one of `signer_with`, and where none was found that is 0

abbrev or_zero : Option ℕ → ℕ
or_zero (Some k) = k
or_zero None = 0

or_zero-cond : (b : Bool) (k : ℕ) → or_zero (cond b (Some k) None) ≡ cond b k 0
or_zero-cond true k = refl
or_zero-cond false k = refl

module _ (kind p B : ℕ) (x : Entry) {r : Option ℕ} (q : r ≡ signer_found kind p B x) where
  signer_or_zero : or_zero r ≡ signer_with kind p B x
  unfolding signer_found signer_with
  signer_or_zero = ap or_zero q ∙ or_zero-cond (eqb (period_of x) p && (eqb (kind_of x) kind && eqb (board_of x) B)) (signer_of x)

  pub some_signer : {k : ℕ} → r ≡ Some k → k ≡ signer_with kind p B x
  some_signer e = sym (ap or_zero e) ∙ signer_or_zero

  pub no_signer : r ≡ None → 0 ≡ signer_with kind p B x
  no_signer e = sym (ap or_zero e) ∙ signer_or_zero

-- the search: an entry of the bag is x, as the tests of its entries say
pub in_bag : (x : Entry) (bag : List Entry) → any (length bag) (λ e. same_entry x (nth bag e)) ≡ is_in x bag
in_bag x bag = iff _ _ to from
  where
    to : any (length bag) (λ e. same_entry x (nth bag e)) ≡ true → is_in x bag ≡ true
    to t = let f = any_found (length bag) (λ e. same_entry x (nth bag e)) t in
        at_in x bag f.0 f.1 (sym (eq_of_same x (nth bag f.0) f.2))

    from : is_in x bag ≡ true → any (length bag) (λ e. same_entry x (nth bag e)) ≡ true
    from t = let w = in_at x bag t in
        any_at (λ e. same_entry x (nth bag e)) w.0 (length bag) w.1 (subst (λ (z : Entry). same_entry x z ≡ true) (sym w.2) (same_self x))
