-- Supporters gathered into a set, one entry after the other, and a quorum of the rules where they reach t.
use Prim.Native.Nat.{ℕ, ◌+◌, ◌-◌, ◌^◌, ◌≤◌, ◌<◌}
use native.Mathlib.Numerals.{add-one}
use native.Mathlib.Omega.{arith}
use mathlib.Core.Bool.{Bool, true, false, cond, not, ◌&&◌, ◌||◌}
use mathlib.Core.List.{List}
use mathlib.Core.Path.{◌≡◌, refl, sym, ap, ap₂, subst, ◌∙◌}
use mathlib.Core.Logic.{◌⊎◌, inl, inr}
use Rattle.std.specs.Bool.{then_some}
use Rattle.std.specs.Prelude.{Option, Some, None}
use lib.Bits.{bit_or, or_lt}
use lib.Dec.{eqb}
use lib.ListN.{length}
use lib.Pow.{pow-lt}
use borrow.Author.Tests.{eqb-true, eq-eqb, ne_eqb, le-leb}
use Rattle.base.specs.Below.{any}
use Rattle.base.specs.Bits.{bit, pack, member}
use Rattle.base.specs.Bytes.{between}
use Rattle.base.proofs.Below.{any_at, any_found}
use Rattle.base.proofs.Bits.{bit-or, bit-pow, bit_ext, bit-pack, pack-bit, pack_ext, pack-lt}
use Rattle.base.proofs.Bytes.{between_true}
use Rattle.base.proofs.Members.{member-pack}
use Rattle.base.proofs.Truth.{either, iff, split, and_i, and_l, and_r, eqb_self}
use Rattle.rules.specs.declared.Entry.{Entry}
use Rattle.rules.specs.declared.Entry.TheVariants.{Hash, Backing, Board}
use Rattle.rules.specs.Table.{quorum}
use Rattle.rules.specs.Rules.{backers}
use Rattle.rules.specs.Bag.{is_in, is_hash, entry_at, kind_of, signer_of, period_of, board_of}
use Rattle.rules.proofs.Bag.{in_at, at_in}
use Rattle.state.specs.declared.Fact.TheVariants.{Heard}
use Rattle.state.specs.Layout.{hash_kind, backing_kind}
use Rattle.state.specs.Contents.{Contents, contents}
use Rattle.bag.specs.Bag.{signer_with, signer_found}
use Rattle.bag.proofs.Search.{some_signer, no_signer}
use Rattle.header.specs.declared.Head.{Head}
use Rattle.header.specs.Quorum.{room, with_peer, reaches}
use Rattle.header.proofs.Reach.{peer_none}
use Rattle.view.specs.View.{no_clash, table_of, state_of, told}
use Rattle.view.specs.Ready.{Ready}
use Rattle.view.proofs.Heard.{told_at, told_in, number_told}
use Rattle.bag_guard.specs.Signers.{or_zero, heard_signer, back_signer, gathered}
use Rattle.view.proofs.Quorum.{is_quorum}

-- a set with one peer more, member by member

or_false : (a b : Bool) → b ≡ false → a || b ≡ a
or_false true b e = refl
or_false false b e = e

no_peer_lem : (set k : ℕ) → set < 2 ^ room → ((i : ℕ) → i < room → k ≡ i + 1 → ⊥) → set ≡ pack room (λ i. bit set i || eqb k (i + 1))
no_peer_lem set k l out =
    sym (pack_ext room (λ i. bit set i || eqb k (i + 1)) (bit set)
    (λ i m. or_false (bit set i) (eqb k (i + 1)) (ne_eqb k (i + 1) (out i m)))
    ∙ pack-bit room set l)

one_peer : (set k : ℕ) → set < 2 ^ room → 1 ≤ k → k ≤ room → bit_or set (2 ^ (k - 1)) ≡ pack room (λ i. bit set i || eqb k (i + 1))
one_peer set k l d h =
    let f : ℕ → Bool = λ i. bit set i || eqb k (i + 1) in
    bit_ext room (bit_or set (2 ^ (k - 1))) (pack room f) (or_lt room set (2 ^ (k - 1)) l (pow-lt {i = k - 1} {j = room} (omega arith)))
    (pack-lt room f)
    (λ i m. bit-or set (2 ^ (k - 1)) i ∙ ap (λ (b : Bool). bit set i || b) (bit-pow (k - 1) i ∙ same i) ∙ sym (bit-pack room f i m))
  where
    same : (i : ℕ) → eqb (k - 1) i ≡ eqb k (i + 1)
    same i =
        iff _ _ (λ e. eq-eqb k (i + 1) (omega (arith, d, eqb-true (k - 1) i e)))
        (λ e. eq-eqb (k - 1) i (omega (arith, eqb-true k (i + 1) e)))

with_members : (set k : ℕ) → set < 2 ^ room → with_peer set k ≡ pack room (λ i. bit set i || eqb k (i + 1))
unfolding with_peer
with_members set k l = go (either (between 1 k room))
  where
    go : (between 1 k room ≡ true) ⊎ (between 1 k room ≡ false)
        → cond (between 1 k room) (bit_or set (2 ^ (k - 1))) set ≡ pack room (λ i. bit set i || eqb k (i + 1))
    go (inl t) = let w = between_true 1 k room t in rw t (one_peer set k l w.0 w.1)
    go (inr t) = rw t (no_peer_lem set k l (λ i m q. split (and_i _ _ (le-leb 1 k (omega arith)) (le-leb k room (omega arith))) t))

-- the signer of an entry, as it is read and added

heard_if : (c : Contents) (j p B e : ℕ) {b : Bool} {k : ℕ} → b ≡ c.has (Heard j e)
    → k ≡ signer_with hash_kind p B (entry_at c.bag e) → cond b k 0 ≡ heard_signer c j p B e
unfolding heard_signer
heard_if c j p B e t q = ap₂ (λ (b : Bool) (k : ℕ). cond b k 0) t q

or_zero_if : (b : Bool) (k : ℕ) → or_zero (then_some b k) ≡ cond b k 0
or_zero_if true k = refl
or_zero_if false k = refl

either_way : (b : Bool) → ◌≡◌ {A = ℕ} (cond b 0 0) 0
either_way true = refl
either_way false = refl

module _ (c : Contents) (j p B e k : ℕ) (q : k ≡ signer_with hash_kind p B (entry_at c.bag e)) where
  pub heard_none : k ≡ 0 → 0 ≡ heard_signer c j p B e
  heard_none z = sym (either_way (c.has (Heard j e))) ∙ (rw z at (heard_if c j p B e refl q))

  pub heard_some : {b : Bool} {r : Option ℕ} → b ≡ c.has (Heard j e) → r ≡ then_some b k → or_zero r ≡ heard_signer c j p B e
  heard_some {b} t u = ap or_zero u ∙ or_zero_if b k ∙ heard_if c j p B e t q

pub found_peer : (kind p B : ℕ) (x : Entry) (r : Option ℕ) → r ≡ signer_found kind p B x → or_zero r ≡ signer_with kind p B x
found_peer kind p B x (Some k) q = some_signer kind p B x q refl
found_peer kind p B x None q = no_signer kind p B x q refl

-- gathering: none yet, one more

pub gather_none : (f : ℕ → ℕ) → 0 ≡ gathered f 0
unfolding gathered any pack
gather_none f = refl

pub gather_more : (f : ℕ → ℕ) (e set r : ℕ) → set ≡ gathered f e → r ≡ with_peer set (f e) → r ≡ gathered f (e + 1)
unfolding gathered any
gather_more f e set r s w =
    w ∙ with_members set (f e) (rw s (pack-lt room (λ k. any e (λ a. eqb (f a) (k + 1)))))
    ∙ pack_ext 16 (λ i. bit set i || eqb (f e) (i + 1)) (λ i. any (e + 1) (λ a. eqb (f a) (i + 1)))
    (λ i l. rw (s, bit-pack 16 (λ i. any e (λ a. eqb (f a) (i + 1))) i l, add-one e))

pub gather_same : (f : ℕ → ℕ) (e set : ℕ) → set ≡ gathered f e → f e ≡ 0 → set ≡ gathered f (e + 1)
gather_same f e set s z = gather_more f e set set s (peer_none set (f e) z)

-- who is among those gathered
pub gathered-has : (f : ℕ → ℕ) (m k : ℕ) → 1 ≤ k → k ≤ room → member (gathered f m) k ≡ any m (λ e. eqb (f e) k)
unfolding gathered
gathered-has f m k a b = member-pack room (λ k. any m (λ e. eqb (f e) k)) k a b

-- what an entry whose signer was found is

signer_of_lem : (x : Entry) (kind p B k : ℕ) → 1 ≤ k → signer_with kind p B x ≡ k
    → (kind_of x ≡ kind) × (period_of x ≡ p) × (board_of x ≡ B) × (signer_of x ≡ k)
unfolding signer_with
signer_of_lem x kind p B k a e = go (either test)
  where
    test : Bool
    test = eqb (period_of x) p && (eqb (kind_of x) kind && eqb (board_of x) B)

    go : (test ≡ true) ⊎ (test ≡ false) → (kind_of x ≡ kind) × (period_of x ≡ p) × (board_of x ≡ B) × (signer_of x ≡ k)
    go (inl t) =
        let r = and_r (eqb (period_of x) p) _ t in (
          eqb-true (kind_of x) kind (and_l _ _ r),
          eqb-true (period_of x) p (and_l _ _ t),
          eqb-true (board_of x) B
              (and_r (eqb (kind_of x) kind) _ r),
          rw t at e,
        )
    go (inr t) = let z : 0 ≡ k = rw t at e in absurd (omega arith)

pub of_signer : (x : Entry) → signer_with (kind_of x) (period_of x) (board_of x) x ≡ signer_of x
unfolding signer_with
of_signer x = rw (eqb_self (period_of x), eqb_self (kind_of x), eqb_self (board_of x))

pub hash_is : (x : Entry) (k p B : ℕ) → 1 ≤ k → signer_with hash_kind p B x ≡ k → x ≡ Hash k p B
hash_is (Hash l q C) k p B a e = let s = signer_of_lem (Hash l q C) hash_kind p B k a e in λ i. Hash (s.3 i) (s.1 i) (s.2 i)
hash_is (Backing l q C) k p B a e = absurd (omega (arith, (signer_of_lem (Backing l q C) hash_kind p B k a e).0))
hash_is (Board q C) k p B a e = absurd (omega (arith, (signer_of_lem (Board q C) hash_kind p B k a e).0))

backing_is : (x : Entry) (k p B : ℕ) → 1 ≤ k → signer_with backing_kind p B x ≡ k → x ≡ Backing k p B
backing_is (Backing l q C) k p B a e = let s = signer_of_lem (Backing l q C) backing_kind p B k a e in λ i. Backing (s.3 i) (s.1 i) (s.2 i)
backing_is (Hash l q C) k p B a e = absurd (omega (arith, (signer_of_lem (Hash l q C) backing_kind p B k a e).0))
backing_is (Board q C) k p B a e = absurd (omega (arith, (signer_of_lem (Board q C) backing_kind p B k a e).0))

found_backing : (x : Entry) (k p B : ℕ) → x ≡ Backing k p B → signer_with backing_kind p B x ≡ k
found_backing x k p B e = rw e (of_signer (Backing k p B))

-- the supporters that were found are those of the rules

module _ (c : Contents) (p B k : ℕ) (a : 1 ≤ k) where
  heard_found : (j e : ℕ) → heard_signer c j p B e ≡ k → (c.has (Heard j e) ≡ true) × (entry_at c.bag e ≡ Hash k p B)
  unfolding heard_signer
  heard_found j e q = go (either (c.has (Heard j e)))
    where
      go : (c.has (Heard j e) ≡ true) ⊎ (c.has (Heard j e) ≡ false) → (c.has (Heard j e) ≡ true) × (entry_at c.bag e ≡ Hash k p B)
      go (inl t) = (t, hash_is _ k p B a (rw t at q))
      go (inr t) = let z : 0 ≡ k = rw t at q in absurd (omega arith)

  found_heard : (j e : ℕ) → c.has (Heard j e) ≡ true → entry_at c.bag e ≡ Hash k p B → heard_signer c j p B e ≡ k
  unfolding heard_signer
  found_heard j e t q = rw (t, q) (of_signer (Hash k p B))

  heard_same : (j : ℕ) → any (length c.bag) (λ e. eqb (heard_signer c j p B e) k) ≡ told (λ e. c.has (Heard j e)) 0 c.bag k p B
  heard_same j = iff _ _ to from
    where
      H : ℕ → Bool
      H e = c.has (Heard j e)

      to : any (length c.bag) (λ e. eqb (heard_signer c j p B e) k) ≡ true → told H 0 c.bag k p B ≡ true
      to t =
          let f = any_found (length c.bag) (λ e. eqb (heard_signer c j p B e) k) t in
          let e = f.0 in
          let g = heard_found j e (eqb-true (heard_signer c j p B e) k f.2) in
          subst (λ (x : Entry). told H 0 c.bag (signer_of x) (period_of x) (board_of x) ≡ true) g.1
          (number_told H 0 e c.bag (subst (λ (x : ℕ). H x ≡ true) {x = e} {y = 0 + e} (omega arith) g.0) (ap is_hash g.1))

      from : told H 0 c.bag k p B ≡ true → any (length c.bag) (λ e. eqb (heard_signer c j p B e) k) ≡ true
      from t =
          let f = told_at H 0 c.bag k p B t in
          let e = f.0 in
          any_at (λ e. eqb (heard_signer c j p B e) k) e (length c.bag) f.1
          (eq-eqb (heard_signer c j p B e) k
          (found_heard j e (subst (λ (x : ℕ). H x ≡ true) {x = 0 + e} {y = e} (omega arith) f.2) f.3))

  backers_same : any (length c.bag) (λ e. eqb (back_signer c p B e) k) ≡ is_in (Backing k p B) c.bag
  unfolding back_signer
  backers_same = iff _ _ to from
    where
      to : any (length c.bag) (λ e. eqb (signer_with backing_kind p B (entry_at c.bag e)) k) ≡ true
          → is_in (Backing k p B) c.bag ≡ true
      to t =
          let f = any_found (length c.bag) (λ e. eqb (signer_with backing_kind p B (entry_at c.bag e)) k) t in
          let x = entry_at c.bag f.0 in
          at_in (Backing k p B) c.bag f.0 f.1 (backing_is x k p B a (eqb-true (signer_with backing_kind p B x) k f.2))

      from : is_in (Backing k p B) c.bag ≡ true
          → any (length c.bag) (λ e. eqb (signer_with backing_kind p B (entry_at c.bag e)) k) ≡ true
      from t =
          let f = in_at (Backing k p B) c.bag t in
          any_at (λ e. eqb (signer_with backing_kind p B (entry_at c.bag e)) k) f.0 (length c.bag) f.1
          (eq-eqb _ k (found_backing (entry_at c.bag f.0) k p B f.2))

-- in a state that is ready no supporter is above n: they are a quorum of the rules where they reach t

module _ (h : Head) (s : List ℕ) (R : Ready h s) {r : Bool} where
  pub heard_few : (j p B set : ℕ) → set ≡ gathered (heard_signer (contents s) j p B) (length (contents s).bag) → r ≡ reaches h set
      → not r ≡ not (quorum (table_of h no_clash) (λ k. (state_of (contents s)).heard j k p B))
  heard_few j p B set e f = ap not (f ∙ ap (reaches h) e ∙ is_quorum h no_clash _ S R.room.peers same below)
    where
      S : ℕ → Bool
      S k = (state_of (contents s)).heard j k p B

      same : (k : ℕ) → 1 ≤ k → k ≤ room → member (gathered (heard_signer (contents s) j p B) (length (contents s).bag)) k ≡ S k
      same k a b = gathered-has _ _ k a b ∙ heard_same (contents s) p B k a j

      below : (k : ℕ) → S k ≡ true → k ≤ h.n
      below k t =
          ((R.good no_clash).valid.bag.entries (Hash k p B) (told_in (λ e. (contents s).has (Heard j e)) 0 (contents s).bag k p B t)).0.1

  pub backers_few : (p B set : ℕ) → set ≡ gathered (back_signer (contents s) p B) (length (contents s).bag) → r ≡ reaches h set
      → not r ≡ not (quorum (table_of h no_clash) (backers (contents s).bag p B))
  backers_few p B set e f = ap not (f ∙ ap (reaches h) e ∙ is_quorum h no_clash _ S R.room.peers same below)
    where
      S : ℕ → Bool
      S = backers (contents s).bag p B

      same : (k : ℕ) → 1 ≤ k → k ≤ room → member (gathered (back_signer (contents s) p B) (length (contents s).bag)) k ≡ S k
      same k a b = gathered-has _ _ k a b ∙ backers_same (contents s) p B k a

      below : (k : ℕ) → S k ≡ true → k ≤ h.n
      below k t = ((R.good no_clash).valid.bag.entries (Backing k p B) t).0.1
