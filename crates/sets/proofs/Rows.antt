-- A row of signer sets added item by item, and that the other's row adds what a fetch is to add.
use Prim.Native.Nat.{ℕ, ◌+◌, ◌-◌, ◌<◌}
use native.Mathlib.Decide.{ℕ_discrete}
use native.Mathlib.Omega.{arith}
use mathlib.Core.Bool.{Bool, true, false, ◌&&◌, ◌||◌, or-false}
use mathlib.Core.List.{List}
use mathlib.Core.Path.{◌≡◌, refl, sym, ap, fun_ext, ◌∙◌}
use mathlib.Core.Logic.{◌⊎◌, inl, inr}
use lib.Dec.{eqb, ltb}
use lib.ListN.{get_or}
use borrow.Author.Tests.{eq-eqb, ne_eqb, ltb-true, lt-ltb, le-ltb}
use Rattle.base.specs.Bits.{bit}
use Rattle.base.proofs.Bits.{bit-pack}
use Rattle.base.proofs.Truth.{either, iff, is_false, split, and_l}
use Rattle.header.specs.declared.Signers.{Signers}
use Rattle.state.specs.declared.Fact.{Fact}
use Rattle.state.specs.declared.Fact.TheVariants.{Posted, Signed, Shared, Receipted, Held, Known, Heard}
use Rattle.state.specs.Layout.{peers, items}
use Rattle.state.specs.Facts.{in_range, is_peer, Peer}
use Rattle.base.specs.Tab.{tab}
use Rattle.state.specs.Contents.{Contents, contents, Canon, Holds, adding}
use Rattle.state.specs.Sets.{signers_of, in_set, on_item, known_to}
use Rattle.sets.specs.Database.{row_of, on_row}
use Rattle.state.specs.Sets.{fetched}
use Rattle.base.proofs.Tab.{get_or-tab}
use Rattle.state.proofs.Ranges.{peer_within, within_peer, range_within}
use Rattle.state.proofs.Frame.{has-none}
use Rattle.sets.proofs.Union.{known_is}

-- two sets of facts added are their union added

or-or : (a b c d : Bool) → (a || b) ≡ d → (a || (b || c)) ≡ (d || c)
or-or true b c d e = ap (λ (x : Bool). x || c) e
or-or false b c d e = ap (λ (x : Bool). x || c) e

adding_both : (A B C : Fact → Bool) (c : Contents) → ((f : Fact) → (A f || B f) ≡ C f) → adding A (adding B c) ≡ adding C c
unfolding adding
adding_both A B C c e = λ x. record { has = fun_ext (λ f. or-or (A f) (B f) (c.has f) (C f) (e f)) x; number = c.number; bag = c.bag }

and-or : (a b x y z : Bool) → (x || y) ≡ z → ((a && (b && x)) || (a && (b && y))) ≡ (a && (b && z))
and-or true true x y z e = e
and-or true false x y z e = refl
and-or false b x y z e = refl

known_both : (j p : ℕ) (S T U : ℕ → ℕ → Bool) → ((i k : ℕ) → (S i k || T i k) ≡ U i k) → (f : Fact)
    → (known_to j p S f || known_to j p T f) ≡ known_to j p U f
unfolding known_to
known_both j p S T U e (Posted i) = refl
known_both j p S T U e (Signed k q i) = refl
known_both j p S T U e (Shared k q i) = refl
known_both j p S T U e (Receipted q i) = refl
known_both j p S T U e (Held k q i) = refl
known_both j p S T U e (Known k q i l) = and-or (eqb k j) (eqb q p) (S i l) (T i l) (U i l) (e i l)
known_both j p S T U e (Heard k i) = refl

-- a row, item by item: none yet, one more, all

abbrev set : List Signers → ℕ → ℕ
set sets i = (get_or sets i (record { 0 = 0 })).0

row_step : (sets : List Signers) (n i k : ℕ) → (on_item n (set sets n) i k || on_row sets n i k) ≡ on_row sets (n + 1) i k
unfolding on_item on_row
row_step sets n i k = go (ℕ_discrete i n)
  where
    below : (i ≡ n → ⊥) → ltb i n ≡ ltb i (n + 1)
    below d =
        iff _ _ (λ q. let l = ltb-true i n q in lt-ltb i (n + 1) (omega arith))
        (λ q. let l = ltb-true i (n + 1) q in lt-ltb i n (omega arith))

    go : Dec (i ≡ n) → ((eqb i n && in_set (set sets n) k) || (ltb i n && in_set (set sets i) k)) ≡ (ltb i (n + 1) && in_set (set sets i) k)
    go (yes e) = rw (eq-eqb i n e, le-ltb i n (omega arith), lt-ltb i (n + 1) (omega arith), e) (or-false (in_set (set sets n) k))
    go (no d) = rw (ne_eqb i n d) (ap (λ (b : Bool). b && in_set (set sets i) k) (below d))

no_row : (j p : ℕ) (sets : List Signers) (f : Fact) → known_to j p (on_row sets 0) f ≡ false
unfolding on_row
no_row j p sets f =
    is_false (known_to j p (on_row sets 0) f)
    (λ e. let w = known_is j p (on_row sets 0) f e in let l = ltb-true w.0 0
    (and_l (ltb w.0 0) (in_set (set sets w.0) w.1) w.3) in omega arith)

pub row-none : (s : List ℕ) (j p : ℕ) (sets : List Signers) → Canon s → Holds s (adding (known_to j p (on_row sets 0)) (contents s))
unfolding adding
row-none s j p sets c =
    record {
      canon = c;
      says =
          λ x. record {
            has = fun_ext (λ f. ap (λ (b : Bool). b || (contents s).has f)
                (sym (no_row j p sets f))) x;
            number = (contents s).number;
            bag = (contents s).bag;
          };
    }

pub row_more : (s t : List ℕ) (c : Contents) (j p n : ℕ) (sets : List Signers) → Holds s (adding (known_to j p (on_row sets n)) c)
    → Holds t (adding (known_to j p (on_item n (set sets n))) (contents s)) → Holds t (adding (known_to j p (on_row sets (n + 1))) c)
row_more s t c j p n sets h k =
    record {
      canon = k.canon;
      says =
          k.says
          ∙ ap (adding (known_to j p (on_item n (set sets n)))) h.says
          ∙ adding_both _ _ _ c (known_both j p (on_item n (set sets n)) (on_row sets n) (on_row sets (n + 1)) (row_step sets n));
    }

-- the other's row has what the other's database has

member : (c : Contents) (other p i k : ℕ) → i < items → Peer k
    → bit (set (tab items (signers_of c other p)) i) (k - 1) ≡ c.has (Known other p i k)
unfolding signers_of
member c other p i k l q =
    ap (λ (x : Signers). bit x.0 (k - 1)) (get_or-tab items (signers_of c other p) i (record { 0 = 0 }) l)
    ∙ bit-pack peers (λ m. c.has (Known other p i (m + 1))) (k - 1) (omega arith)
    ∙ ap (λ (m : ℕ). c.has (Known other p i m)) (omega arith)

module _ (s : List ℕ) (other p : ℕ) where
  row_has : (i k : ℕ) → on_row (row_of (contents s) other p) items i k ≡ (contents s).has (Known other p i k)
  unfolding on_row in_set row_of
  row_has i k = go (either (ltb i items)) (either (is_peer k))
    where
      c : Contents
      c = contents s

      sets : List Signers
      sets = tab items (signers_of c other p)

      none : (in_range (Known other p i k) ≡ true → ⊥) → false ≡ c.has (Known other p i k)
      none d = sym (has-none s (Known other p i k) (is_false (in_range (Known other p i k)) d))

      go : (ltb i items ≡ true) ⊎ (ltb i items ≡ false) → (is_peer k ≡ true) ⊎ (is_peer k ≡ false)
          → (ltb i items && (is_peer k && bit (set sets i) (k - 1))) ≡ c.has (Known other p i k)
      go (inr e) q = rw e (none (λ r. split (lt-ltb i items (range_within (Known other p i k) r).1.1.1) e))
      go (inl e) (inr q) = rw (e, q) (none (λ r. split (within_peer k (range_within (Known other p i k) r).1.0) q))
      go (inl e) (inl q) = rw (e, q) (member c other p i k (ltb-true i items e) (peer_within k q))

  pub fetch-done : (t : List ℕ) (j : ℕ) (sets : List Signers) → sets ≡ row_of (contents s) other p
      → Holds t (adding (known_to j p (on_row sets items)) (contents s)) → Holds t (fetched j other p (contents s))
  unfolding fetched
  fetch-done t j sets e h =
      record {
        canon = h.canon;
        says =
            h.says
            ∙ ap (λ (S : ℕ → ℕ → Bool). adding (known_to j p S) (contents s))
            (ap (λ (l : List Signers). on_row l items) e ∙ fun_ext (λ i. fun_ext (λ k. row_has i k)));
      }
