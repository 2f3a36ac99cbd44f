-- A valid box stays valid, whatever comes to it; so does the fresh one.
use Prim.Native.Nat.{ℕ, ◌+◌, ◌-◌, ◌≤◌, ◌<◌}
use native.Mathlib.Omega.{arith}
use mathlib.Core.Bool.{Bool, true, false, cond, ◌&&◌, ◌||◌, not}
use mathlib.Core.List.{◌∷◌}
use mathlib.Core.Path.{◌≡◌, refl, sym, ◌∙◌, subst}
use mathlib.Core.Logic.{◌⊎◌, inl, inr, ⊎_elim}
use lib.Dec.{eqb}
use borrow.Author.Tests.{eqb-true, not-false, ltb-true}
use Rattle.base.specs.Refusals.{Refusals, name, role}
use Rattle.base.specs.Below.{any}
use Rattle.base.specs.Sets.{add2, add3}
use Rattle.base.proofs.Truth.{split, false_true, either, is_false, and_i, and_l, and_r, or_cases, or_false_l, or_false_r}
use Rattle.base.proofs.Below.{any_at}
use Rattle.base.proofs.Sets.{grow2, grow3}
use Rattle.base.proofs.Refusals.{Passed, passed as all_passed}
use Rattle.rules.specs.declared.Entry.{Entry}
use Rattle.rules.specs.declared.Entry.TheVariants.{Hash}
use Rattle.rules.specs.Table.{Table}
use Rattle.rules.specs.Bag.{same_entry, is_in, enter, is_hash}
use Rattle.rules.specs.Rules.{no_peer, no_item}
use Rattle.rules.specs.Valid.{Peer, Cell, different}
use Rattle.rules.proofs.Answered.{judged}
use Rattle.rules.proofs.Bag.{in_enter, eq_of_same}
use Rattle.rules.proofs.Valid.{is_peer_lem}
use Rattle.rules.proofs.Valid.{bag_enter}
use Rattle.field_rules.specs.Box.{Box, fresh_box}
use Rattle.field_rules.specs.Message.{Message, handed, taken, fetched, told, signs, shares, closes, hashes, backs, falls, rises, row_items, row_peers}
use Rattle.field_rules.specs.Rules.{stray_rows, own_rows, field_rule, handle_answer, handle}
use Rattle.field_rules.specs.BoxIn.{BoxIn, InPlace}

module _ (T : Table) (j : ℕ) where
  -- all that is judged of a message
  abbrev judged_of : Box → Message → Refusals
  judged_of b m = (name, no_peer T.n j) ∷ (role, not (T.honest j)) ∷ (field_rule T j b m).refusals

  -- rows that are not stray are of items and signers of the table
  rows_fit : (rows : ℕ → ℕ → Bool) → ((x l : ℕ) → rows x l ≡ true → (x < row_items) × ((1 ≤ l) × (l ≤ row_peers))) → stray_rows T rows ≡ false
      → (x l : ℕ) → rows x l ≡ true → (x < T.items) × Peer T l
  unfolding stray_rows
  rows_fit rows place judged-so x l r =
      let at = place x l r in
      let fit : no_item T.items x || no_peer T.n l ≡ false = is_false _ (λ e. split
      (any_at (λ y. any row_peers (λ k. stray y (k + 1))) x row_items at.0
      (any_at (λ k. stray x (k + 1)) (l - 1) row_peers (omega (arith, at.1.0, at.1.1))
      (subst (λ (z : ℕ). stray x z ≡ true) {x = l} {y = l - 1 + 1} (omega (arith, at.1.0)) (and_i _ _ r e)))) judged-so) in (
        ltb-true x T.items (not-false _ (or_false_l (no_item T.items x) (no_peer T.n l) fit)),
        is_peer_lem T l
            (or_false_r (no_item T.items x) (no_peer T.n l) fit),
      )
    where
      stray : ℕ → ℕ → Bool
      stray x l = rows x l && (no_item T.items x || no_peer T.n l)

  module _ (b : Box) (G : BoxIn T b) where
    rows_known : (p : ℕ) (rows : ℕ → ℕ → Bool) → p < T.periods → ((x l : ℕ) → rows x l ≡ true → (x < T.items) × Peer T l) → (q x k : ℕ)
        → own_rows p rows b.db q x k ≡ true → Cell T q x × Peer T k
    unfolding own_rows
    rows_known p rows l fit q x k e = go (or_cases (eqb q p && rows x k) (b.db q x k) e)
      where
        go : (eqb q p && rows x k ≡ true) ⊎ (b.db q x k ≡ true) → Cell T q x × Peer T k
        go (inl h) = let r = fit x k (and_r (eqb q p) _ h) in ((omega (arith, l, eqb-true q p (and_l _ (rows x k) h)), r.0), r.1)
        go (inr h) = G.knows q x k h

    more_hashes : (k p B : ℕ) (e : Entry) → is_in e (enter (Hash k p B) b.heard) ≡ true → is_hash e ≡ true
    more_hashes k p B e h = ⊎_elim (λ u. subst (λ (z : Entry). is_hash z ≡ true) (sym (eq_of_same e (Hash k p B) u)) refl) (G.hashes e)
        (or_cases (same_entry e (Hash k p B)) (is_in e b.heard) (sym (in_enter e (Hash k p B) b.heard) ∙ h))

    more_held : (p x : ℕ) (S : ℕ → ℕ → Bool) → ((q y : ℕ) → S q y ≡ true → Cell T q y) → Cell T p x → (q y : ℕ) → add2 p x S q y ≡ true
        → Cell T q y
    more_held p x S old new = grow2 p x S new old

    more_known : (p x k : ℕ) → Cell T p x × Peer T k → (q y l : ℕ) → add3 p x k b.db q y l ≡ true → Cell T q y × Peer T l
    more_known p x k new = grow3 p x k b.db new G.knows

    keeps : (m : Message) → InPlace m → Passed (judged_of b m) → BoxIn T (field_rule T j b m).effect
    unfolding field_rule
    keeps (handed x) i c = search (more_held b.current x b.held G.holds (search judged))
    keeps (taken k p x) i c = search (more_known p x k (search (judged, is_peer_lem)))
    keeps (fetched k p rows) i c = let l : p < T.periods = search judged in search (rows_known p rows l (rows_fit rows i (search)))
    keeps (told k p B) i c = search (more_hashes k p B, bag_enter T b.heard G.store (Hash k p B) (search (judged, is_peer_lem)) (search))
    keeps (signs x) i c = search (more_known b.current x j (search (judged, is_peer_lem)))
    keeps (shares x) i c = search (more_held b.current x b.gave G.gives (search judged))
    keeps closes i c =
        let is_open : b.current < T.periods = search judged in
        let opens : b.current + 1 ≤ T.periods = omega (arith, is_open) in
        let behind : b.to_back ≤ b.current + 1 = omega (arith, G.behind) in
        search
    keeps (hashes p) i c = G
    keeps backs i c = let closed : b.to_back < b.current = search judged in let behind : b.to_back + 1 ≤ b.current = omega
        (arith, closed) in search
    keeps falls i c = search
    keeps rises i c = search

    pub box_stays_valid : (m : Message) → InPlace m → BoxIn T (handle T j b m).after
    unfolding handle handle_answer
    box_stays_valid m i = go (either (eqb (handle_answer T j b m) 0))
      where
        go : (eqb (handle_answer T j b m) 0 ≡ true) ⊎ (eqb (handle_answer T j b m) 0 ≡ false)
            → BoxIn T (cond (eqb (handle_answer T j b m) 0) (field_rule T j b m).effect b)
        go (inl z) = rw z (keeps m i (all_passed (judged_of b m) (eqb-true (handle_answer T j b m) 0 z)))
        go (inr z) = rw z G

pub fresh_box_valid : (T : Table) → BoxIn T fresh_box
unfolding different is_in
fresh_box_valid T = record {
  holds = λ p x e. false_true e;
  knows = λ p x k e. false_true e;
  gives = λ p x e. false_true e;
  opens = omega arith;
  behind = omega arith;
  store = record { size = omega arith; entries = λ e h. false_true h; apart = refl };
  hashes = λ e h. false_true h;
}
