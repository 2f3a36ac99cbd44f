-- The test of row 14 holds exactly of the bytes that the inner step may be run on.
use Prim.Native.Nat.{ℕ, ◌+◌, ◌<◌, ◌≤◌}
use native.Mathlib.Omega.{arith}
use mathlib.Core.Bool.{Bool, true, ◌&&◌}
use mathlib.Core.List.{List}
use mathlib.Core.Path.{◌≡◌}
use lib.Dec.{eqb, ltb}
use lib.ListN.{length}
use borrow.Author.Tests.{eqb-true, eq-eqb, ltb-true, lt-ltb, le-leb}
use Rattle.base.specs.Bytes.{between}
use Rattle.base.proofs.Truth.{and_i, and_l, and_r}
use Rattle.base.proofs.Bytes.{between_true}
use Rattle.bits.specs.Row.{Bytes}
use Rattle.rules.specs.Valid.{Valid, SetsIn, HeardIn}
use Rattle.state.specs.declared.Fact.{Fact}
use Rattle.state.specs.declared.Fact.TheVariants.{Posted, Signed, Shared, Receipted, Held, Known, Heard}
use Rattle.state.specs.declared.Number.TheVariants.{DownOf}
use Rattle.state.specs.Layout.{size}
use Rattle.state.specs.Contents.{contents}
use Rattle.header.specs.declared.Head.{Head}
use Rattle.view.specs.View.{no_clash, table_of, state_of}
use Rattle.bag_valid.specs.BagOk.{bag_ok}
use Rattle.valid.specs.StateOk.{fact_ok, facts_ok, peers_ok, state_ok}
use Rattle.view.specs.Ready.{Room, Ready}
use Rattle.view.proofs.Heard.{told_at, told_in, hearer}
use Rattle.valid.proofs.Facts.{fact_of_ok, ok_of_facts}
use Rattle.valid.proofs.Peers.{Numbers, peers_of_ok, ok_of_peers}
use Rattle.bag_valid.proofs.Bag.{canon_of_ok, bag_of_ok, ok_of_bag}

module _ (h : Head) (s : List ℕ) where
  -- from the test

  sets_of_ok : (clash : ℕ → ℕ → Bool) → facts_ok h s ≡ true
      → SetsIn (table_of h clash) (state_of (contents s)).posted (state_of (contents s)).signed (state_of (contents s)).shared
      (state_of (contents s)).receipted (state_of (contents s)).held (state_of (contents s)).db
  sets_of_ok clash ok = record {
    posts = λ x e. ltb-true _ _ (fact_of_ok h s ok (Posted x) e);
    signs = λ k p x e. let f = fact_of_ok h s ok (Signed k p x) e in search (and_l, and_r, ltb-true, between_true);
    shares = λ k p x e. let f = fact_of_ok h s ok (Shared k p x) e in search (and_l, and_r, ltb-true, between_true);
    receipts = λ p x e. let f = fact_of_ok h s ok (Receipted p x) e in search (and_l, and_r, ltb-true);
    holds = λ j p x e. let f = fact_of_ok h s ok (Held j p x) e in search (and_l, and_r, ltb-true, between_true);
    knows = λ j p x k e. let f = fact_of_ok h s ok (Known j p x k) e in search (and_l, and_r, ltb-true, between_true);
  }

  heard_of_ok : (clash : ℕ → ℕ → Bool) → facts_ok h s ≡ true → HeardIn (table_of h clash) (state_of (contents s)).heard (contents s).bag
  heard_of_ok clash ok j k p B t =
      let e = told_at (λ a. (contents s).has (Heard j a)) 0 (contents s).bag k p B t in (
        between_true 1 j h.n (and_l (between 1 j h.n) _ (fact_of_ok h s ok (Heard j (0 + e.0)) e.2)),
        told_in
            (λ a. (contents s).has (Heard j a)) 0 (contents s).bag k p B t,
      )

  pub ready_of_ok : Room h → Bytes s → state_ok h s ≡ true → Ready h s
  unfolding state_ok
  ready_of_ok room bytes ok =
      let long = eqb-true (length s) size (and_l (eqb (length s) size) _ ok) in
      let r1 = and_r (eqb (length s) size) _ ok in
      let bag = and_l (bag_ok h s) _ r1 in
      let r2 = and_r (bag_ok h s) _ r1 in
      let N = peers_of_ok h s (and_l (peers_ok h s) _ r2) in
      let facts = and_r (peers_ok h s) _ r2 in
      record {
        room = room;
        canon = canon_of_ok h no_clash s long bytes bag;
        good = λ clash. record {
          valid = record {
            sets = sets_of_ok clash facts;
            counters = record { opens = λ j. (N j).current_at_most; behind = λ j. (N j).to_back_at_most; peers = λ j q. (N j).has_current q };
            down = λ j e. (N j).is_down (omega (arith, eqb-true ((contents s).number (DownOf j)) 1 e));
            bag = bag_of_ok h clash s bag;
            heard = heard_of_ok clash facts;
          };
          sound = record {
            hears = λ j e q. and_r (between 1 j h.n) _ (fact_of_ok h s facts (Heard j e) q);
            flags = λ j. (N j).flag;
          };
        };
      }

  -- and to it

  module _ (R : Ready h s) where
    abbrev W : Valid (table_of h no_clash) (state_of (contents s))
    W = (R.good no_clash).valid

    is_peer_lem : (k : ℕ) → (1 ≤ k) × (k ≤ h.n) → between 1 k h.n ≡ true
    is_peer_lem k q = and_i _ _ (le-leb 1 k q.0) (le-leb k h.n q.1)

    is_cell_lem : (p x : ℕ) → (p < h.periods) × (x < h.items) → ltb p h.periods && ltb x h.items ≡ true
    is_cell_lem p x q = and_i _ _ (lt-ltb p h.periods q.0) (lt-ltb x h.items q.1)

    is_spot_lem : (k p x : ℕ) → ((1 ≤ k) × (k ≤ h.n)) × ((p < h.periods) × (x < h.items))
        → between 1 k h.n && (ltb p h.periods && ltb x h.items) ≡ true
    is_spot_lem k p x q = and_i _ _ (is_peer_lem k q.0) (is_cell_lem p x q.1)

    of-table : (f : Fact) → (contents s).has f ≡ true → fact_ok h (contents s).bag f ≡ true
    of-table (Posted i) e = lt-ltb i h.items (W.sets.posts i e)
    of-table (Signed k p i) e = is_spot_lem k p i (W.sets.signs k p i e)
    of-table (Shared k p i) e = is_spot_lem k p i (W.sets.shares k p i e)
    of-table (Receipted p i) e = is_cell_lem p i (W.sets.receipts p i e)
    of-table (Held j p i) e = is_spot_lem j p i (W.sets.holds j p i e)
    of-table (Known j p i k) e = let q = W.sets.knows j p i k e in and_i _ _ (is_peer_lem j q.0.0) (is_spot_lem k p i (q.1, q.0.1))
    of-table (Heard j n) e = and_i _ _ (is_peer_lem j (hearer _ (contents s) (R.good no_clash) j n e)) ((R.good no_clash).sound.hears j n e)

    numbers : (j : ℕ) → Numbers h (contents s) j
    numbers j = record {
      current_at_most = W.counters.opens j;
      to_back_at_most = W.counters.behind j;
      flag = (R.good no_clash).sound.flags j;
      has_current = W.counters.peers j;
      is_down = λ q. W.down j (eq-eqb ((contents s).number (DownOf j)) 1 (omega (arith, (R.good no_clash).sound.flags j)));
    }

    pub ok_of_ready : state_ok h s ≡ true
    unfolding state_ok
    ok_of_ready =
        and_i _ _ (eq-eqb (length s) size R.canon.long)
        (and_i _ _ (ok_of_bag h no_clash s R.canon W.bag) (and_i _ _ (ok_of_peers h s numbers) (ok_of_facts h s of-table)))
