-- Good contents fit the layout, so that their bytes say them.
use Prim.Native.Nat.{ℕ, ◌^◌, ◌<◌, ◌≤◌}
use native.Mathlib.Nat.{pow-le-pow_right, zero-lt-suc}
use native.Mathlib.Omega.{arith}
use native.Mathlib.Decide.{dec_lt}
use mathlib.Core.Bool.{Bool, true, false}
use mathlib.Core.Path.{◌≡◌, refl}
use borrow.Author.Tests.{eq-eqb}
use Rattle.base.proofs.Truth.{split}
use Rattle.rules.specs.declared.Entry.{Entry}
use Rattle.rules.specs.declared.Entry.TheVariants.{Hash, Backing, Board}
use Rattle.rules.specs.Valid.{Valid, InTable}
use Rattle.state.specs.declared.Fact.{Fact}
use Rattle.state.specs.declared.Fact.TheVariants.{Posted, Signed, Shared, Receipted, Held, Known, Heard}
use Rattle.state.specs.declared.Number.{Number}
use Rattle.state.specs.declared.Number.TheVariants.{CurrentOf, ToBackOf, DownOf}
use Rattle.state.specs.Layout.{periods, items, item_bytes}
use Rattle.state.specs.Facts.{is_peer, Within, Peer}
use Rattle.state.specs.Numbers.{peer_of}
use Rattle.rules.specs.Bag.{entry_at as nth}
use Rattle.state.specs.Entries.{EntryFits}
use Rattle.state.specs.Contents.{Contents, Fits}
use Rattle.rules.proofs.Bag.{at_in}
use Rattle.state.proofs.Ranges.{within_range, within_peer}
use Rattle.header.specs.declared.Head.{Head}
use Rattle.view.specs.View.{table_of, state_of}
use Rattle.view.specs.Good.{Good}
use Rattle.view.proofs.Meets.{hash_below}
use Rattle.view.specs.Ready.{Room}
use Rattle.view.proofs.Heard.{hearer}

module _ (h : Head) (clash : ℕ → ℕ → Bool) (room : Room h) (c : Contents) (G : Good (table_of h clash) c) where
  abbrev W : Valid (table_of h clash) (state_of c)
  W = G.valid

  peer : {k : ℕ} → (1 ≤ k) × (k ≤ h.n) → Peer k
  peer {k} q = (q.0, omega (arith, q.1, room.peers))

  cell : {p x : ℕ} → (p < h.periods) × (x < h.items) → (p < periods) × (x < items)
  cell {p} {x} q = (omega (arith, q.0, room.periods), omega (arith, q.1, room.items))

  within : (f : Fact) → c.has f ≡ true → Within f
  within (Posted i) q = omega (arith, W.sets.posts i q, room.items)
  within (Signed k p i) q = let v = W.sets.signs k p i q in (peer v.0, cell v.1)
  within (Shared k p i) q = let v = W.sets.shares k p i q in (peer v.0, cell v.1)
  within (Receipted p i) q = cell (W.sets.receipts p i q)
  within (Held j p i) q = let v = W.sets.holds j p i q in (peer v.0, cell v.1)
  within (Known j p i k) q = let v = W.sets.knows j p i k q in (peer v.0.0, (peer v.1, cell v.0.1))
  within (Heard j e) q = (peer (hearer _ c G j e q), omega (arith, hash_below c.bag e (G.sound.hears j e q), W.bag.size))

  small : (n : Number) → c.number n < 256
  small (CurrentOf j) = omega (arith, W.counters.opens j, room.periods)
  small (ToBackOf j) = omega (arith, W.counters.behind j, W.counters.opens j, room.periods)
  small (DownOf j) = omega (arith, G.sound.flags j)

  no_open : (j : ℕ) → is_peer j ≡ false → c.number (CurrentOf j) ≡ 0
  no_open j e = go (dec_lt 0 (c.number (CurrentOf j)))
    where
      go : Dec (0 < c.number (CurrentOf j)) → c.number (CurrentOf j) ≡ 0
      go (yes q) = split (within_peer j (peer (W.counters.peers j q))) e
      go (no q) = omega arith

  no_down : (j : ℕ) → is_peer j ≡ false → c.number (DownOf j) ≡ 0
  no_down j e = go (dec_lt 0 (c.number (DownOf j)))
    where
      go : Dec (0 < c.number (DownOf j)) → c.number (DownOf j) ≡ 0
      go (yes q) = split (within_peer j (peer (W.down j (eq-eqb (c.number (DownOf j)) 1 (omega (arith, G.sound.flags j)))))) e
      go (no q) = omega arith

  others : (n : Number) → is_peer (peer_of n) ≡ false → c.number n ≡ 0
  others (CurrentOf j) e = no_open j e
  others (ToBackOf j) e = omega (arith, W.counters.behind j, no_open j e)
  others (DownOf j) e = no_down j e

  board_small : (B : ℕ) → B < 2 ^ h.items → B < 256 ^ item_bytes
  board_small B l = omega (arith, l, pow-le-pow_right {n = 2} (zero-lt-suc 1) {i = h.items} {j = items} room.items)

  entry_fits : (x : Entry) → InTable (table_of h clash) x → EntryFits x
  entry_fits (Hash k p B) t = record {
    signer = omega (arith, t.0.1, room.peers);
    period = omega (arith, t.1.0, room.periods);
    board = board_small B t.1.1;
  }
  entry_fits (Backing k p B) t = record {
    signer = omega (arith, t.0.1, room.peers);
    period = omega (arith, t.1.0, room.periods);
    board = board_small B t.1.1;
  }
  entry_fits (Board p B) t = record { signer = omega arith; period = omega (arith, t.0, room.periods); board = board_small B t.1 }

  pub good_fits : Fits c
  good_fits = record {
    facts = λ f q. within_range f (within f q);
    small = small;
    others = others;
    counted = W.bag.size;
    entry = λ e l. entry_fits (nth c.bag e) (W.bag.entries (nth c.bag e) (at_in _ c.bag e l refl));
  }
