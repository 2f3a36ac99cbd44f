-- A state of zeros is the fresh box; and a ready box stays ready, whatever the bytes of a call.
use Prim.Native.Nat.{ℕ, ◌+◌, ◌*◌, ◌/◌, ◌%◌, ◌<◌, ◌≤◌}
use native.Mathlib.Omega.{arith}
use mathlib.Core.Bool.{Bool, true, false, cond}
use mathlib.Core.List.{List, [], ◌∷◌}
use mathlib.Core.Path.{◌≡◌, sym, ap, subst, fun_ext, refl}
use lib.Dec.{eqb, ltb}
use lib.ListN.{length}
use borrow.Author.Tests.{ltb-true}
use mathlib.Core.Option.{none}
use Rattle.base.specs.Bytes.{byte_at, number_at}
use Rattle.base.proofs.Members.{member-among}
use Rattle.base.specs.Tab.{tab}
use Rattle.base.proofs.Bits.{bit-none}
use Rattle.base.proofs.Truth.{and_false, and_l, and_r, false_true}
use Rattle.bits.specs.Row.{bit_at, Bytes}
use Rattle.bits.proofs.Number.{num-zero}
use Rattle.header.specs.declared.Head.{Head}
use Rattle.rules.specs.Table.{Table}
use Rattle.state.specs.Layout.{count_bytes}
use Rattle.state.specs.Facts.{is_cell, is_spot}
use Rattle.state.specs.Places.{cell}
use Rattle.view.specs.View.{table_of}
use Rattle.view.specs.Ready.{Room}
use Rattle.rules.specs.declared.Entry.{Entry}
use Rattle.rules.specs.declared.Entry.TheVariants.{Hash, Backing, Board}
use Rattle.rules.specs.Valid.{InTable}
use Rattle.field_rules.specs.Box.{Box, fresh_box}
use Rattle.field_rules.specs.Message.{Message, handed, taken, fetched, told, signs, shares, closes, hashes, backs, falls, rises}
use Rattle.field_rules.specs.Rules.{handle}
use Rattle.field_rules.specs.MessageBytes.{Reading, to, malformed, reading, choose, rows_in, read_message, handle_reading, read_step}
use Rattle.field_rules.specs.BoxIn.{BoxIn, InPlace}
use Rattle.field_rules.proofs.BoxIn.{fresh_box_valid, box_stays_valid}
use Rattle.field_state.specs.Layout.{count_at, down_at, size}
use Rattle.field_state.specs.Holding.{cell_bit, spot_bit, heard_count, hash_at, heard_in, box_of, Holds}
use Rattle.field_state.specs.Ready.{Ready}
use Rattle.field_rules.specs.MessageBytes.{brought, rows_brought, own}
use Rattle.field.specs.Calls.{call_answer, call_bytes}
use lib.Pow.{pow_mono}
use Rattle.clash.specs.Clash.{clash_in}
use Rattle.rules.specs.Bag.{is_hash, entry_at as nth}
use Rattle.rules.proofs.Bag.{at_in}
use Rattle.state.specs.Entries.{EntryFits}
use Rattle.state.proofs.Ranges.{within_cell, within_spot}
use Rattle.engine.specs.Engine.{rules_table}
use Rattle.field_state.specs.Encode.{encode}
use Rattle.field_state.proofs.Decoded.{Fits, encode_holds}
use Rattle.header.specs.Header.{head_of}

-- bytes that are all 0
module _ (s : List ℕ) (long : length s ≡ size) (zeros : (i : ℕ) → byte_at s i ≡ 0) where
  none_heard : heard_count s ≡ 0
  none_heard = num-zero count_bytes s count_at (λ i l. zeros i)

  no_cells : (o : ℕ) → cell_bit s o ≡ (λ p x. false)
  unfolding cell_bit bit_at
  no_cells o = fun_ext (λ p. fun_ext (λ x. rw (zeros ((8 * o + cell p x) / 8), bit-none ((8 * o + cell p x) % 8)) (and_false (is_cell p x))))

  no_spots : spot_bit s ≡ (λ p x k. false)
  unfolding spot_bit bit_at
  no_spots = fun_ext (λ p. fun_ext (λ x. fun_ext (λ k. rw (zeros _, bit-none _) (and_false (is_spot k p x)))))

  no_hashes_lem : heard_in s ≡ []
  unfolding heard_in tab
  no_hashes_lem = ap (λ (n : ℕ). tab n (hash_at s)) none_heard

  pub zeros-fresh : Holds s fresh_box
  zeros-fresh = record {
    canon = record {
      long = long;
      bytes = λ i. rw (zeros i) (omega arith);
      flag = rw (zeros down_at) (omega arith);
      counted = omega (arith, none_heard);
      rest = λ i l. zeros i;
    };
    says = λ i. record {
      down = eqb (zeros down_at i) 1;
      held = no_cells 0 i;
      db = no_spots i;
      gave = no_cells 64 i;
      current = zeros 1152 i;
      to_back = zeros 1153 i;
      heard = no_hashes_lem i;
    };
  }

-- bytes that say a valid box are ready
pub holds_ready : (h : Head) → Room h → (s : List ℕ) (b : Box) → Holds s b → ((clash : ℕ → ℕ → Bool) → BoxIn (table_of h clash) b)
    → Ready h s
holds_ready h room s b H G = record {
  room = room;
  canon = H.canon;
  good = λ clash. subst (λ (z : Box). BoxIn (table_of h clash) z) (sym H.says) (G clash);
}

pub zeros_ready : (h : Head) → Room h → (s : List ℕ) → length s ≡ size → ((i : ℕ) → byte_at s i ≡ 0) → Ready h s
zeros_ready h room s long zeros = holds_ready h room s fresh_box (zeros-fresh s long zeros) (λ clash. fresh_box_valid (table_of h clash))

-- nothing in it asks what clashes
pub whichever : (h : Head) (c d : ℕ → ℕ → Bool) (b : Box) → BoxIn (table_of h c) b → BoxIn (table_of h d) b
whichever h c d b G = record {
  holds = G.holds;
  knows = G.knows;
  gives = G.gives;
  opens = G.opens;
  behind = G.behind;
  store = record { size = G.store.size; entries = λ e i. in_other e (G.store.entries e i); apart = G.store.apart };
  hashes = G.hashes;
}
  where
    in_other : (e : Entry) → InTable (table_of h c) e → InTable (table_of h d) e
    in_other (Hash k p B) t = t
    in_other (Backing k p B) t = t
    in_other (Board p B) t = t

-- what a reading leaves is valid again, if the rows of a fetch have their place
abbrev PlacedIn : Reading → Type 0
PlacedIn malformed = Unit {0}
PlacedIn (to i m) = InPlace m

reading_valid : (T : Table) (j : ℕ) (b : Box) → BoxIn T b → (L : Reading) → PlacedIn L → BoxIn T (handle_reading T j b L).after
unfolding handle_reading
reading_valid T j b G malformed p = G
reading_valid T j b G (to i m) p = go (eqb i j)
  where
    go : (t : Bool) → BoxIn T (cond t (handle T j b m) (record { answer = 6; after = b; sent = none })).after
    go true = box_stays_valid T j b G m p
    go false = G

reading-placed : (ok : Bool) (i : ℕ) (m : Message) → InPlace m → PlacedIn (reading ok i m)
unfolding reading
reading-placed true i m p = p
reading-placed false i m p = tt

choice_placed : (op n : ℕ) (L : Reading) (rest : List (ℕ × Reading)) → PlacedIn L → PlacedIn (choose op rest)
    → PlacedIn (choose op ((n, L) ∷ rest))
unfolding choose
choice_placed op n L rest a b = go (eqb op n)
  where
    go : (t : Bool) → PlacedIn (cond t L (choose op rest))
    go true = a
    go false = b

none-placed : (op : ℕ) → PlacedIn (choose op [])
unfolding choose
none-placed op = tt

malformed_placed : PlacedIn malformed
malformed_placed = tt

-- the rows that bytes bring have their place
rows_placed : (m : List ℕ) → Bytes m → (x l : ℕ) → rows_in m x l ≡ true → (x < 64) × ((1 ≤ l) × (l ≤ 16))
unfolding rows_in number_at
rows_placed m bytes x l t = (
  ltb-true x 64 (and_l (ltb x 64) _ t),
  member-among 16 _ (omega (arith, bytes (13 + 2 * x + 0), bytes (13 + 2 * x + 1))) l (and_r (ltb x 64) _ t),
)

message_placed : (m : List ℕ) → Bytes m → PlacedIn (read_message m)
unfolding read_message
message_placed m bytes = go (eqb (length m) 13) (eqb (length m) 141)
  where
    go : (a b : Bool)
        → PlacedIn (cond a (choose (byte_at m 0) (brought (byte_at m 1) (byte_at m 2) (byte_at m 3) (byte_at m 4) (number_at m 5 8)))
        (cond b (choose (byte_at m 0) (rows_brought (byte_at m 1) (byte_at m 2) (byte_at m 3) (byte_at m 4) (number_at m 5 8) m)) malformed))
    go true b = choice_placed (byte_at m 0) 2 _ _ (reading-placed _ _ (handed _) tt)
        (choice_placed (byte_at m 0) 4 _ _ (reading-placed _ _ (taken _ _ _) tt)
        (choice_placed (byte_at m 0) 10 _ _ (reading-placed _ _ (told _ _ _) tt) (none-placed (byte_at m 0))))
    go false true = choice_placed (byte_at m 0) 8 _ _ (reading-placed _ _ (fetched _ _ (rows_in m)) (rows_placed m bytes))
        (none-placed (byte_at m 0))
    go false false = malformed_placed

step_placed : (c : List ℕ) → PlacedIn (read_step c)
unfolding read_step
step_placed c = go (eqb (length c) 13)
  where
    op : ℕ
    op = byte_at c 0

    go : (a : Bool)
        → PlacedIn (cond a (choose (byte_at c 0) (own (byte_at c 1) (byte_at c 2) (byte_at c 3) (byte_at c 4) (number_at c 5 8))) malformed)
    go true =
        choice_placed (byte_at c 0) 3 _ _ (reading-placed _ _ (signs _) tt)
        (choice_placed (byte_at c 0) 5 _ _ (reading-placed _ _ (shares _) tt)
        (choice_placed (byte_at c 0) 7 _ _ (reading-placed _ _ closes tt)
        (choice_placed (byte_at c 0) 9 _ _ (reading-placed _ _ (hashes _) tt)
        (choice_placed (byte_at c 0) 11 _ _ (reading-placed _ _ backs tt)
        (choice_placed (byte_at c 0) 17 _ _ (reading-placed _ _ falls tt)
        (choice_placed (byte_at c 0) 18 _ _ (reading-placed _ _ rises tt) (none-placed (byte_at c 0))))))))
    go false = malformed_placed

-- for a box that is valid there is room
entry_fits : (h : Head) (clash : ℕ → ℕ → Bool) → Room h → (x : Entry) → is_hash x ≡ true → InTable (table_of h clash) x → EntryFits x
entry_fits h clash room (Backing k p B) e t = false_true e
entry_fits h clash room (Board p B) e t = false_true e
entry_fits h clash room (Hash k p B) e t = record {
  signer = omega (arith, t.0.1, room.peers);
  period = omega (arith, t.1.0, room.periods);
  board = omega (arith, t.1.1, pow_mono {i = h.items} {j = 64} room.items);
}

pub fits_valid : (h : Head) (clash : ℕ → ℕ → Bool) → Room h → (b : Box) → BoxIn (table_of h clash) b → Fits b
fits_valid h clash room b G =
    let cells : (p x : ℕ) → (p < h.periods) × (x < h.items) → (p < 8) × (x < 64) =
    λ p x c. (omega (arith, c.0, room.periods), omega (arith, c.1, room.items)) in
    record {
      held = λ p x e. within_cell p x (cells p x (G.holds p x e));
      gave = λ p x e. within_cell p x (cells p x (G.gives p x e));
      known = λ p x k e. let c = G.knows p x k e in within_spot k p x ((c.1.0, omega (arith, c.1.1, room.peers)), cells p x c.0);
      current = omega (arith, G.opens, room.periods);
      to_back = omega (arith, G.opens, G.behind, room.periods);
      counted = G.store.size;
      entry = λ e l. let i = at_in (nth b.heard e) b.heard e l refl in
          entry_fits h clash room (nth b.heard e) (G.hashes _ i) (G.store.entries _ i);
      hash = λ e l. G.hashes _ (at_in (nth b.heard e) b.heard e l refl);
    }

-- so a call leaves a ready box ready, whatever its bytes
module _ (table : List ℕ) (j : ℕ) (s : List ℕ) (R : Ready (head_of table) s) where
  reading_ready : (room : Bool) (L : Reading) → PlacedIn L → Ready (head_of table) (call_bytes table j s room L)
  unfolding call_bytes
  reading_ready room L p = go (eqb (call_answer table j s room L) 0)
    where
      after : Box
      after = (handle_reading (rules_table table) j (box_of s) L).after

      valid : BoxIn (rules_table table) (handle_reading (rules_table table) j (box_of s) L).after
      valid = reading_valid (rules_table table) j (box_of s) (R.good (clash_in table)) L p

      go : (t : Bool) → Ready (head_of table) (cond t (encode (handle_reading (rules_table table) j (box_of s) L).after) s)
      go true = holds_ready (head_of table) R.room _ (handle_reading (rules_table table) j (box_of s) L).after
          (encode_holds _ (fits_valid (head_of table) (clash_in table) R.room _ valid))
          (λ other. whichever (head_of table) (clash_in table) other _ valid)
      go false = R

  pub message_ready : (m : List ℕ) → Bytes m → Ready (head_of table) (call_bytes table j s true (read_message m))
  message_ready m bytes = reading_ready true (read_message m) (message_placed m bytes)

  pub step_ready : (room : Bool) (c : List ℕ) → Ready (head_of table) (call_bytes table j s room (read_step c))
  step_ready room c = reading_ready room (read_step c) (step_placed c)
