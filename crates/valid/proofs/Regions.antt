-- The test on all bits of facts is that on each region of the layout.
use Prim.Native.Nat.{ℕ, ◌+◌, ◌*◌, ◌/◌, ◌%◌, ◌<◌}
use native.Mathlib.Omega.{arith}
use mathlib.Core.Bool.{Bool, true, false, ◌&&◌, ◌||◌, not, and_assoc}
use mathlib.Core.List.{List}
use mathlib.Core.Path.{◌≡◌, refl, sym, ap, ap₂, ◌∙◌}
use lib.Dec.{ltb, leb}
use lib.ListN.{length}
use borrow.Author.Tests.{le-leb, leb-true, lt-ltb, ltb-true}
use Rattle.base.specs.Below.{every}
use Rattle.base.specs.Bytes.{between}
use Rattle.base.proofs.Truth.{iff, and_r, and_false}
use Rattle.base.proofs.Below.{every_ext, every_parts}
use Rattle.base.proofs.Chain.{stop, pass}
use Rattle.bits.specs.Row.{bit_at}
use Rattle.rules.specs.declared.Entry.{Entry}
use Rattle.state.specs.declared.Fact.{Fact}
use Rattle.state.specs.Layout.{peers, periods, items, peer_bytes, item_bytes, posted_at, signed_at, shared_at, receipted_at, held_at, database_at, heard_at, current_at}
use Rattle.state.specs.Facts.{Within}
use Rattle.state.specs.Places.{place, fact_at, posted_by, signed_by, shared_by, receipted_by, held_by, known_by, heard_by}
use Rattle.state.specs.Contents.{contents}
use Rattle.state.proofs.Places.{fact_at_lem}
use Rattle.header.specs.declared.Head.{Head}
use Rattle.valid.specs.StateOk.{is_spot, fact_ok, facts_ok}
use Rattle.valid.specs.Rows.{only_in, first, in_rows, mask}
use Rattle.valid.specs.Regions.{entry_bytes, hash_in, cells, seats, spots, posted_ok, signed_ok, shared_ok, receipted_ok, held_ok, known_ok, heard_ok, item_sets_ok, peer_sets_ok}
use Rattle.valid.proofs.Masks.{mask-row, only_of_mask, rows_of_mask, tables_of_mask}

-- peers count from 1, and their bits from 0
peer_bit : (n a : ℕ) → between 1 (a + 1) n ≡ ltb a n
peer_bit n a =
    iff _ _ (λ e. lt-ltb a n (omega (arith, leb-true (a + 1) n (and_r (leb 1 (a + 1)) _ e))))
    (λ e. let l = ltb-true a n e in rw (le-leb 1 (a + 1) (omega arith)) (le-leb (a + 1) n (omega arith)))

last_first : (a b c : Bool) → a && (b && c) ≡ (b && (c && a))
last_first true true true = refl
last_first true true false = refl
last_first true false c = refl
last_first false true true = refl
last_first false true false = refl
last_first false false c = refl

-- the regions in the order in which the test takes them
regroup : (p g s r e k a : Bool) → p && (g && (s && (r && (e && (k && a))))) ≡ ((p && (r && e)) && ((g && (s && k)) && a))
regroup false g s r e k a = refl
regroup true false s r e k a = sym (and_false (r && e))
regroup true true false r e k a = sym (and_false (r && e))
regroup true true true r e k a = sym (and_assoc r e (k && a))

module _ (h : Head) (s : List ℕ) where
  abbrev bag : List Entry
  bag = (contents s).bag

  -- bit a is 0, or the fact at it is of the table
  bit_ok : ℕ → Bool
  bit_ok a = not (bit_at s a) || fact_ok h bag (fact_at a)

  -- the facts of a region, by the number of their bit in it, are of the table where f says so
  region : (n o : ℕ) (by : ℕ → Fact) (f : ℕ → Bool) → ((k : ℕ) → k < 8 * n → Within (by k) × (place (by k) ≡ 8 * o + k))
      → ((k : ℕ) → k < 8 * n → fact_ok h bag (by k) ≡ f k)
      → every (8 * n) (λ k. bit_ok (8 * o + k)) ≡ only_in n s o f
  unfolding only_in bit_ok
  region n o by f at ok = every_ext (8 * n) _ _ (λ k l. ap (λ (q : Bool). not (bit_at s (8 * o + k)) || q)
      (ap (λ (a : ℕ). fact_ok h bag (fact_at a)) (sym (at k l).1) ∙ ap (fact_ok h bag) (fact_at_lem (by k) (at k l).0) ∙ ok k l))

  -- a peer, a period and an item of the table
  spot-bit : (a p i a' p' i' : ℕ) → a ≡ a' → p ≡ p' → i ≡ i'
      → is_spot h (a + 1) p i ≡ (ltb p' h.periods && (ltb i' h.items && ltb a' h.n))
  spot-bit a p i a' p' i' x y z = rw (peer_bit h.n a, x, y, z) (last_first (ltb a' h.n) (ltb p' h.periods) (ltb i' h.items))

  posted : every (8 * item_bytes) (λ k. bit_ok (8 * posted_at + k)) ≡ posted_ok h s
  unfolding posted_ok first
  posted = region item_bytes posted_at posted_by (first h.items) (λ k l. (l, omega arith)) (λ k l. refl)

  signed : every (8 * 1024) (λ k. bit_ok (8 * signed_at + k)) ≡ signed_ok h s
  unfolding signed_ok first in_rows
  signed = region 1024 signed_at signed_by (spots h) (λ k l. (((omega arith, omega arith), (omega arith, omega arith)), omega arith))
      (λ k l. spot-bit (k % 16) (k / 16 / 64) (k / 16 % 64) (k % 1024 % 16) (k / 1024) (k % 1024 / 16) (omega arith) (omega arith)
      (omega arith))

  shared : every (8 * 1024) (λ k. bit_ok (8 * shared_at + k)) ≡ shared_ok h s
  unfolding shared_ok first in_rows
  shared = region 1024 shared_at shared_by (spots h) (λ k l. (((omega arith, omega arith), (omega arith, omega arith)), omega arith))
      (λ k l. spot-bit (k % 16) (k / 16 / 64) (k / 16 % 64) (k % 1024 % 16) (k / 1024) (k % 1024 / 16) (omega arith) (omega arith)
      (omega arith))

  receipted : every (8 * 64) (λ k. bit_ok (8 * receipted_at + k)) ≡ receipted_ok h s
  unfolding receipted_ok first in_rows
  receipted = region 64 receipted_at receipted_by (cells h) (λ k l. ((omega arith, omega arith), omega arith)) (λ k l. refl)

  held : every (8 * 1024) (λ k. bit_ok (8 * held_at + k)) ≡ held_ok h s
  unfolding held_ok first in_rows
  held =
      region 1024 held_at held_by (in_rows h.n (periods * item_bytes) (cells h))
      (λ k l. (((omega arith, omega arith), (omega arith, omega arith)), omega arith))
      (λ k l. ap₂ ◌&&◌ (peer_bit h.n (k / 64 / 8) ∙ ap (λ (a : ℕ). ltb a h.n) {x = k / 64 / 8} {y = k / 512} (omega arith))
      (ap₂ (λ (p i : ℕ). ltb p h.periods && ltb i h.items) {x = k / 64 % 8} {y = k % 512 / 64} (omega arith) (omega arith)))

  known : every (8 * 16384) (λ k. bit_ok (8 * database_at + k)) ≡ known_ok h s
  unfolding known_ok first in_rows
  known = region 16384 database_at known_by (in_rows h.n (periods * (items * peer_bytes)) (spots h))
      (λ k l. (((omega arith, omega arith), ((omega arith, omega arith), (omega arith, omega arith))), omega arith))
      (λ k l. ap₂ ◌&&◌ (peer_bit h.n (k / 16 / 64 / 8) ∙ ap (λ (a : ℕ). ltb a h.n) {x = k / 16 / 64 / 8} {y = k / 8192} (omega arith))
      (spot-bit (k % 16) (k / 16 / 64 % 8) (k / 16 % 64) (k % 8192 % 1024 % 16) (k % 8192 / 1024) (k % 8192 % 1024 / 16) (omega arith)
      (omega arith) (omega arith)))

  heard : every (8 * 512) (λ k. bit_ok (8 * heard_at + k)) ≡ heard_ok h s
  unfolding heard_ok in_rows hash_in
  heard =
      region 512 heard_at heard_by (in_rows h.n entry_bytes (hash_in bag)) (λ k l. ((omega arith, omega arith), omega arith))
      (λ k l. ap (λ (b : Bool). b && hash_in bag (k % 256)) (peer_bit h.n (k / 256)))

  -- a region, and what comes after it
  then : (o a b : ℕ) (x y : Bool) → every a (λ k. bit_ok (o + k)) ≡ x → every b (λ k. bit_ok (o + a + k)) ≡ y
      → every (a + b) (λ k. bit_ok (o + k)) ≡ (x && y)
  then o a b x y p q =
      every_parts a b (λ k. bit_ok (o + k))
      ∙ ap₂ ◌&&◌ p (every_ext b (λ k. bit_ok (o + (a + k))) (λ k. bit_ok (o + a + k)) (λ k l. ap bit_ok (omega arith)) ∙ q)

  pub facts_by_region : facts_ok h s ≡ (item_sets_ok h s && (peer_sets_ok h s && heard_ok h s))
  unfolding facts_ok bit_ok
  facts_by_region =
      every_ext (8 * current_at) bit_ok (λ k. bit_ok (0 + k)) (λ k l. ap bit_ok (omega arith))
      ∙ then (8 * posted_at) 64 160256 _ _ posted
      (then (8 * signed_at) 8192 152064 _ _ signed
      (then (8 * shared_at) 8192 143872 _ _ shared
      (then (8 * receipted_at) 512 143360 _ _ receipted
      (then (8 * held_at) 8192 135168 _ _ held
      (then (8 * database_at) 131072 4096 _ _ known heard)))))
      ∙ regroup (posted_ok h s) (signed_ok h s) (shared_ok h s) (receipted_ok h s) (held_ok h s) (known_ok h s) (heard_ok h s)

-- each region as the code tests it, with a mask m and the table's numbers
module _ (h : Head) (s : List ℕ) (m : List ℕ) where
  module _ (e : m ≡ mask item_bytes (in_rows 1 item_bytes (first h.items))) where
    pub by_posted : {r : Bool} → r ≡ only_in (length m) s posted_at (bit_at m) → r ≡ posted_ok h s
    unfolding posted_ok
    by_posted q = q ∙ only_of_mask m _ _ (e ∙ mask-row item_bytes _ (omega arith)) s posted_at

  module _ (e : m ≡ mask (periods * item_bytes) (cells h)) where
    pub by_receipted : {r : Bool} → r ≡ only_in (length m) s receipted_at (bit_at m) → r ≡ receipted_ok h s
    unfolding receipted_ok
    by_receipted q = q ∙ only_of_mask m _ _ e s receipted_at

    pub by_held : {r : Bool} (n : ℕ) → n ≡ h.n → r ≡ only_in (peers * length m) s held_at (in_rows n (length m) (bit_at m)) → r ≡ held_ok h s
    unfolding held_ok
    by_held n i q =
        q ∙ rows_of_mask m _ _ e (omega arith) s held_at peers n
        ∙ ap (λ (x : ℕ). only_in (peers * (periods * item_bytes)) s held_at (in_rows x (periods * item_bytes) (cells h))) i

  module _ (e : m ≡ mask (items * peer_bytes) (seats h)) (p : ℕ) (ip : p ≡ h.periods) where
    by_spots : (o : ℕ)
        → only_in (periods * length m) s o (in_rows p (length m) (bit_at m)) ≡ only_in (periods * (items * peer_bytes)) s o (spots h)
    by_spots o =
        rows_of_mask m _ _ e (omega arith) s o periods p
        ∙ ap (λ (x : ℕ). only_in (periods * (items * peer_bytes)) s o (in_rows x (items * peer_bytes) (seats h))) ip

    pub by_signed : {r : Bool} → r ≡ only_in (periods * length m) s signed_at (in_rows p (length m) (bit_at m)) → r ≡ signed_ok h s
    unfolding signed_ok
    by_signed q = q ∙ by_spots signed_at

    pub by_shared : {r : Bool} → r ≡ only_in (periods * length m) s shared_at (in_rows p (length m) (bit_at m)) → r ≡ shared_ok h s
    unfolding shared_ok
    by_shared q = q ∙ by_spots shared_at

    pub by_known : {r : Bool} (n : ℕ) → n ≡ h.n
        → r ≡ only_in (peers * (periods * length m)) s database_at (in_rows n (periods * length m) (in_rows p (length m) (bit_at m)))
        → r ≡ known_ok h s
    unfolding known_ok
    by_known n i q =
        q
        ∙ tables_of_mask m _ _ e (omega arith) s database_at n p
        ∙ ap₂ (λ (x y : ℕ). only_in (peers * (periods * (items * peer_bytes))) s database_at
        (in_rows x (periods * (items * peer_bytes)) (in_rows y (items * peer_bytes) (seats h)))) i ip

  module _ (e : m ≡ mask entry_bytes (hash_in (contents s).bag)) where
    pub by_heard : {r : Bool} (n : ℕ) → n ≡ h.n → r ≡ only_in (peers * length m) s heard_at (in_rows n (length m) (bit_at m)) → r ≡ heard_ok h s
    unfolding heard_ok
    by_heard n i q =
        q ∙ rows_of_mask m _ _ e (omega arith) s heard_at peers n
        ∙ ap (λ (x : ℕ). only_in (peers * entry_bytes) s heard_at (in_rows x entry_bytes (hash_in (contents s).bag))) i

pub ruleset by-item-sets = (stop, pass, by_posted, by_receipted, by_held)

pub ruleset by-peer-sets = (stop, pass, by_signed, by_shared, by_known)
