-- The exact edges of the steps: each row of refusals, test by test.
use Prim.Native.Nat.{ℕ, ◌≤◌, ◌<◌}
use native.Mathlib.Omega.{arith}
use native.Mathlib.Decide.{dec_le}
use mathlib.Core.Bool.{Bool, true, false, ◌&&◌, not}
use mathlib.Core.List.{List, [], ◌∷◌}
use mathlib.Core.Path.{◌≡◌, refl, sym, ap, fun_ext, ◌∙◌}
use mathlib.Core.Logic.{◌⊎◌, inl, inr}
use lib.ListN.{length, get_or-eq_default}
use borrow.Author.Tests.{ne_eqb, lt-ltb, le-ltb, le-leb, lt-leb, not-true}
use Rattle.base.specs.Refusals.{first}
use Rattle.base.specs.Below.{any}
use Rattle.base.specs.Bits.{bit}
use Rattle.base.proofs.Below.{any_found}
use Rattle.base.proofs.Truth.{split, is_false, either, and_l, and_r, and_false}
use Rattle.rules.specs.declared.Entry.{Entry}
use Rattle.rules.specs.declared.Step.{Step}
use Rattle.rules.specs.declared.Step.TheVariants.{Take, Share, Receipt, Fetch, Back, Publish}
use Rattle.rules.specs.Table.{Table, weigh}
use Rattle.rules.specs.Bag.{is_in, is_hash, entry_at, no_entry, capacity, is_full}
use Rattle.rules.specs.State.{State}
use Rattle.rules.specs.Rules.{rule, answer, next}
use Rattle.rules.specs.Valid.{Peer}
use Rattle.rules.specs.declared.Fields.{Fields}
use Rattle.rules.specs.Fields.{fields}
use Rattle.rules.specs.ByRow.{by_row}
use Rattle.rules.proofs.Backed.{yet, all_backed}
use Rattle.rules.proofs.Bag.{in_without}
use Rattle.rules.proofs.ByRow.{by_row_lem}
use Rattle.edges.specs.Exact.{AllPosted, NeedsUp, hand, sign, take, share, close, fetch, fetch_other, hash, hear, back, Counts, signers, sharers, heard_signers, backed, Enters, own_hash, own_backing, board, false_hash, false_backing, ExactEdges}
use Rattle.edges.proofs.Stored.{stored, closes, backs}
use Rattle.edges.proofs.Given.{gave_none, given, given_only, share_again}
use Rattle.edges.proofs.Keys.{shares_unseen}
use Rattle.edges.proofs.Left.{left}
use Rattle.edges.proofs.Tests.{row, Without, never}

-- past the end of the bag there is no hash
no_hash : (bag : List Entry) (e : ℕ) → length bag ≤ e → is_hash (entry_at bag e) ≡ false
no_hash bag e h = ap is_hash (get_or-eq_default bag no_entry h)

-- a test of the table that is for other ops, or does not hold
fails : (op b : Bool) → b ≡ false → op && b ≡ false
fails op b e = rw e (and_false op)

-- the test of 13

new_full : (a : Entry) (bag : List Entry) → is_in a bag ≡ false → capacity ≤ length bag → is_full a bag ≡ true
unfolding is_full
new_full a bag n f = rw (n, le-leb capacity (length bag) f)

there_not_full : (a : Entry) (bag : List Entry) → is_in a bag ≡ true → is_full a bag ≡ false
unfolding is_full
there_not_full a bag i = rw i

room-not_full : (a : Entry) (bag : List Entry) → length bag < capacity → is_full a bag ≡ false
unfolding is_full
room-not_full a bag r = rw (lt-leb capacity (length bag) r) (and_false (not (is_in a bag)))

module _ (T : Table) (s : State) where
  down : (j : ℕ) (st : Step) → NeedsUp T j st → Peer T j → T.honest j ≡ true → s.down j ≡ true → answer T s st ≡ 8
  unfolding answer rule
  down j _ (hand _ x a) p h d = search row depth 6
  down j _ (sign _ x a) p h d = search row depth 6
  down j _ (take _ k q x a b) p h d = search row depth 8
  down j _ (share _ x a) p h d = search row depth 6
  down j _ (close _) p h d = search row depth 6
  down j _ (fetch _ k q a b c) p h d = search row depth 8
  down k _ (fetch_other j _ q a b c) p h d = go (either (s.down j))
    where
      go : (s.down j ≡ true) ⊎ (s.down j ≡ false) → answer T s (Fetch j k q) ≡ 8
      go (inl e) = search row depth 8
      go (inr e) = search row depth 9
  down j _ (hash _ q a) p h d = search row depth 6
  down j _ (hear _ e) p h d = search row depth 6
  down j _ (back _) p h d = search row depth 6

  none_down : ((j : ℕ) → s.down j ≡ false) → (f : Fields) → Without 8 (by_row T s f)
  unfolding by_row
  none_down up f = search fails

  short : (st : Step) (S : ℕ → Bool) → Counts T s st S → weigh T S < T.t → answer T s st ≡ 12
  unfolding answer rule
  short _ _ (signers j x a b c d) f = let none = gave_none T s j x d in search row depth 8
  short _ _ (sharers p x a) f = search row depth 8
  short _ _ (heard_signers j a b) f = search row depth 8
  short _ _ (backed e a) f = search row depth 8

  enough : (st : Step) (S : ℕ → Bool) → Counts T s st S → T.t ≤ weigh T S → answer T s st ≡ 12 → ⊥
  unfolding answer rule
  enough _ _ (signers j x a b c d) f e = never 12 (rule T s (Share j x)).refusals (λ z. omega arith) (search row) e
  enough _ _ (sharers p x a) f e = never 12 (rule T s (Receipt p x)).refusals (λ z. omega arith) (search row) e
  enough _ _ (heard_signers j a b) f e = never 12 (rule T s (Back j)).refusals (λ z. omega arith) (search row) e
  enough _ _ (backed n a) f e = never 12 (rule T s (Publish n)).refusals (λ z. omega arith) (search row) e

  -- an item of a board whose items are all posted
  posted_all : (B : ℕ) → AllPosted T s B → any T.items (λ x. bit B x && not (s.posted x)) ≡ false
  posted_all B h = is_false _ (λ e. none (any_found T.items (λ x. bit B x && not (s.posted x)) e))
    where
      none : (x : ℕ) × (x < T.items) × (bit B x && not (s.posted x) ≡ true) → ⊥
      none (x, l, e) = split (h x l (and_l _ (not (s.posted x)) e)) (not-true _ (and_r (bit B x) _ e))

  -- a step that enters an entry has passed all tests but that of 13
  entering : (st : Step) (a : Entry) → Enters T s st a → (v : ℕ) → first ((13, is_full a s.bag) ∷ []) ≡ v → answer T s st ≡ v
  unfolding answer rule
  entering _ _ (own_hash j p a b c) v e = search row depth 8
  entering _ _ (own_backing j a b c) v e = search row depth 8
  entering _ _ (board n a b) v e = search row depth 8
  entering _ _ (false_hash j p B a b c d) v e = search (row, posted_all) depth 9
  entering _ _ (false_backing j p B a b c d) v e = search (row, posted_all) depth 9

  with_room : length s.bag < capacity → (f : Fields) → Without 13 (by_row T s f)
  unfolding by_row
  with_room r f = search (fails, room-not_full)

  -- a number that no row of document 01's table gives is not the answer
  not_given : (n : ℕ) (st : Step) → (n ≡ 0 → ⊥) → Without n (by_row T s (fields st)) → answer T s st ≡ n → ⊥
  not_given n st z w e = never n (by_row T s (fields st)) z w (sym (by_row_lem T s st) ∙ e)

  not_with_room : Dec (capacity ≤ length s.bag) → (st : Step) → answer T s st ≡ 13 → capacity ≤ length s.bag
  not_with_room (yes h) st e = h
  not_with_room (no h) st e = absurd (not_given 13 st (λ z. omega arith) (with_room (omega arith) (fields st)) e)

  pub exact_edges : ExactEdges T s
  unfolding answer rule next
  exact_edges = record {
    refused = λ st n. rw (ne_eqb (answer T s st) 0 n);
    stored = stored T s;
    closes = closes T s;
    backs = backs T s;
    current_kept = λ j st. (left T s st).current j;
    to_back_kept = λ j st. (left T s st).to_back j;
    down = down;
    all_up = λ st up e. not_given 8 st (λ z. omega arith) (none_down up (fields st)) e;
    take_beyond = λ j k p x a b c d. search (row, lt-ltb) depth 9;
    take_within = λ j k p x h e. never 9 (rule T s (Take j k p x)).refusals (λ z. omega arith) (search le-ltb) e;
    hear_absent = λ j e a l. let none = no_hash s.bag e l in search row depth 6;
    hear_kind = λ j e a k. search row depth 6;
    hear_open = λ j e a k o. search row depth 7;
    given = given T s;
    given_only = given_only T s;
    share_closed = λ j x a b c. search row depth 8;
    share_again = share_again T s;
    short = short;
    enough = enough;
    back_others = λ j heard e. rw (fun_ext e);
    full_new = λ st a h n f. entering st a h _ (search (row, new_full));
    full_there = λ st a h i. entering st a h _ (search (row, there_not_full));
    full_room = λ st a h r. entering st a h _ (search (row, room-not_full));
    full_only = λ st e. not_with_room (dec_le capacity (length s.bag)) st e;
    clear_early = λ j p peer h l b. let waits = yet T s.to_back p j h peer b in search row depth 6;
    clear_taken = λ p l above. let none = all_backed T s.to_back p above in search row depth 6;
    clear_goes = λ p e a. rw e (in_without p a s.bag);
    take_unsigned = λ j k p x a b c d e. search (row, le-ltb) depth 10;
    shares_unseen = λ st shared n. shares_unseen T s shared st n;
    signatures_unseen = λ p x signed db. refl;
    shares_kept = λ st. (left T s st).shared;
  }
