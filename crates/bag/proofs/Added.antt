-- An entry added to the bag: it stands at the end, and all else is as it was.
use Prim.Native.Nat.{ℕ, ◌+◌, ◌^◌, ◌<◌, ◌≤◌}
use native.Mathlib.Numerals.{add-one}
use native.Mathlib.Decide.{ℕ_discrete}
use native.Mathlib.Omega.{arith}
use mathlib.Core.List.{List, [], ◌∷◌, ◌++◌}
use mathlib.Core.Path.{◌≡◌, sym, ap, ap₂, subst, fun_ext, ◌∙◌}
use lib.ListN.{length, set, length-set}
use lib.Seq.{get_or-set_same, get_or-set_other}
use Rattle.base.specs.Bytes.{byte_at}
use Rattle.bits.specs.Row.{Bytes}
use Rattle.bits.specs.Number.{num, stored}
use Rattle.bits.proofs.Row.{bytes-set}
use Rattle.bits.proofs.Number.{length-stored, bytes-stored, stored-out, num-stored}
use Rattle.rules.specs.declared.Entry.{Entry}
use Rattle.state.specs.Layout.{entries, count_at, bag_at, entry_size, entry_start, signer_in, period_in, board_in, count_bytes, item_bytes}
use Rattle.rules.specs.Bag.{kind_of, signer_of, period_of, board_of}
use Rattle.state.specs.Entries.{FieldsFit, EntryFits}
use Rattle.base.specs.Tab.{tab}
use Rattle.state.specs.Contents.{count, entry_at, contents, Settled, Canon, Holds, with_entry}
use Rattle.bag.specs.declared.Four.{Four}
use Rattle.bag.specs.Bag.{byte_of, four_of, written, entered, appended}
use Rattle.bag.proofs.Search.{byte_kind}
use Rattle.base.proofs.Tab.{tab_ext, tab_more}
use Rattle.state.proofs.Entries.{entry_of_lem, kind_lt}
use Rattle.state.proofs.Encode.{bag_length}
use Rattle.state.proofs.Frame as frame

-- an entry written at byte o

module _ (s : List ℕ) (o : ℕ) (x : Entry) where
  -- after its kind, its signer and its period
  abbrev s1 : List ℕ
  s1 = set s o (kind_of x)

  abbrev s2 : List ℕ
  s2 = set s1 (o + signer_in) (signer_of x)

  abbrev s3 : List ℕ
  s3 = set s2 (o + period_in) (period_of x)

  pub length-written : length (entered s o x) ≡ length s
  unfolding entered written
  length-written = simp (length-stored, length-set)

  pub bytes-written : Bytes s → EntryFits x → Bytes (entered s o x)
  unfolding entered written
  bytes-written b h = bytes-stored item_bytes s3 (o + board_in) (board_of x) third
    where
      first : Bytes s1
      first = bytes-set s o (kind_of x) b (kind_lt x)

      second : Bytes s2
      second = bytes-set s1 (o + signer_in) (signer_of x) first h.signer

      third : Bytes s3
      third = bytes-set s2 (o + period_in) (period_of x) second h.period

  pub written_out : (i : ℕ) → (o ≤ i → o + entry_size ≤ i) → byte_at (entered s o x) i ≡ byte_at s i
  unfolding entered written
  written_out i h =
      stored-out item_bytes s3 (o + board_in) (board_of x) i (λ l. omega (arith, h (omega arith)))
      ∙ get_or-set_other s2 (o + period_in) i (period_of x) 0 (λ e. omega (arith, h (omega arith)))
      ∙ get_or-set_other s1 (o + signer_in) i (signer_of x) 0 (λ e. omega (arith, h (omega arith)))
      ∙ get_or-set_other s o i (kind_of x) 0 (λ e. omega (arith, h (omega arith)))

  -- its four numbers
  module _ (room : o + entry_size ≤ length s) where
    written_kind : byte_at (entered s o x) o ≡ kind_of x
    unfolding entered written
    written_kind =
        stored-out item_bytes s3 (o + board_in) (board_of x) o (λ l. absurd (omega arith))
        ∙ get_or-set_other s2 (o + period_in) o (period_of x) 0 (omega arith)
        ∙ get_or-set_other s1 (o + signer_in) o (signer_of x) 0 (omega arith)
        ∙ get_or-set_same s o (kind_of x) 0 (omega arith)

    written_signer_lem : byte_at (entered s o x) (o + signer_in) ≡ signer_of x
    unfolding entered written
    written_signer_lem =
        stored-out item_bytes s3 (o + board_in) (board_of x) (o + signer_in) (λ l. absurd (omega arith))
        ∙ get_or-set_other s2 (o + period_in) (o + signer_in) (period_of x) 0 (omega arith)
        ∙ get_or-set_same s1 (o + signer_in) (signer_of x) 0 (omega (arith, length-set s o (kind_of x)))

    written_period : byte_at (entered s o x) (o + period_in) ≡ period_of x
    unfolding entered written
    written_period =
        stored-out item_bytes s3 (o + board_in) (board_of x) (o + period_in) (λ l. absurd (omega arith))
        ∙ get_or-set_same s2 (o + period_in) (period_of x) 0
        (omega (arith, length-set s1 (o + signer_in) (signer_of x), length-set s o (kind_of x)))

    written-board : board_of x < 256 ^ item_bytes → num item_bytes (entered s o x) (o + board_in) ≡ board_of x
    unfolding entered written
    written-board h = num-stored item_bytes s3 (o + board_in) (board_of x) (simp length-set (omega arith)) h

-- so it is there
module _ (s : List ℕ) (e : ℕ) (x : Entry) (room : entry_start e + entry_size ≤ length s) (h : EntryFits x) where
  pub written_entry : entry_at (entered s (entry_start e) x) e ≡ x
  unfolding entry_at
  written_entry =
      let o = entry_start e in
      rw (written_kind s o x room, written_signer_lem s o x room, written_period s o x room, written-board s o x room h.board) (entry_of_lem x)

  pub written_settled : Settled (entered s (entry_start e) x) e
  written_settled =
      record {
        kind = written_kind s (entry_start e) x room ∙ ap kind_of (sym written_entry);
        signer = written_signer_lem s (entry_start e) x room ∙ ap signer_of (sym written_entry);
      }

-- and counted
module _ (s : List ℕ) (x : Entry) (c : Canon s) (room : count s < entries) (h : EntryFits x) where
  n : ℕ
  n = count s

  u : List ℕ
  u = entered s (entry_start n) x

  t : List ℕ
  t = stored count_bytes u count_at (n + 1)

  inside : entry_start n + entry_size ≤ length s
  unfolding n
  inside = omega (arith, c.long)

  outside : (i : ℕ) → (count_at ≤ i → bag_at ≤ i) → (entry_start n ≤ i → entry_start n + entry_size ≤ i) → byte_at t i ≡ byte_at s i
  unfolding t u
  outside i p q = stored-out count_bytes u count_at (n + 1) i p ∙ written_out s (entry_start n) x i q

  counted : count t ≡ n + 1
  unfolding t u n
  counted = num-stored count_bytes u count_at (n + 1) (omega (arith, length-written s (entry_start n) x, c.long)) (omega arith)

  -- the entries before it, and its own bytes
  older : (e : ℕ) → e < n → (i : ℕ) → entry_start e ≤ i → i < entry_start e + entry_size → byte_at t i ≡ byte_at s i
  older e l i p q = outside i (λ z. omega arith) (λ z. absurd (omega arith))

  newer : (i : ℕ) → entry_start n ≤ i → i < entry_start n + entry_size → byte_at t i ≡ byte_at u i
  unfolding t
  newer i p q = stored-out count_bytes u count_at (n + 1) i (λ z. omega arith)

  settled : (e : ℕ) → e < n + 1 → Settled t e
  unfolding u n
  settled e l = go (ℕ_discrete e n)
    where
      go : Dec (e ≡ n) → Settled t e
      go (yes q) = rw q (frame.settled_same t u n newer (written_settled s n x inside h))
      go (no d) = frame.settled_same t s e (older e (omega arith)) (c.settled e (omega arith))

  bag : tab (count t) (entry_at t) ≡ tab n (entry_at s) ++ (x ∷ [])
  unfolding u n
  bag =
      ap (λ (k : ℕ). tab k (entry_at t)) (counted ∙ add-one n)
      ∙ tab_more n (entry_at t)
      ∙ ap₂ (λ (l : List Entry) (y : Entry). l ++ (y ∷ []))
      (tab_ext n (entry_at t) (entry_at s) (λ e l. frame.entry_same t s e (older e l)))
      (frame.entry_same t u n newer ∙ written_entry s n x inside h)

  canon : Canon t
  unfolding t u n
  canon =
      record {
        long = length-stored count_bytes u count_at (n + 1) ∙ length-written s (entry_start n) x ∙ c.long;
        bytes = bytes-stored count_bytes u count_at (n + 1) (bytes-written s (entry_start n) x c.bytes h);
        counted = omega (arith, counted);
        settled = λ e l. settled e (omega (arith, counted));
        rest = λ i l. outside i (λ z. omega (arith, counted)) (λ z. omega (arith, counted)) ∙ c.rest i (omega (arith, counted));
      }

  pub append_holds : Holds (appended s x) (with_entry x (contents s))
  unfolding appended contents with_entry t u n
  append_holds =
      record {
        canon = canon;
        says =
            λ i. record {
              has = fun_ext (frame.has_same t s (λ i l. outside i (λ z. omega arith) (λ z. omega arith))) i;
              number = fun_ext (frame.number_same t s (λ i p q. outside i (λ z. omega arith) (λ z. omega arith))) i;
              bag = bag i;
            };
      }

-- the writing of an entry's four numbers
pub enter_is : (s t : List ℕ) (o : ℕ) (x : Entry) (f : Four) → f ≡ four_of x
    → (t ≡ written s o (byte_of f.kind) f.signer f.period f.board) × FieldsFit f.signer f.period f.board
    → (t ≡ entered s o x) × EntryFits x
unfolding entered
enter_is s t o x f q h =
    let w = subst (λ (g : Four). (t ≡ written s o (byte_of g.kind) g.signer g.period g.board) × FieldsFit g.signer g.period g.board) q h in
    (w.0 ∙ ap (λ (k : ℕ). written s o k (signer_of x) (period_of x) (board_of x)) (byte_kind x), w.1)

-- what the writing and the counting come to
pub append_done : (s u t : List ℕ) (x : Entry) (n o : ℕ) → Canon s → length (contents s).bag < entries → n ≡ length (contents s).bag
    → o ≡ entry_start n → (u ≡ entered s o x) × EntryFits x → t ≡ stored count_bytes u count_at (n + 1)
    → Holds t (with_entry x (contents s))
unfolding appended
append_done s u t x n o c room e a p q =
    subst (λ (r : List ℕ). Holds r (with_entry x (contents s))) (sym whole) (append_holds s x c (omega (arith, bag_length s)) p.1)
  where
    m : n ≡ count s
    m = e ∙ bag_length s

    whole : t ≡ stored count_bytes (entered s (entry_start (count s)) x) count_at (count s + 1)
    whole = q ∙ ap₂ (λ (a : List ℕ) (k : ℕ). stored count_bytes a count_at (k + 1))
        (p.0 ∙ ap (λ (k : ℕ). entered s k x) (a ∙ ap entry_start m)) m
