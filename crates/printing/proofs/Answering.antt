-- What the writer answers at each return: the first refusal that applies, or the sheet.
use Prim.Native.Nat.{ℕ, ◌+◌, ◌^◌, ◌≤◌, ◌<◌}
use native.Mathlib.Omega.{arith}
use mathlib.Core.Bool.{Bool, true, false, not}
use mathlib.Core.List.{List, [], ◌∷◌}
use mathlib.Core.Logic.{◌⊎◌, inl, inr}
use mathlib.Core.Path.{◌≡◌, refl, sym, ap, subst, ◌∙◌}
use lib.Dec.{leb, ltb}
use lib.ListN.{length}
use borrow.Author.Tests.{le-leb, lt-leb, le-ltb, lt-ltb, ne_eqb, ltb-true, ltb-false}
use Rattle.std.specs.Prelude.{IsErr, Result, Ok, Err, Option, Some, None}
use Rattle.base.specs.Refusals.{answer_of, numbered, first}
use Rattle.base.specs.declared.refusal.Refusal.{Refusal}
use Rattle.base.proofs.Truth.{either}
use Rattle.base.proofs.Refusals.{stop, pass, none_left, first_passed, first_given, refused_ne0}
use Rattle.header.specs.Header.{head_of, periods_of, items_of}
use Rattle.header.specs.declared.Head.{Head}
use Rattle.pairs.specs.Pairs.{first_offset}
use Rattle.ballot.specs.Table.{table_refusals, refusal}
use Rattle.ballot.proofs.Sound.{sound}
use Rattle.rules.specs.Ideal.{has_board}
use Rattle.bits.specs.Row.{Bytes}
use Rattle.valid.specs.StateOk.{state_ok}
use Rattle.valid.proofs.Ready.{ok_of_ready}
use Rattle.engine.proofs.Calls.{ready_read}
use Rattle.text.specs.declared.Printer.{Printer}
use Rattle.text.specs.Wrote.{over, Put}
use Rattle.text.proofs.Puts.{◌▷◌, renamed}
use Rattle.sheets.specs.Sheet.{pairs_at}
use Rattle.sheets.specs.Made.{pairs_from, joined, sheet_of}
use Rattle.sheets.proofs.Joined.{sheet_length}
use Rattle.printing.specs.Board.{boards_on, first_board, published, board_texts}
use Rattle.printing.specs.Written.{sheet_for, board_refusals, write_answer, written, sheet_left, in_numbers, Judged}
use Rattle.printing.specs.Measured.{Measured, Printed}
use Rattle.printing.specs.declared.Extent.{Extent}
use Rattle.printing.proofs.Finding.{board_there, board_absent}

-- the sheet of a board: period, count, pairs and texts, one after the other, or no room for them

module _ (table : List ℕ) (p B m : ℕ) {e : Extent} (M : Measured table B m e) {n : ℕ} (start : n ≡ first_offset pairs_at e.count) where
  abbrev texts : List (List ℕ)
  texts = board_texts table B m

  first_text : n ≡ first_offset pairs_at (length texts)
  first_text = start ∙ ap (first_offset pairs_at) M.counted

  pub sheet_written : {q q₁ q₂ q₃ q₄ : Printer} → Put q (p ∷ []) q₁ → Put q₁ (e.count ∷ []) q₂ → Put q₂ (pairs_from n texts) q₃
      → Put q₃ (joined texts) q₄ → Put q (sheet_of p texts) q₄
  unfolding sheet_of
  sheet_written period count pairs rest =
      period ▷ renamed (ap (λ (k : ℕ). k ∷ []) M.counted) count
      ▷ renamed (ap (λ (o : ℕ). pairs_from o texts) first_text) pairs ▷ rest

  long : n + e.bytes ≡ length (sheet_of p texts)
  long = omega (arith, sheet_length p texts, first_text, M.sized)

  pub no_room : (was : List ℕ) → length was < n + e.bytes → Printed (sheet_of p texts) was was (Err 16)
  no_room was l =
      let short = lt-ltb (length was) (length (sheet_of p texts)) (omega (arith, long)) in
      record { answer = rw short; bytes = rw short }

  pub printed : {was is : List ℕ} {q r : Printer} → n + e.bytes ≤ length was → length was < 2 ^ 64 → q.out.now ≡ was → q.at ≡ 0
      → Put q (sheet_of p texts) r → is ≡ r.out.now → Printed (sheet_of p texts) was is (Ok (n + e.bytes))
  printed {was} l room from start-is w is-is =
      let fits = le-ltb (length was) (length (sheet_of p texts)) (omega (arith, long)) in
      let over-it = w.wrote.bytes (rw from room) in
      record { answer = rw fits (ap Ok long); bytes = rw fits (is-is ∙ rw (from, start-is) at over-it) }

pub few_items : (table : List ℕ) {m : ℕ} → refusal table ≡ 0 → m ≡ items_of table → m ≤ 64
few_items table taken e = omega (arith, (sound table taken).items_most_lem)

-- the first refusal that applies

module _ (table s : List ℕ) (p room : ℕ) where
  pub table_given : {r : ℕ} → r ≡ refusal table → (r ≡ 0 → ⊥) → r ≡ write_answer table s p room
  unfolding write_answer refusal
  table_given is bad = is ∙ sym (first_given (table_refusals table) (board_refusals table s p room) (λ e. bad (is ∙ e)))

  module _ (taken : refusal table ≡ 0) where
    pub past_table : {v : ℕ} → v ≡ first (numbered (board_refusals table s p room)) → v ≡ write_answer table s p room
    unfolding write_answer refusal
    past_table e = e ∙ sym (first_passed (table_refusals table) (board_refusals table s p room) taken)

    pub state_given : {ok : Bool} → ok ≡ state_ok (head_of table) s → not ok ≡ true → 14 ≡ write_answer table s p room
    state_given is bad = past_table (stop 14 _ (ap not is) bad)

    module _ (ok : state_ok (head_of table) s ≡ true) where
      past_state : not (state_ok (head_of table) s) ≡ false
      past_state = ap not ok

      pub name_given : periods_of table ≤ p → 6 ≡ write_answer table s p room
      name_given l = past_table (pass 14 6 _ refl past_state (stop 6 _ refl (le-leb _ _ l)))

      module _ (named : p < periods_of table) where
        past_name : leb (periods_of table) p ≡ false
        past_name = lt-leb (periods_of table) p named

        pub unknown_given : has_board (boards_on s) p ≡ false → 10 ≡ write_answer table s p room
        unknown_given none = past_table (pass 14 10 _ refl past_state (pass 6 10 _ refl past_name (stop 10 _ refl (ap not none))))

        module _ (there : has_board (boards_on s) p ≡ true) where
          past_board : not (has_board (boards_on s) p) ≡ false
          past_board = ap not there

          pub room_given : room < length (sheet_for table s p) → 16 ≡ write_answer table s p room
          room_given l =
              past_table (pass 14 16 _ refl past_state (pass 6 16 _ refl past_name (pass 10 16 _ refl past_board
              (stop 16 _ refl (lt-ltb _ _ l)))))

          pub none_given : length (sheet_for table s p) ≤ room → 0 ≡ write_answer table s p room
          none_given l =
              past_table (pass 14 0 _ refl past_state (pass 6 0 _ refl past_name (pass 10 0 _ refl past_board
              (pass 16 0 _ refl (le-ltb _ _ l) none_left))))

-- a table that is taken, and a state that is one of it

pub both_good : (table s : List ℕ) {h : Head} {ok : Bool} → 0 ≡ refusal table → h ≡ head_of table → ok ≡ state_ok h s → Bytes s → ok ≡ true
    → Judged table s h
both_good table s {h} fits head tested bytes y =
    record { taken = sym fits; head = head; ready = ready_read table fits h head s bytes (sym tested ∙ y) }

module _ {table s : List ℕ} {h : Head} (given : Judged table s h) where
  pub items-read : h.items ≡ items_of table
  items-read = ap (λ (h : Head). h.items) given.head

  pub periods-read : h.periods ≡ periods_of table
  periods-read = ap (λ (h : Head). h.periods) given.head

  pub is_made : (p : ℕ) {B : ℕ} → B ≡ first_board (boards_on s) p → sheet_of p (board_texts table B h.items) ≡ sheet_for table s p
  unfolding sheet_for
  is_made p first-is = rw (items-read, first-is)

-- what is answered, and what is left in the buffer

module _ (table s : List ℕ) (p : ℕ) (was : List ℕ) where
  abbrev pub Ended : Result ℕ ℕ → List ℕ → Type 0
  Ended r is = (r ≡ written table s p (length was)) × (is ≡ sheet_left table s p was)

  refused : {n : ℕ} → (n ≡ 0 → ⊥) → n ≡ write_answer table s p (length was) → Ended (Err n) was
  unfolding written sheet_left
  refused {n} bad is = (rw (← is, ne_eqb n 0 bad), rw (← is, ne_eqb n 0 bad))

  done : {r : Result ℕ ℕ} {is : List ℕ} → 0 ≡ write_answer table s p (length was) → r ≡ Ok (length (sheet_for table s p))
      → is ≡ over was 0 (sheet_for table s p) → Ended r is
  unfolding written sheet_left
  done zero length-is bytes = (rw (← zero) length-is, rw (← zero) bytes)

  pub table_refused : (a : Result ℕ Refusal) → IsErr a → answer_of a ≡ refusal table → Ended (in_numbers a) was
  table_refused (Ok n) never is = absurd (cc)
  table_refused (Err r) bad is = refused (refused_ne0 r) (table_given table s p (length was) is (refused_ne0 r))

  pub state_refused : {h : Head} {ok : Bool} → 0 ≡ refusal table → h ≡ head_of table → ok ≡ state_ok h s → ok ≡ false → Ended (Err 14) was
  state_refused fits head tested bad =
      let judged = tested ∙ ap (λ h. state_ok h s) head in
      refused (λ e. omega arith) (state_given table s p (length was) (sym fits) judged (ap not bad))

  -- on a table that is taken and a state that is ready
  module _ {h : Head} (given : Judged table s h) where
    state_taken : state_ok (head_of table) s ≡ true
    state_taken = subst (λ h. state_ok h s ≡ true) given.head (ok_of_ready h s given.ready)

    pub no_period_lem : h.periods ≤ p → Ended (Err 6) was
    no_period_lem l =
        refused (λ e. omega arith) (name_given table s p (length was) given.taken state_taken (omega (arith, l, periods-read given)))

    module _ (named : p < h.periods) {f : Option ℕ} (looked : f ≡ published (boards_on s) p) where
      in_range_lem : p < periods_of table
      in_range_lem = omega (arith, named, periods-read given)

      pub no_board_lem : f ≡ None → Ended (Err 10) was
      no_board_lem is =
          refused (λ e. omega arith) (unknown_given table s p (length was) given.taken state_taken in_range_lem
          (board_absent (boards_on s) p looked is))

      module _ {B : ℕ} (is : f ≡ Some B) where
        there : has_board (boards_on s) p ≡ true
        there = (board_there (boards_on s) p looked is).0

        made : sheet_of p (board_texts table B h.items) ≡ sheet_for table s p
        made = is_made given p (board_there (boards_on s) p looked is).1

        pub ended : {r : Result ℕ ℕ} {is : List ℕ} → Printed (sheet_of p (board_texts table B h.items)) was is r → Ended r is
        ended {r} {is} P = go (either (ltb (length was) (length (sheet_for table s p)))) (subst (λ t. Printed t was is r) made P)
          where
            go : (ltb (length was) (length (sheet_for table s p)) ≡ true) ⊎ (ltb (length was) (length (sheet_for table s p)) ≡ false)
                → Printed (sheet_for table s p) was is r → Ended r is
            go (inl short) Q =
                let answer = room_given table s p (length was) given.taken state_taken in_range_lem there (ltb-true _ _ short) in
                let both = refused (λ e. omega arith) answer in
                (Q.answer ∙ rw short both.0, Q.bytes ∙ rw short both.1)
            go (inr fits) Q =
                let answer = none_given table s p (length was) given.taken state_taken in_range_lem there (ltb-false _ _ fits) in
                done answer (Q.answer ∙ rw fits) (Q.bytes ∙ rw fits)
