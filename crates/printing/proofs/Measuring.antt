-- One item more of the table: where the board has it, its text is the last of the board's texts.
use Prim.Native.Nat.{ℕ, ◌+◌, ◌≤◌}
use native.Mathlib.Numerals.{add-one}
use native.Mathlib.Omega.{arith}
use mathlib.Core.Bool.{Bool, true, false, not, cond}
use mathlib.Core.List.{List, [], ◌∷◌, ◌++◌, append-nil}
use mathlib.Core.Logic.{◌⊎◌, inl, inr}
use mathlib.Core.Path.{◌≡◌, refl, sym, ap, ◌∙◌}
use lib.Dec.{ltb}
use lib.ListN.{length, length-append}
use borrow.Author.Tests.{ltb-true, not-true, not-false}
use Rattle.base.specs.Bits.{bit}
use Rattle.base.proofs.Truth.{either}
use Rattle.header.specs.Header.{items_of}
use Rattle.ballot.specs.Table.{item_below, item_text, refusal}
use Rattle.ballot.proofs.Readings.{item_most}
use Rattle.ballot.proofs.Sound.{sound}
use Rattle.text.specs.declared.Printer.{Printer}
use Rattle.text.specs.Wrote.{Put}
use Rattle.text.proofs.Puts.{none, ◌▷◌, kept, left_out, renamed}
use Rattle.sheets.specs.Made.{pair_bytes, pairs_from, joined}
use Rattle.sheets.proofs.Joined.{joined-append, pairs-append}
use Rattle.printing.specs.Board.{board_texts}
use Rattle.printing.specs.Measured.{Measured, pair_on, text_if}
use Rattle.printing.specs.declared.Extent.{Extent}
use Rattle.printing.proofs.Chosen.{with_next, without_next}

-- no item's text has more than 37 bytes
pub text_most : (table : List ℕ) → refusal table ≡ 0 → (x : ℕ) → length (item_text table x) ≤ 37
unfolding item_below
text_most table taken x = go (either (ltb x (items_of table)))
  where
    go : (ltb x (items_of table) ≡ true) ⊎ (ltb x (items_of table) ≡ false) → length (item_text table x) ≤ 37
    go (inl below) = item_most (item_text table x) ((sound table taken).text_good x (ltb-true _ _ below))
    go (inr past) = rw past (omega arith)

module _ (table : List ℕ) (B x : ℕ) where
  abbrev texts : List (List ℕ)
  texts = board_texts table B x

  more : board_texts table B (x + 1) ≡ texts ++ cond (bit B x) (item_text table x ∷ []) []
  unfolding board_texts
  more = rw (add-one x)

  -- the pairs, and the texts one after the other

  pub pairs_more : (first : ℕ) → pairs_from first (board_texts table B (x + 1))
      ≡ pairs_from first texts ++ pair_on table B (first + length (joined texts)) x
  unfolding pair_on pairs_from
  pairs_more first =
      ap (pairs_from first) more ∙ pairs-append first texts (cond (bit B x) (item_text table x ∷ []) [])
      ∙ ap (λ (l : List ℕ). pairs_from first texts ++ l) (go (bit B x))
    where
      go : (b : Bool) → pairs_from (first + length (joined texts)) (cond b (item_text table x ∷ []) [])
          ≡ cond b (pair_bytes (first + length (joined texts)) (length (item_text table x))) []
      go true = append-nil _
      go false = refl

  pub texts_more : joined (board_texts table B (x + 1)) ≡ joined texts ++ text_if table B x
  unfolding text_if joined
  texts_more =
      ap joined more ∙ joined-append texts (cond (bit B x) (item_text table x ∷ []) [])
      ∙ ap (λ (l : List ℕ). joined texts ++ l) (go (bit B x))
    where
      go : (b : Bool) → joined (cond b (item_text table x ∷ []) []) ≡ cond b (item_text table x) []
      go true = append-nil _
      go false = refl

  -- how far they reach

  module _ {e : Extent} (M : Measured table B x e) {r : Bool} (asked : r ≡ bit B x) where
    pub measured_skip : not r ≡ true → Measured table B (x + 1) e
    unfolding text_if
    measured_skip out =
        let off : bit B x ≡ false = sym asked ∙ not-true r out in
        let same : board_texts table B (x + 1) ≡ texts = rw (add-one x) (without_next table B x off) in
        record {
          counted = M.counted ∙ ap length (sym same);
          sized = M.sized ∙ ap (λ t. length (joined t)) (sym same);
          few = omega (arith, M.few);
          short = omega (arith, M.short);
        }

    pub measured_more : {t : List ℕ} → refusal table ≡ 0 → not r ≡ false → t ≡ item_text table x
        → Measured table B (x + 1) (record { count = e.count + 1; bytes = e.bytes + length t })
    unfolding text_if
    measured_more {t} taken held is =
        let long : length t ≡ length (item_text table x) = ap length is in
        let on : bit B x ≡ true = sym asked ∙ not-false r held in
        let with : board_texts table B (x + 1) ≡ texts ++ (item_text table x ∷ []) = rw (add-one x) (with_next table B x on) in
        let longer : joined (board_texts table B (x + 1)) ≡ joined texts ++ item_text table x = texts_more ∙ rw on in
        record {
          counted = omega (arith, M.counted, ap length with, length-append texts (item_text table x ∷ []));
          sized = omega (arith, M.sized, ap length longer, length-append (joined texts) (item_text table x));
          few = omega (arith, M.few);
          short = omega (arith, M.short, text_most table taken x);
        }

-- no item yet
pub measured_none : (table : List ℕ) (B : ℕ) → Measured table B 0 (record { count = 0; bytes = 0 })
unfolding board_texts joined
measured_none table B = record { counted = refl; sized = refl; few = omega arith; short = omega arith }

-- what is written of item x: its pair or its text where the board has it, and nothing where not

module _ (table : List ℕ) (B x : ℕ) {r : Bool} (asked : r ≡ bit B x) where
  pub pair_written : (o : ℕ) {q q₁ : Printer} {t : List ℕ} → not r ≡ false → t ≡ item_text table x → Put q (pair_bytes o (length t)) q₁
      → Put q (pair_on table B o x) q₁
  unfolding pair_on
  pair_written o on is w = kept asked (not-false r on) (renamed (ap (λ (u : List ℕ). pair_bytes o (length u)) is) w)

  pub pair_left_out : {q : Printer} (o : ℕ) → not r ≡ true → Put q (pair_on table B o x) q
  unfolding pair_on
  pair_left_out o off = left_out _ asked (not-true r off)

  pub text_written : {q q₁ : Printer} {t : List ℕ} → not r ≡ false → t ≡ item_text table x → Put q t q₁ → Put q (text_if table B x) q₁
  unfolding text_if
  text_written on is w = kept asked (not-false r on) (renamed is w)

  pub text_left_out : {q : Printer} → not r ≡ true → Put q (text_if table B x) q
  unfolding text_if
  text_left_out off = left_out _ asked (not-true r off)

-- the loops that write: no item yet, one more

module _ (table : List ℕ) (B : ℕ) where
  pub pairs-none : {q : Printer} (first : ℕ) → Put q (pairs_from first (board_texts table B 0)) q
  unfolding board_texts pairs_from
  pairs-none first = none

  pub pairs_next : {q q₁ q₂ : Printer} (first x : ℕ) {e : Extent} → Measured table B x e
      → Put q (pairs_from first (board_texts table B x)) q₁ → Put q₁ (pair_on table B (first + e.bytes) x) q₂
      → Put q (pairs_from first (board_texts table B (x + 1))) q₂
  pairs_next first x {e} M before next =
      let here = ap (λ (n : ℕ). pair_on table B (first + n) x) M.sized in
      renamed (sym (pairs_more table B x first)) (before ▷ renamed here next)

  pub texts_none : {q : Printer} → Put q (joined (board_texts table B 0)) q
  unfolding board_texts joined
  texts_none = none

  pub texts_next : {q q₁ q₂ : Printer} (x : ℕ) → Put q (joined (board_texts table B x)) q₁ → Put q₁ (text_if table B x) q₂
      → Put q (joined (board_texts table B (x + 1))) q₂
  texts_next x before next = renamed (sym (texts_more table B x)) (before ▷ next)
