-- The texts of a board are those of its items, each item's once: the items below n are gone through in rising number.
use Prim.Native.Nat.{ℕ, zero, suc, ◌+◌, ◌≤◌, ◌<◌}
use native.Mathlib.Decide.{ℕ_discrete}
use native.Mathlib.Omega.{arith}
use mathlib.Core.Bool.{true, false}
use mathlib.Core.List.{List, [], ◌∷◌, ◌++◌, append-nil}
use mathlib.Core.Logic.{◌⊎◌, inl, inr}
use mathlib.Core.Path.{◌≡◌, refl, sym, ap, ◌∙◌}
use lib.Dec.{ltb}
use lib.ListN.{length, get_or, length-append, get_or-append}
use lib.Seq.{get_or_at}
use borrow.Author.Tests.{ltb-true, ltb-false}
use Rattle.base.specs.Bits.{bit, digit}
use Rattle.base.specs.Sums.{sum, how_many}
use Rattle.base.proofs.Truth.{either}
use Rattle.base.proofs.Sums.{how_many_most}
use Rattle.header.specs.Header.{items_of}
use Rattle.ballot.specs.Table.{item_text, refusal}
use Rattle.ballot.proofs.Sound.{sound}
use Rattle.sheets.specs.ReadBack.{Listed}
use Rattle.printing.specs.Board.{board_texts}

-- text k is that of the item x, which is on the board
pub record Source (table : List ℕ) (B n k : ℕ) : Type 0 where
  pub item : ℕ
  pub below : item < n
  pub on : bit B item ≡ true
  pub text : get_or (board_texts table B n) k [] ≡ item_text table item

-- the item x has its text among the board's texts
pub record Place (table : List ℕ) (B n x : ℕ) : Type 0 where
  pub number : ℕ
  pub below : number < length (board_texts table B n)
  pub text : get_or (board_texts table B n) number [] ≡ item_text table x

module _ (table : List ℕ) (B : ℕ) where
  abbrev texts : ℕ → List (List ℕ)
  texts n = board_texts table B n

  -- one item more: the board has it, or not

  pub with_next : (n : ℕ) → bit B n ≡ true → texts (suc n) ≡ texts n ++ (item_text table n ∷ [])
  unfolding board_texts
  with_next n on = rw on

  pub without_next : (n : ℕ) → bit B n ≡ false → texts (suc n) ≡ texts n
  unfolding board_texts
  without_next n off = rw off (append-nil (texts n))

  -- what was there stays where it was, and the next item's text comes last

  module _ (n k : ℕ) (l : k < length (texts n)) where
    pub still : (k < length (texts (suc n))) × (get_or (texts (suc n)) k [] ≡ get_or (texts n) k [])
    still = go (either (bit B n))
      where
        go : (bit B n ≡ true) ⊎ (bit B n ≡ false) → (k < length (texts (suc n))) × (get_or (texts (suc n)) k [] ≡ get_or (texts n) k [])
        go (inl on) = rw (with_next n on)
            (omega (arith, length-append (texts n) (item_text table n ∷ [])), get_or-append (texts n) _ [] k l)
        go (inr off) = rw (without_next n off) (l, refl)

  module _ (n : ℕ) where
    pub next_last : bit B n ≡ true → (length (texts n) < length (texts (suc n)))
        × (get_or (texts (suc n)) (length (texts n)) [] ≡ item_text table n)
    next_last on = rw (with_next n on)
        (omega (arith, length-append (texts n) (item_text table n ∷ [])), get_or_at (texts n) (item_text table n) [] [] _ refl)

    -- what was not there is the next item's text
    pub new_one : (k : ℕ) → k < length (texts (suc n)) → length (texts n) ≤ k → (bit B n ≡ true) × (k ≡ length (texts n))
    new_one k l past = go (either (bit B n))
      where
        go : (bit B n ≡ true) ⊎ (bit B n ≡ false) → (bit B n ≡ true) × (k ≡ length (texts n))
        go (inl on) = (on, omega (arith, l, past, ap length (with_next n on), length-append (texts n) (item_text table n ∷ [])))
        go (inr off) = absurd (omega (arith, l, past, ap length (without_next n off)))

  -- so by induction: there are as many texts as items, each text has its item, and each item of the board its text

  pub as_many : (n : ℕ) → length (texts n) ≡ how_many n (bit B)
  unfolding board_texts how_many sum
  as_many zero = refl
  as_many (suc n) = go (either (bit B n)) (as_many n)
    where
      go : (bit B n ≡ true) ⊎ (bit B n ≡ false) → length (texts n) ≡ how_many n (bit B)
          → length (texts (suc n)) ≡ how_many n (bit B) + digit (bit B n)
      go (inl on) l = omega (arith, l, ap digit on, ap length (with_next n on), length-append (texts n) (item_text table n ∷ []))
      go (inr off) l = omega (arith, l, ap digit off, ap length (without_next n off))

  pub source : (n k : ℕ) → k < length (texts n) → Source table B n k
  unfolding board_texts
  source zero k l = absurd (omega arith)
  source (suc n) k l = go (either (ltb k (length (texts n)))) (source n k)
    where
      go : (ltb k (length (texts n)) ≡ true) ⊎ (ltb k (length (texts n)) ≡ false) → (k < length (texts n) → Source table B n k)
          → Source table B (suc n) k
      go (inl old) before =
          let there = ltb-true k _ old in
          let S = before there in
          record { item = S.item; below = omega (arith, S.below); on = S.on; text = (still n k there).1 ∙ S.text }
      go (inr new) before =
          let last = new_one n k l (ltb-false k _ new) in
          record { item = n; below = omega arith; on = last.0; text = rw last.1 (next_last n last.0).1 }

  pub place : (n x : ℕ) → x < n → bit B x ≡ true → Place table B n x
  place zero x l on = absurd (omega arith)
  place (suc n) x l on = go (ℕ_discrete x n) (place n x)
    where
      go : Dec (x ≡ n) → (x < n → bit B x ≡ true → Place table B n x) → Place table B (suc n) x
      go (yes e) before =
          let last = next_last n (rw (← e) on) in
          record { number = length (texts n); below = last.0; text = rw e last.1 }
      go (no d) before =
          let P = before (omega arith) on in
          let kept = still n P.number P.below in
          record { number = P.number; below = kept.0; text = kept.1 ∙ P.text }

  -- no two texts are the same, since no two items of the table are twins

  module _ (taken : refusal table ≡ 0) where
    pub apart : (n : ℕ) → n ≤ items_of table → (i j : ℕ) → i < j → j < length (texts n)
        → get_or (texts n) i [] ≡ get_or (texts n) j [] → ⊥
    unfolding board_texts
    apart zero few-enough i j before l same = absurd (omega arith)
    apart (suc n) few-enough i j before l same = go (either (ltb j (length (texts n)))) (apart n (omega arith) i j before)
      where
        go : (ltb j (length (texts n)) ≡ true) ⊎ (ltb j (length (texts n)) ≡ false)
            → (j < length (texts n) → get_or (texts n) i [] ≡ get_or (texts n) j [] → ⊥) → ⊥
        go (inl old) earlier =
            let there = ltb-true j _ old in
            earlier there (sym (still n i (omega arith)).1 ∙ same ∙ (still n j there).1)
        go (inr new) earlier =
            let last = new_one n j l (ltb-false j _ new) in
            let there : i < length (texts n) = omega (arith, last.1) in
            let S = source n i there in
            let newest : get_or (texts (suc n)) j [] ≡ item_text table n = rw last.1 (next_last n last.0).1 in
            let one = sym S.text ∙ sym (still n i there).1 ∙ same ∙ newest in
            omega (arith, S.below, (sound table taken).no_twins_lem S.item n (omega (arith, S.below)) (omega arith) one)

    pub listed : Listed (texts (items_of table))
    listed =
        let S = sound table taken in
        record {
          few = omega (arith, as_many (items_of table), how_many_most (items_of table) (bit B), S.items_most_lem);
          items = λ k l. let from = source (items_of table) k l in rw from.text (S.text_good from.item from.below);
          apart = apart (items_of table) (omega arith);
        }
