-- The board of a period, item by item: none yet, one more, all.
use Prim.Native.Nat.{ℕ, ◌+◌, ◌*◌, ◌^◌, ◌<◌, ◌≤◌}
use native.Mathlib.Omega.{arith}
use mathlib.Core.Bool.{Bool}
use mathlib.Core.List.{List}
use mathlib.Core.Path.{◌≡◌, refl, sym, ap, ap₂, ◌∙◌}
use lib.ListN.{get_or}
use Rattle.base.specs.Bits.{digit, pack}
use Rattle.base.proofs.Bits.{pack-lt, pack_more}
use Rattle.header.specs.declared.Head.{Head}
use Rattle.header.specs.declared.Signers.{Signers}
use Rattle.header.specs.Quorum.{reaches}
use Rattle.state.specs.Layout.{items}
use Rattle.state.specs.Contents.{Contents}
use Rattle.state.specs.Sets.{signers_of}
use Rattle.sets.specs.Database.{row_of, on_board}
use Rattle.base.proofs.Tab.{get_or-tab}

abbrev set : List Signers → ℕ → Signers
set sets i = get_or sets i (record { 0 = 0 })

pub board-none : (f : ℕ → Bool) → 0 ≡ pack 0 f
unfolding pack
board-none f = refl

pub board-lt : (f : ℕ → Bool) (i b : ℕ) → b ≡ pack i f → b < 2 ^ i
board-lt f i b e = rw e (pack-lt i f)

module _ (h : Head) (c : Contents) (j p : ℕ) where
  -- an item of the row
  row-reaches : (i : ℕ) (sets : List Signers) {y : Bool} → sets ≡ row_of c j p → i < items
      → y ≡ reaches h (set sets i).0 → y ≡ on_board h c j p i
  unfolding on_board row_of
  row-reaches i sets e l y-is =
      let same = ap (λ (l : List Signers). set l i) e ∙ get_or-tab items (signers_of c j p) i (record { 0 = 0 }) l in
      y-is ∙ ap (λ (x : Signers). reaches h x.0) same

  pub board_more : (m i b x : ℕ) (sets : List Signers) {y : Bool} → sets ≡ row_of c j p → m ≤ items → i < m → b ≡ pack i (on_board h c j p)
      → y ≡ reaches h (set sets i).0 → x ≡ b + digit y * 2 ^ i → x ≡ pack (i + 1) (on_board h c j p)
  board_more m i b x sets row most low so y-is e =
      e
      ∙ ap₂ (λ (a : ℕ) (z : Bool). a + digit z * 2 ^ i) so (row-reaches i sets row (omega arith) y-is)
      ∙ sym (pack_more i (on_board h c j p))
