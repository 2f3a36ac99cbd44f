-- The board of a period, item by item: one more, all.
use Prim.Native.Nat.{ℕ, ◌+◌, ◌*◌, ◌^◌}
use mathlib.Core.Bool.{Bool}
use mathlib.Core.List.{List}
use mathlib.Core.Path.{◌≡◌, sym, ap, ap₂, ◌∙◌}
use Rattle.base.specs.Bits.{digit, pack}
use Rattle.base.proofs.Bits.{pack_more}
use Rattle.header.specs.declared.Head.{Head}
use Rattle.header.specs.declared.Signers.{Signers}
use Rattle.header.specs.Quorum.{reaches}
use Rattle.rules.specs.Table.{quorum}
use Rattle.rules.specs.Rules.{board_from}
use Rattle.view.specs.View.{no_clash, table_of}
use Rattle.field_state.specs.Holding.{spot_bit, signers_in}
use Rattle.field_state.specs.Ready.{Ready}
use Rattle.field_guard.proofs.Few.{signers-quorum}

-- item x is on the board
unfoldable pub on_board : Head → List ℕ → ℕ → ℕ → Bool
on_board h s p x = quorum (table_of h no_clash) (spot_bit s p x)

module _ (h : Head) (s : List ℕ) (R : Ready h s) (p : ℕ) where
  pub board_more : (i b x : ℕ) (set : Signers) {y : Bool} → b ≡ pack i (on_board h s p) → set ≡ signers_in s p i
      → y ≡ reaches h set.0 → x ≡ b + digit y * 2 ^ i → x ≡ pack (i + 1) (on_board h s p)
  unfolding on_board
  board_more i b x set so read y-is e =
      e
      ∙ ap₂ (λ (a : ℕ) (z : Bool). a + digit z * 2 ^ i) so (y-is ∙ ap (λ (z : Signers). reaches h z.0) read ∙ signers-quorum h s R p i)
      ∙ sym (pack_more i (on_board h s p))

pub board-end : (h : Head) (s : List ℕ) (p i b : ℕ) → i ≡ h.items → b ≡ pack i (on_board h s p)
    → b ≡ board_from (table_of h no_clash) (spot_bit s p)
unfolding board_from on_board
board-end h s p i b end e = e ∙ ap (λ (n : ℕ). pack n (on_board h s p)) end
