-- Laws of entries: the four numbers and the eleven bytes of an entry give it back.
use Prim.Native.Nat.{ℕ, ◌+◌, ◌/◌, ◌%◌, ◌^◌, ◌<◌}
use native.Mathlib.Omega.{arith}
use mathlib.Core.Bool.{Bool, true, false, cond}
use mathlib.Core.Path.{◌≡◌, refl, ap}
use lib.Dec.{eqb}
use Rattle.rules.specs.declared.Entry.{Entry}
use Rattle.rules.specs.declared.Entry.TheVariants.{Hash, Backing, Board}
use Rattle.state.specs.Layout.{signer_in, period_in, board_in}
use Rattle.rules.specs.Bag.{kind_of, signer_of, period_of, board_of}
use Rattle.state.specs.Entries.{entry_of, entry_byte}
use Rattle.state.proofs.Places.{after}

-- an entry is that of its four numbers
pub entry_of_lem : (x : Entry) → entry_of (kind_of x) (signer_of x) (period_of x) (board_of x) ≡ x
unfolding entry_of
entry_of_lem (Hash k p b) = refl
entry_of_lem (Backing k p b) = refl
entry_of_lem (Board p b) = refl

-- a kind is a byte
pub kind_lt : (x : Entry) → kind_of x < 256
kind_lt (Hash k p b) = omega arith
kind_lt (Backing k p b) = omega arith
kind_lt (Board p b) = omega arith

module _ (kind signer period board : ℕ) where
  either_kind : (P : Entry → Type 0) → P (Hash signer period board) → P (Backing signer period board)
      → P (Board period board) → P (entry_of kind signer period board)
  unfolding entry_of
  either_kind P h b d = go (eqb kind 1) (eqb kind 2)
    where
      go : (s t : Bool) → P (cond s (Hash signer period board) (cond t (Backing signer period board) (Board period board)))
      go true t = h
      go false true = b
      go false false = d

  pub period_of_lem : period_of (entry_of kind signer period board) ≡ period
  period_of_lem = either_kind (λ x. period_of x ≡ period) refl refl refl

  pub board-of : board_of (entry_of kind signer period board) ≡ board
  board-of = either_kind (λ x. board_of x ≡ board) refl refl refl

-- the bytes of its board
pub board_byte_lem : (x : Entry) (k : ℕ) → entry_byte x (board_in + k) ≡ board_of x / 256 ^ k % 256
unfolding entry_byte
board_byte_lem x k =
    let o = board_in + k in
    after o signer_in _ _ _ (omega arith) (
    after o period_in _ _ _ (omega arith) (
    after o board_in _ _ _ (omega arith) (ap (λ (n : ℕ). board_of x / 256 ^ n % 256) (omega arith))))
