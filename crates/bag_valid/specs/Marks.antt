-- Entries that are the same have the same mark.
use Rattle.std.specs.Prelude.{ℕ, ◌≡◌, true, List, eqb}
use borrow.Author.Tests.{eqb-true}
use Rattle.base.proofs.Truth.{and_l, and_r}
use Rattle.bag_valid.specs.Numbers.{kind_at, signer_at, period_at, board_at, mark_of, mark_at, same_at}

module _ (s : List ℕ) where
  -- the same four numbers have the same mark
  pub same_mark : (e d : ℕ) → same_at s e d ≡ true → mark_at s e ≡ mark_at s d
  unfolding same_at mark_at
  same_mark e d t =
      let r1 = and_r (eqb (board_at s e) (board_at s d)) _ t in
      let r2 = and_r (eqb (signer_at s e) (signer_at s d)) _ r1 in
      let b = eqb-true (board_at s e) (board_at s d) (and_l (eqb (board_at s e) (board_at s d)) _ t) in
      let g = eqb-true (signer_at s e) (signer_at s d) (and_l (eqb (signer_at s e) (signer_at s d)) _ r1) in
      let p = eqb-true (period_at s e) (period_at s d) (and_l (eqb (period_at s e) (period_at s d)) _ r2) in
      let k = eqb-true (kind_at s e) (kind_at s d) (and_r (eqb (period_at s e) (period_at s d)) _ r2) in
      λ i. mark_of (k i) (g i) (p i) (b i)
