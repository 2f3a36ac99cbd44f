-- Laws of numbers: the byte of a number gives the number back, so the numbers of the peers are told apart by their bytes.
use Prim.Native.Nat.{ℕ, ◌<◌, ◌≤◌}
use native.Mathlib.Omega.{arith}
use mathlib.Core.Bool.{true}
use mathlib.Core.Path.{◌≡◌, sym, ap, ◌∙◌}
use borrow.Author.Tests.{eqb-true}
use Rattle.base.proofs.Truth.{false_true, eqb_self}
use Rattle.state.specs.declared.Number.{Number}
use Rattle.state.specs.declared.Number.TheVariants.{CurrentOf, ToBackOf, DownOf}
use Rattle.state.specs.Layout.{current_at, to_back_at, down_at, count_at}
use Rattle.state.specs.Facts.{Peer}
use Rattle.state.specs.Numbers.{same_number, peer_of, slot, number_of}
use Rattle.state.proofs.Places.{by_test, before, after}

pub number_self : (n : Number) → same_number n n ≡ true
number_self (CurrentOf j) = eqb_self j
number_self (ToBackOf j) = eqb_self j
number_self (DownOf j) = eqb_self j

pub number_same : (m n : Number) → same_number m n ≡ true → m ≡ n
number_same (CurrentOf j) (CurrentOf k) e = ap CurrentOf (eqb-true j k e)
number_same (CurrentOf j) (ToBackOf k) e = false_true e
number_same (CurrentOf j) (DownOf k) e = false_true e
number_same (ToBackOf j) (CurrentOf k) e = false_true e
number_same (ToBackOf j) (ToBackOf k) e = ap ToBackOf (eqb-true j k e)
number_same (ToBackOf j) (DownOf k) e = false_true e
number_same (DownOf j) (CurrentOf k) e = false_true e
number_same (DownOf j) (ToBackOf k) e = false_true e
number_same (DownOf j) (DownOf k) e = ap DownOf (eqb-true j k e)

-- the numbers stand between the facts and the bag
pub slot_within : (n : Number) → Peer (peer_of n) → (current_at ≤ slot n) × (slot n < count_at)
slot_within (CurrentOf j) h = (omega arith, omega arith)
slot_within (ToBackOf j) h = (omega arith, omega arith)
slot_within (DownOf j) h = (omega arith, omega arith)

-- the number that stands at a number's byte is that number
pub number_at : (n : Number) → Peer (peer_of n) → number_of (slot n) ≡ n
unfolding number_of
number_at (CurrentOf j) h = before (slot (CurrentOf j)) to_back_at _ _ _ (omega arith) (ap CurrentOf (omega arith))
number_at (ToBackOf j) h =
    after (slot (ToBackOf j)) to_back_at _ _ _ (omega arith)
    (before (slot (ToBackOf j)) down_at _ _ _ (omega arith) (ap ToBackOf (omega arith)))
number_at (DownOf j) h =
    after (slot (DownOf j)) to_back_at _ _ _ (omega arith) (after (slot (DownOf j)) down_at _ _ _ (omega arith) (ap DownOf (omega arith)))

pub slot_same : (m n : Number) → Peer (peer_of m) → Peer (peer_of n) → slot m ≡ slot n → m ≡ n
slot_same m n p q e = sym (number_at m p) ∙ ap number_of e ∙ number_at n q

-- and every byte between the facts and the bag is that of a number
pub at_slot : (b : ℕ) → current_at ≤ b → b < count_at → Peer (peer_of (number_of b)) × (slot (number_of b) ≡ b)
unfolding number_of
at_slot b l h =
    by_test At b to_back_at _ _ (λ h0. ((omega arith, omega arith), omega arith)) (λ h0.
    by_test At b down_at _ _ (λ h1. ((omega arith, omega arith), omega arith)) (λ h1.
    ((omega arith, omega arith), omega arith)))
  where
    At : Number → Type 0
    At n = Peer (peer_of n) × (slot n ≡ b)
