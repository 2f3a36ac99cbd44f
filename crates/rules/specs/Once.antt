-- The slip posted on two days: what holds, after the calls, of receipt shares and of receipts.
use Rattle.std.specs.Prelude.{ℕ, Bool, true, ◌≡◌}
use Rattle.rules.specs.Table.{Table}

-- an honest peer's receipt shares on one item are of one period
abbrev pub SharedOnce : Table → (ℕ → ℕ → ℕ → Bool) → Type 0
SharedOnce T shared = (j p q x : ℕ) → T.honest j ≡ true → shared j p x ≡ true → shared j q x ≡ true → p ≡ q

-- no item has receipts in two periods
abbrev pub ReceiptedOnce : (ℕ → ℕ → Bool) → Type 0
ReceiptedOnce receipts = (p q x : ℕ) → receipts p x ≡ true → receipts q x ≡ true → p ≡ q
