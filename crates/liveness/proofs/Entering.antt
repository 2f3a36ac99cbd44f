-- The bag during an exchange: what each of its steps does to it.
use Prim.Native.Nat.{ℕ, ◌+◌, ◌≤◌}
use native.Mathlib.Omega.{arith}
use mathlib.Core.List.{List, [], ◌∷◌}
use mathlib.Core.Path.{◌≡◌, refl, ap}
use lib.ListN.{length, length-append}
use Rattle.rules.specs.declared.Entry.{Entry}
use Rattle.rules.specs.declared.Entry.TheVariants.{Hash, Backing}
use Rattle.rules.specs.declared.Step.TheVariants.{Fetch, SendHash, Hear, Back}
use Rattle.rules.specs.Table.{Table}
use Rattle.rules.specs.Bag.{enter}
use Rattle.rules.specs.State.{State}
use Rattle.rules.specs.Rules.{rule, answer, next, board_by}
use Rattle.rules.proofs.Answered.{done, by_step}
use Rattle.rules.proofs.Bag.{enter_cases}

-- an entry more, at most
pub one_entry : (a : Entry) (bag : List Entry) → length (enter a bag) ≤ length bag + 1
one_entry a bag = enter_cases (λ l. length l ≤ length bag + 1) a bag (λ m. omega arith) (λ m. omega (arith, length-append bag (a ∷ [])))

module _ (T : Table) (s : State) where
  pub fetch_bag : (j k p : ℕ) → (next T s (Fetch j k p)).bag ≡ s.bag
  unfolding rule
  fetch_bag j k p = by_step T (λ v. v.bag ≡ s.bag) s refl (Fetch j k p) (λ z c. refl)

  pub hash_bag : (j p : ℕ) → answer T s (SendHash j p) ≡ 0 → (next T s (SendHash j p)).bag ≡ enter (Hash j p (board_by T s j p)) s.bag
  unfolding rule
  hash_bag j p e = ap (λ (v : State). v.bag) (done T s (SendHash j p) e)

  pub hear_bag : (j e : ℕ) → (next T s (Hear j e)).bag ≡ s.bag
  unfolding rule
  hear_bag j e = by_step T (λ v. v.bag ≡ s.bag) s refl (Hear j e) (λ z c. refl)

  pub back_bag : (j : ℕ) → length (next T s (Back j)).bag ≤ length s.bag + 1
  unfolding rule
  back_bag j = by_step T (λ v. length v.bag ≤ length s.bag + 1) s (omega arith) (Back j)
      (λ z c. one_entry (Backing j (s.to_back j) (board_by T s j (s.to_back j))) s.bag)
