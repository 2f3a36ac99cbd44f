-- What is left of the gain of calls beside a bag and the counters c: with every call it falls by what the bag gains.
use Prim.Native.Nat.{ℕ, ◌+◌, ◌-◌, ◌≤◌, ◌<◌, min}
use native.Mathlib.Omega.{arith}
use mathlib.Core.Bool.{Bool, true, false, ◌&&◌, not}
use mathlib.Core.List.{List, ◌∷◌}
use mathlib.Core.Path.{◌≡◌}
use borrow.Author.Tests.{not-true}
use Rattle.base.specs.Bytes.{byte_at, number_at}
use Rattle.base.specs.Sets.{set_at}
use Rattle.base.specs.Sums.{sum}
use Rattle.base.proofs.Truth.{split, and_i, and_l, and_r, not_i}
use Rattle.base.proofs.Sets.{rises, at_set}
use Rattle.base.proofs.Sums.{sum_mono, sum_less}
use Rattle.rules.specs.declared.Entry.{Entry}
use Rattle.rules.specs.declared.Entry.TheVariants.{Backing}
use Rattle.rules.specs.Bag.{is_in}
use Rattle.gains.specs.Gain.{is_op, count_of, different_of, adds, back_of, gain}
use Rattle.gains.proofs.Counting.{different_mono, different_next}

-- the backing that a false backing's bytes say is in the bag
unfoldable pub there : List Entry → List ℕ → Bool
there bag c = is_in (Backing (byte_at c 1) (byte_at c 3) (number_at c 5 8)) bag

unfoldable pub opens : List Entry → List ℕ → Bool
opens bag c = is_op 16 c && not (there bag c)

unfoldable pub turns : (ℕ → ℕ) → List (List ℕ) → ℕ → ℕ
turns to_back calls j = min (8 - to_back j) (count_of (back_of j) calls)

unfoldable pub left : List Entry → (ℕ → ℕ) → List (List ℕ) → ℕ
left bag to_back calls = count_of adds calls + different_of (opens bag) calls + sum 256 (turns to_back calls)

pub left_gain : (bag : List Entry) (to_back : ℕ → ℕ) (calls : List (List ℕ)) → left bag to_back calls ≤ gain calls
unfolding left gain opens turns
left_gain bag to_back calls = omega (
  arith,
  different_mono (opens bag) (is_op 16) (λ c e. and_l (is_op 16 c) _ e) calls,
  sum_mono (turns to_back calls)
      (λ j. min 8 (count_of (back_of j) calls)) (λ j. omega arith) 256,
)

-- every backing of a bag is in another
abbrev pub Stays : List Entry → List Entry → Type 0
Stays bag more = (k p B : ℕ) → is_in (Backing k p B) bag ≡ true → is_in (Backing k p B) more ≡ true

module _ (bag more : List Entry) (stays : Stays bag more) where
  opens_less : (c : List ℕ) → opens more c ≡ true → opens bag c ≡ true
  unfolding opens there
  opens_less c e = and_i _ _ (and_l (is_op 16 c) _ e)
      (not_i _ (λ m. split (stays (byte_at c 1) (byte_at c 3) (number_at c 5 8) m) (not-true _ (and_r (is_op 16 c) _ e))))

  pub left_mono : (before after : ℕ → ℕ) → ((k : ℕ) → before k ≤ after k) → (calls : List (List ℕ))
      → left more after calls ≤ left bag before calls
  unfolding left turns
  left_mono before after up calls = omega (
    arith,
    different_mono (opens more) (opens bag) opens_less calls,
    sum_mono (turns after calls) (turns before calls)
        (λ j. omega (arith, up j)) 256,
  )

-- one call less
module _ (bag : List Entry) (to_back : ℕ → ℕ) (c : List ℕ) (calls : List (List ℕ)) where
  turns_less : (j : ℕ) → turns to_back calls j ≤ turns to_back (c ∷ calls) j
  unfolding turns count_of
  turns_less j = omega arith

  turns_each : (after : ℕ → ℕ) (k : ℕ) → to_back k ≤ after k → turns after calls k ≤ turns to_back (c ∷ calls) k
  unfolding turns count_of
  turns_each after k l = omega arith

  turns_one : (j : ℕ) → to_back j < 8 → back_of j c ≡ true → turns (set_at j (to_back j + 1) to_back) calls j + 1 ≤ turns to_back (c ∷ calls) j
  unfolding turns count_of
  turns_one j low is = rw (at_set j (to_back j + 1) to_back, is) (omega arith)

  pub left_less : left bag to_back calls ≤ left bag to_back (c ∷ calls)
  unfolding left count_of different_of
  left_less = omega (arith, sum_mono (turns to_back calls) (turns to_back (c ∷ calls)) turns_less 256)

  pub left_adds : adds c ≡ true → left bag to_back calls + 1 ≤ left bag to_back (c ∷ calls)
  unfolding left count_of different_of
  left_adds e = rw e (omega (arith, sum_mono (turns to_back calls) (turns to_back (c ∷ calls)) turns_less 256))

  pub left_opens : (more : List Entry) → Stays bag more → opens bag c ≡ true → opens more c ≡ false
      → left more to_back calls + 1 ≤ left bag to_back (c ∷ calls)
  unfolding left count_of
  left_opens more stays o n = omega (
    arith,
    different_next (opens more) (opens bag) (opens_less bag more stays) c o n calls,
    sum_mono (turns to_back calls)
        (turns to_back (c ∷ calls)) turns_less 256,
  )

  pub left_backs : (more : List Entry) → Stays bag more → (j : ℕ) → j < 256 → to_back j < 8 → back_of j c ≡ true
      → left more (set_at j (to_back j + 1) to_back) calls + 1 ≤ left bag to_back (c ∷ calls)
  unfolding left count_of different_of
  left_backs more stays j byte low is = omega (
    arith,
    different_mono (opens more) (opens bag) (opens_less bag more stays) calls,
    sum_less (turns after calls)
        (turns to_back (c ∷ calls)) each 256 j byte one,
  )
    where
      after : ℕ → ℕ
      after = set_at j (to_back j + 1) to_back

      each : (k : ℕ) → turns after calls k ≤ turns to_back (c ∷ calls) k
      each k = turns_each after k (rises j to_back k)

      one : turns after calls j + 1 ≤ turns to_back (c ∷ calls) j
      one = turns_one j low is
