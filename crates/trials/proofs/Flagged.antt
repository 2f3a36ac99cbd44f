-- A flag read, and one changed; zeros keep every step.
use Prim.Native.Nat.{ℕ, ◌<◌}
use native.Mathlib.Decide.{ℕ_discrete}
use mathlib.Core.List.{List}
use mathlib.Core.Path.{◌≡◌, sym, ap, fun_ext, ◌∙◌}
use lib.Dec.{eqb}
use lib.ListN.{set, replicate}
use lib.Seq.{get_or-set_same, get_or-set_other}
use borrow.Author.Tests.{eq-eqb, ne_eqb}
use Rattle.base.specs.Bytes.{byte_at}
use Rattle.base.specs.Sets.{add1}
use Rattle.base.proofs.Bytes.{zeros-at}
use Rattle.base.proofs.Sets.{new1}
use Rattle.dropping.specs.Kept.{every_step, without}
use Rattle.dropping.proofs.Passes.{without_here, without_other}
use Rattle.trials.specs.Flags.{kept, room}

pub flag_read : (flags : List ℕ) (k b : ℕ) → b ≡ byte_at flags k → eqb b 0 ≡ kept flags k
unfolding kept
flag_read flags k b e = rw e

-- the flag that was changed, and each of the others
module _ (flags : List ℕ) (k : ℕ) (l : k < room flags) where
  here : (b : ℕ) → kept (set flags k b) k ≡ eqb b 0
  unfolding kept
  here b = ap (λ (x : ℕ). eqb x 0) (get_or-set_same flags k b 0 l)

  beside : (b i : ℕ) → (i ≡ k → ⊥) → kept (set flags k b) i ≡ kept flags i
  unfolding kept
  beside b i d = ap (λ (x : ℕ). eqb x 0) (get_or-set_other flags k i b 0 d)

  pub flag_off : kept (set flags k 1) ≡ without (kept flags) k
  flag_off = fun_ext (λ i. go i (ℕ_discrete i k))
    where
      go : (i : ℕ) → Dec (i ≡ k) → kept (set flags k 1) i ≡ without (kept flags) k i
      go i (yes e) = rw e (here 1 ∙ sym (without_here (kept flags) k))
      go i (no d) = beside 1 i d ∙ sym (without_other (kept flags) k i d)

  pub flag_on : kept (set flags k 0) ≡ add1 k (kept flags)
  unfolding add1
  flag_on = fun_ext (λ i. go i (ℕ_discrete i k))
    where
      go : (i : ℕ) → Dec (i ≡ k) → kept (set flags k 0) i ≡ add1 k (kept flags) i
      go i (yes e) = rw e (here 0 ∙ sym (new1 k (kept flags)))
      go i (no d) = rw (ne_eqb i k d) (beside 0 i d)

-- zeros keep every step
pub all-kept : (n : ℕ) → kept (replicate n 0) ≡ every_step
unfolding kept
all-kept n = fun_ext (λ k. eq-eqb (byte_at (replicate n 0) k) 0 (zeros-at n k))
