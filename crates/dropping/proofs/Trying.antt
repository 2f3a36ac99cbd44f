-- A step that is tried: it is not there, or dropped, or put back.
use Prim.Native.Nat.{ℕ}
use native.Mathlib.Decide.{ℕ_discrete}
use mathlib.Core.Bool.{Bool, true, false, not}
use mathlib.Core.Path.{◌≡◌, sym, ap, fun_ext, ◌∙◌}
use lib.Dec.{eqb}
use borrow.Author.Tests.{eq-eqb, ne_eqb, not-true, not-false}
use Rattle.base.specs.Sets.{add1}
use Rattle.base.proofs.Sets.{new1}
use Rattle.dropping.specs.Kept.{Kept, every_step, without}
use Rattle.dropping.specs.Passes.{spare, tried}
use Rattle.dropping.specs.Trials.{Tried}
use Rattle.dropping.proofs.Passes.{without_other}

-- a step that was kept, left out and put back
back_again : (keep : Kept) (k : ℕ) → keep k ≡ true → add1 k (without keep k) ≡ keep
unfolding add1
back_again keep k t = fun_ext (λ i. go i (ℕ_discrete i k))
  where
    go : (i : ℕ) → Dec (i ≡ k) → add1 k (without keep k) i ≡ keep i
    go i (yes e) = rw e (new1 k (without keep k) ∙ sym t)
    go i (no d) = rw (ne_eqb i k d) (without_other keep k i d)

module _ (answer : Kept → ℕ) (before : Kept) (k : ℕ) {b : Bool} (read : b ≡ before k) (was : Bool) where
  pub not_there : not b ≡ true → Tried answer before before k was was
  unfolding tried
  not_there gone = let off : before k ≡ false = sym read ∙ not-true b gone in record { keeps = rw off; told = rw off }

  module _ (there : not b ≡ false) {now : Kept} (off : now ≡ without before k) {a wanted : ℕ} (trial : a ≡ answer now)
      (want : wanted ≡ answer every_step) where
    on : before k ≡ true
    on = sym read ∙ not-false b there

    without_it : a ≡ answer (without before k)
    without_it = trial ∙ ap answer off

    pub was_dropped : a ≡ wanted → Tried answer before now k was true
    unfolding tried spare
    was_dropped e =
        let same : eqb (answer (without before k)) (answer every_step) ≡ true = eq-eqb _ _ (sym without_it ∙ e ∙ want) in
        record { keeps = rw (on, same) off; told = rw (on, same) }

    pub was_put_back : (a ≡ wanted → ⊥) → {after : Kept} → after ≡ add1 k now → Tried answer before after k was was
    unfolding tried spare
    was_put_back other back =
        let differs : eqb (answer (without before k)) (answer every_step) ≡ false =
        ne_eqb _ _ (λ e. other (without_it ∙ e ∙ sym want)) in
        record { keeps = rw (on, differs) (back ∙ ap (add1 k) off ∙ back_again before k on); told = rw (on, differs) }
