-- The test on the bits of facts says that every fact which is there is of the table.
use Prim.Native.Nat.{ℕ, ◌*◌}
use mathlib.Core.Bool.{Bool, true, false, ◌||◌, not}
use mathlib.Core.List.{List}
use mathlib.Core.Path.{◌≡◌, refl, ap, subst, ◌∙◌}
use Rattle.base.proofs.Truth.{split, imp_i, and_i, and_l, and_r}
use Rattle.base.proofs.Below.{every-at, every_of}
use Rattle.bits.specs.Row.{bit_at}
use Rattle.state.specs.declared.Fact.{Fact}
use Rattle.state.specs.Layout.{current_at}
use Rattle.state.specs.Facts.{in_range}
use Rattle.state.specs.Places.{place, fact_at}
use Rattle.state.specs.Contents.{contents}
use Rattle.state.proofs.Ranges.{range_within, within_range}
use Rattle.state.proofs.Places.{place-lt, at_place, fact_at_lem}
use Rattle.header.specs.declared.Head.{Head}
use Rattle.valid.specs.StateOk.{fact_ok, facts_ok}

module _ (h : Head) (s : List ℕ) where
  there : (b c : Bool) → not b || c ≡ true → b ≡ true → c ≡ true
  there true c e t = e
  there false c e t = split t refl

  pub fact_of_ok : facts_ok h s ≡ true → (f : Fact) → (contents s).has f ≡ true → fact_ok h (contents s).bag f ≡ true
  unfolding facts_ok contents
  fact_of_ok ok f e =
      let within = range_within f (and_l (in_range f) _ e) in
      let at = fact_at_lem f within in
      subst (λ (g : Fact). fact_ok h (contents s).bag g ≡ true) at
      (there (bit_at s (place f)) _ (every-at (λ a. not (bit_at s a) || fact_ok h (contents s).bag (fact_at a)) (8 * current_at) ok (place f)
      (place-lt f within)) (and_r (in_range f) _ e))

  pub ok_of_facts : ((f : Fact) → (contents s).has f ≡ true → fact_ok h (contents s).bag f ≡ true) → facts_ok h s ≡ true
  unfolding facts_ok contents
  ok_of_facts all = every_of (8 * current_at) (λ a. not (bit_at s a) || fact_ok h (contents s).bag (fact_at a)) (λ a l. imp_i _ _ (λ e.
      let at = at_place a l in
      all (fact_at a) (and_i _ _ (within_range (fact_at a) at.0) (ap (bit_at s) at.1 ∙ e))))
