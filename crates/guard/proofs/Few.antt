-- Fewer than t signers or sharers, by the set that was read.
use Prim.Native.Nat.{ℕ}
use mathlib.Core.Bool.{Bool, not}
use mathlib.Core.List.{List}
use mathlib.Core.Path.{◌≡◌, ap, ◌∙◌}
use Rattle.header.specs.declared.Head.{Head}
use Rattle.header.specs.declared.Signers.{Signers}
use Rattle.header.specs.declared.Sharers.{Sharers}
use Rattle.header.specs.Quorum.{reaches}
use Rattle.rules.specs.Table.{quorum}
use Rattle.state.specs.declared.Fact.TheVariants.{Shared, Known}
use Rattle.state.specs.Contents.{contents}
use Rattle.state.specs.Sets.{signers_of, sharers_of}
use Rattle.view.specs.View.{no_clash, table_of}
use Rattle.view.specs.Ready.{Ready}
use Rattle.view.proofs.Quorum.{signers-quorum, sharers_quorum}

module _ (h : Head) (s : List ℕ) (R : Ready h s) {r : Bool} where
  -- the period was read, then the signers
  pub signers_few : (j p q x : ℕ) (set : Signers) → p ≡ q → set ≡ signers_of (contents s) j p x → r ≡ reaches h set.0
      → not r ≡ not (quorum (table_of h no_clash) (λ k. (contents s).has (Known j q x k)))
  signers_few j p q x set i e f =
      let read = e ∙ ap (λ (p : ℕ). signers_of (contents s) j p x) i in
      ap not (f ∙ ap (λ (y : Signers). reaches h y.0) read ∙ signers-quorum h s R j q x)

  pub sharers_few : (p x : ℕ) (set : Sharers) → set ≡ sharers_of (contents s) p x → r ≡ reaches h set.0
      → not r ≡ not (quorum (table_of h no_clash) (λ k. (contents s).has (Shared k p x)))
  sharers_few p x set e f = ap not (f ∙ ap (λ (y : Sharers). reaches h y.0) e ∙ sharers_quorum h s R p x)
