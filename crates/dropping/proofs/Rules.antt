-- Which steps are left is decided by the rules: by any engine that follows them it is the same steps.
use Prim.Native.Nat.{ℕ}
use mathlib.Core.List.{List}
use mathlib.Core.Path.{◌≡◌, sym, ap, fun_ext, ◌∙◌}
use Rattle.rules.specs.Table.{Table}
use Rattle.rules.specs.Run.{Engine, by_rules}
use Rattle.rules.specs.Follows.{Follows}
use Rattle.rules.proofs.Follows.{rules_follow, next_answer}
use Rattle.dropping.specs.Kept.{Kept, kept_calls}
use Rattle.dropping.specs.Passes.{left}
use Rattle.dropping.specs.Runs.{last_answer}

module _ {T : Table} {X : Type 0} {E : Engine X} {Ready : X → Type 0} (F : Follows T E Ready) (call : ℕ → List ℕ) (last : ℕ) where
  pub answers_ruled : last_answer E call last ≡ last_answer (by_rules T) call last
  unfolding last_answer
  answers_ruled = fun_ext (λ keep.
      next_answer F (kept_calls call keep last) (call last) ∙ sym (next_answer (rules_follow T) (kept_calls call keep last) (call last)))

  pub left_ruled : left (last_answer E call last) last ≡ left (last_answer (by_rules T) call last) last
  left_ruled = ap (λ (answer : Kept → ℕ). left answer last) answers_ruled
