-- What a step promises: the answer of the rules, and every byte of the state after it.
use Rattle.std.specs.Prelude.{ℕ, Bool, cond, List, ◌≡◌, eqb}
use Rattle.rules.specs.declared.Step.{Step}
use Rattle.state.specs.Contents.{contents}
use Rattle.state.specs.Encode.{encode}
use Rattle.header.specs.declared.Head.{Head}
use Rattle.view.specs.View.{no_clash, table_of, answer_by}
use Rattle.view.specs.Effect.{effect_on}

-- by what clashes: s are the bytes before the step, t those after it, r its answer; a refused step alters nothing
pub record SteppedBy (h : Head) (clash : ℕ → ℕ → Bool) (s t : List ℕ) (st : Step) (r : ℕ) : Type 0 where
  pub answers : r ≡ answer_by h clash s st
  pub leaves : t ≡ cond (eqb r 0) (encode (effect_on (table_of h clash) (contents s) st)) s

-- the same of any step but a hand
abbrev pub Stepped : Head → List ℕ → List ℕ → Step → ℕ → Type 0
Stepped h s t st r = SteppedBy h no_clash s t st r
