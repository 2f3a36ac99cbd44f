-- A whole step: refused, or taken, when its answer is 0 and the bytes are the rules'.
use Prim.Native.Nat.{ℕ}
use mathlib.Core.Bool.{Bool}
use mathlib.Core.List.{List}
use mathlib.Core.Path.{◌≡◌}
use borrow.Author.Tests.{ne_eqb}
use Rattle.rules.specs.declared.Step.{Step}
use Rattle.state.specs.Contents.{contents}
use Rattle.state.specs.Encode.{encode}
use Rattle.state.proofs.Encode.{holds_bytes}
use Rattle.header.specs.declared.Head.{Head}
use Rattle.view.specs.View.{table_of, answer_by}
use Rattle.view.specs.Effect.{effect_on}
use Rattle.view.specs.Stepped.{SteppedBy}

pub refused : (h : Head) (clash : ℕ → ℕ → Bool) (s : List ℕ) (st : Step) (r : ℕ) → r ≡ answer_by h clash s st → (r ≡ 0 → ⊥)
    → SteppedBy h clash s s st r
refused h clash s st r e n = record { answers = e; leaves = rw (ne_eqb r 0 n) }

pub taken : (h : Head) (clash : ℕ → ℕ → Bool) (s t : List ℕ) (st : Step) → 0 ≡ answer_by h clash s st
    → t ≡ encode (effect_on (table_of h clash) (contents s) st) → SteppedBy h clash s t st 0
taken h clash s t st e b = record { answers = e; leaves = b }

-- with what its changes made of the bytes
pub ruleset steps = (taken, holds_bytes)
