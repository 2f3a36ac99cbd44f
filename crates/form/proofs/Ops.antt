-- Laws of the form of a step: what each op reads, and what no op does.
use Prim.Native.Nat.{ℕ, zero, suc, ◌+◌}
use native.Mathlib.Omega.{arith}
use mathlib.Core.Bool.{Bool, true, false, ◌&&◌}
use mathlib.Core.List.{List, [], ◌∷◌}
use mathlib.Core.Path.{◌≡◌, refl, ap}
use lib.Dec.{eqb}
use borrow.Author.Tests.{ne_eqb}
use Rattle.std.specs.Bool.{then_some}
use Rattle.std.specs.Prelude.{None}
use Rattle.rules.specs.declared.Step.{Step}
use Rattle.rules.specs.Form.{Call, formed, select}

-- two numbers that are 0 have a sum that is
pub two : (a b : ℕ) → (eqb a 0 && eqb b 0) ≡ eqb (a + b) 0
two zero b = ap (λ (n : ℕ). eqb n 0) (omega arith)
two (suc a) b = rw (ne_eqb (suc a) 0 (λ e. omega (arith, e)), ne_eqb (suc a + b) 0 (λ e. omega (arith, e)))

-- a step that is kept where a test passes
pub kept : (ok : Bool) (st : Step) → then_some ok st ≡ formed ok st
unfolding formed
kept true st = refl
kept false st = refl

-- an op that is none of those listed
pub skip : (op n : ℕ) (v : Call) (rest : List (ℕ × Call)) → (op ≡ n → ⊥) → None ≡ select op rest → None ≡ select op ((n, v) ∷ rest)
unfolding select
skip op n v rest d e = rw (ne_eqb op n d) e

pub no_op : (op : ℕ) → None ≡ select op []
unfolding select
no_op op = refl

pub ruleset by_op = (kept, skip, no_op)
