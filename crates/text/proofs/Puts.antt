-- Printers one after the other: nothing, one text and then another, a byte, each of a row of texts, a text where a test holds.
use Prim.Native.Nat.{ℕ, ◌+◌}
use mathlib.Core.Bool.{Bool, true, false, cond}
use mathlib.Core.List.{List, [], ◌++◌}
use mathlib.Core.Path.{◌≡◌, refl, subst, ◌∙◌}
use Rattle.text.specs.declared.Printer.{Printer}
use Rattle.text.specs.Wrote.{Put, each}
use Rattle.text.proofs.Writing as wrote

-- nothing
pub none : {p : Printer} → Put p [] p
none = record { same = refl; wrote = wrote.none }

-- a text after another
infixl 40 ◌▷◌
pub ◌▷◌ : {p q r : Printer} {u v : List ℕ} → Put p u q → Put q v r → Put p (u ++ v) r
◌▷◌ x y = record { same = y.same ∙ x.same; wrote = wrote.◌▷◌ x.wrote y.wrote }

-- the same text under another name
pub renamed : {p q : Printer} {t u : List ℕ} → t ≡ u → Put p t q → Put p u q
renamed {p} {q} e x = subst (λ (v : List ℕ). Put p v q) e x

-- each of a row of texts
pub each_none : {p : Printer} (f : ℕ → List ℕ) → Put p (each f 0) p
each_none f = record { same = refl; wrote = wrote.each_none f }

pub each_more : {p q r : Printer} (f : ℕ → List ℕ) (k : ℕ) → Put p (each f k) q → Put q (f k) r → Put p (each f (k + 1)) r
each_more f k x y = record { same = y.same ∙ x.same; wrote = wrote.each_more f k x.wrote y.wrote }

-- a text where a test holds, and nothing where it does not
pub kept : {p q : Printer} {t : List ℕ} {b r : Bool} → r ≡ b → r ≡ true → Put p t q → Put p (cond b t []) q
kept e y x = record { same = x.same; wrote = wrote.kept e y x.wrote }

pub left_out : {p : Printer} {b r : Bool} (t : List ℕ) → r ≡ b → r ≡ false → Put p (cond b t []) p
left_out t e n = record { same = refl; wrote = wrote.left_out t e n }
