-- What holds of every line of a text: of a text that is made of lines, part by part.
use Prim.Native.Nat.{ℕ, zero, suc, ◌<◌}
use native.Mathlib.Omega.{arith}
use mathlib.Core.Bool.{Bool, true, false, cond}
use mathlib.Core.List.{List, [], ◌∷◌, ◌++◌, append-nil, append_assoc}
use mathlib.Core.Logic.{◌⊎◌, inl, inr}
use mathlib.Core.Path.{◌≡◌, sym, subst}
use Rattle.text.specs.Wrote.{each}
use Rattle.reading.specs.Read.{lines_from, lines_of}
use Rattle.reading.specs.Receipts.{Stands}
use Rattle.reading.proofs.Read.{Within, line_first}

-- whatever follows the text, each line that stands there passes P or is one of what follows
pub record Every (P : List ℕ → Type 0) (text : List ℕ) : Type 0 where
  pub over : (rest line : List ℕ) → Stands line (lines_of (text ++ rest)) → P line ⊎ Stands line (lines_of rest)

module _ {P : List ℕ → Type 0} where
  pub every-none : Every P []
  every-none = record { over = λ rest line s. inr s }

  pub every_line : {w : List ℕ} → Within w → P w → Every P (w ++ (10 ∷ []))
  every_line {w} e p = record {
    over = λ rest line s. go rest line (subst (λ (lines : List (List ℕ)). Stands line lines) (line_first w rest e) s);
  }
    where
      go : (rest line : List ℕ) → (w ≡ line) ⊎ Stands line (lines_of rest) → P line ⊎ Stands line (lines_of rest)
      go rest line (inl is) = inl (subst P is p)
      go rest line (inr s) = inr s

  infixl 40 ◌and_then◌
  pub ◌and_then◌ : {t u : List ℕ} → Every P t → Every P u → Every P (t ++ u)
  ◌and_then◌ {t} {u} x y = record {
    over = λ rest line s.
        go rest line (x.over (u ++ rest) line (subst (λ (w : List ℕ). Stands line (lines_of w)) (append_assoc t u rest) s));
  }
    where
      go : (rest line : List ℕ) → P line ⊎ Stands line (lines_of (u ++ rest)) → P line ⊎ Stands line (lines_of rest)
      go rest line (inl p) = inl p
      go rest line (inr s) = y.over rest line s

  pub every_if : (b : Bool) {t : List ℕ} → Every P t → Every P (cond b t [])
  every_if true x = x
  every_if false x = every-none

  pub every-each : (f : ℕ → List ℕ) (n : ℕ) → ((k : ℕ) → k < n → Every P (f k)) → Every P (each f n)
  unfolding each
  every-each f zero h = every-none
  every-each f (suc n) h = every-each f n (λ k l. h k (omega arith)) and_then h n (omega arith)

  pub every-all : {t : List ℕ} → Every P t → (line : List ℕ) → Stands line (lines_of t) → P line
  unfolding lines_from
  every-all {t} x line s = go (x.over [] line (subst (λ (w : List ℕ). Stands line (lines_of w)) (sym (append-nil t)) s))
    where
      go : P line ⊎ Stands line [] → P line
      go (inl p) = p
      go (inr none) = absurd none
