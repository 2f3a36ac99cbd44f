-- The lines of a report that begin with `receipt` are those of the receipts held.
use Prim.Native.Nat.{ℕ, ◌+◌, ◌<◌}
use native.Mathlib.Omega.{arith}
use mathlib.Core.Bool.{Bool, true, false, cond}
use mathlib.Core.List.{List, [], ◌∷◌, ◌++◌}
use mathlib.Core.Logic.{◌⊎◌, inl, inr}
use mathlib.Core.Path.{◌≡◌, refl, sym, ap₂, subst, ◌∙◌}
use Rattle.base.specs.Bits.{digit}
use Rattle.base.specs.Bytes.{same_bytes}
use Rattle.base.specs.Sums.{sum}
use Rattle.base.proofs.Bytes.{same_self, eq_of_same}
use Rattle.base.proofs.Sums.{sum-part, sum-found}
use Rattle.header.specs.declared.Head.{Head}
use Rattle.state.specs.declared.Fact.TheVariants.{Receipted}
use Rattle.state.specs.Contents.{Contents}
use Rattle.figures.specs.declared.Totals.{Totals}
use Rattle.report.specs.Words.{receipt}
use Rattle.report.specs.State.{shown_lines, foot}
use Rattle.reading.specs.Read.{lines_of, begins, tally}
use Rattle.reading.specs.Receipts.{Stands, receipt_text, ShowsReceipt}
use Rattle.reading.proofs.Read.{Adds, adds-all}
use Rattle.reading.proofs.Lines.{for_receipt, for_receipts, receipts_whole}
use Rattle.reading.proofs.Numbers.{receipt_once}

-- 1 for a line, and 0 for all others
same : List ℕ → List ℕ → ℕ
same line a = digit (same_bytes a line)

-- a line that begins with a word stands among lines where it is counted there
module _ (word line : List ℕ) where
  stands_counted : (lines : List (List ℕ)) → begins word line ≡ true → Stands line lines → 0 < tally word (same line) lines
  unfolding tally same
  stands_counted [] b s = absurd s
  stands_counted (a ∷ lines) b (inl e) =
      subst (λ (l : List ℕ). 0 < cond (begins word l) (digit (same_bytes l line)) 0 + tally word (same line) lines) (sym e)
      (rw (b, same_self line) (omega arith))
  stands_counted (a ∷ lines) b (inr s) = omega (arith, stands_counted lines b s)

  counted_stands : (lines : List (List ℕ)) → 0 < tally word (same line) lines → Stands line lines
  unfolding tally same
  counted_stands [] l = absurd (omega (arith, l))
  counted_stands (a ∷ lines) l = pick (same_bytes a line) (begins word a) refl l (counted_stands lines)
    where
      pick : (alike named : Bool) → same_bytes a line ≡ alike → 0 < cond named (digit alike) 0 + tally word (same line) lines
          → (0 < tally word (same line) lines → Stands line lines) → (a ≡ line) ⊎ Stands line lines
      pick true named e more rest = inl (eq_of_same a line e)
      pick false true e more rest = inr (rest (omega (arith, more)))
      pick false false e more rest = inr (rest (omega (arith, more)))

-- a line is counted for a receipt that is held and whose line it is
module _ (h : Head) (c : Contents) (line : List ℕ) where
  abbrev times : ℕ
  times = for_receipts (same line) h c

  its_receipt : (p x : ℕ) → 0 < for_receipt (same line) c p x → (c.has (Receipted p x) ≡ true) × (receipt_text p x ≡ line)
  unfolding same
  its_receipt p x l = pick (c.has (Receipted p x)) (same_bytes (receipt_text p x) line) refl l
    where
      pick : (held alike : Bool) → same_bytes (receipt_text p x) line ≡ alike → 0 < cond held (digit alike) 0
          → (held ≡ true) × (receipt_text p x ≡ line)
      pick true true e more = (refl, eq_of_same (receipt_text p x) line e)
      pick true false e more = absurd (omega (arith, more))
      pick false alike e more = absurd (omega (arith, more))

  counted_held : 0 < times → (p : ℕ) × ((x : ℕ) × (c.has (Receipted p x) ≡ true) × (receipt_text p x ≡ line))
  counted_held l =
      let (p, m) = sum-found (λ q. sum h.items (for_receipt (same line) c q)) h.periods l in
      let (x, n) = sum-found (for_receipt (same line) c p) h.items m in
      let its = its_receipt p x n in
      (p, (x, its.0, its.1))

  held_counted : (p x : ℕ) → receipt_text p x ≡ line → p < h.periods → x < h.items → c.has (Receipted p x) ≡ true → 0 < times
  unfolding same
  held_counted p x alike l m e =
      let one : for_receipt (same line) c p x ≡ 1 = rw (e, alike, same_self line) in
      let in_period = sum-part (for_receipt (same line) c p) h.items x m in
      let in_total = sum-part (λ (q : ℕ). sum h.items (for_receipt (same line) c q)) h.periods p l in
      omega (arith, one, in_period, in_total)

-- the lines of a report
abbrev lines_after : List ℕ → Head → Contents → Totals → List (List ℕ)
lines_after front h c f = lines_of (front ++ shown_lines h c ++ foot f)

-- after lines that do not begin with `receipt`: whatever is counted over those that do, they add nothing
module _ (h : Head) (c : Contents) {front : List ℕ} (none : (v : List ℕ → ℕ) → Adds receipt v front 0) (f : Totals) where
  shown_times : (line : List ℕ) → tally receipt (same line) (lines_after front h c f) ≡ times h c line
  shown_times line = adds-all (receipts_whole h c (none (same line)) f)

  -- a line that begins so is that of a receipt that is held
  pub line_held : (line : List ℕ) → begins receipt line ≡ true → Stands line (lines_after front h c f)
      → (p : ℕ) × ((x : ℕ) × (c.has (Receipted p x) ≡ true) × (receipt_text p x ≡ line))
  line_held line b s =
      let there = stands_counted receipt line (lines_after front h c f) b s in
      counted_held h c line (omega (arith, shown_times line, there))

  -- the receipt of a line that stands there is held
  pub receipt_held : (p x : ℕ) → ShowsReceipt (front ++ shown_lines h c ++ foot f) p x → c.has (Receipted p x) ≡ true
  unfolding begins
  receipt_held p x s =
      let (q, (y, held, alike)) = line_held (receipt_text p x) refl s in
      let its = receipt_once q y p x alike in
      ap₂ (λ (i j : ℕ). c.has (Receipted i j)) (sym its.0) (sym its.1) ∙ held

  -- and the line of a receipt that is held stands there
  pub held_shown : (p x : ℕ) → p < h.periods → x < h.items → c.has (Receipted p x) ≡ true
      → ShowsReceipt (front ++ shown_lines h c ++ foot f) p x
  held_shown p x l m e =
      counted_stands receipt (receipt_text p x) (lines_after front h c f)
      (omega (arith, shown_times (receipt_text p x), held_counted h c (receipt_text p x) p x refl l m e))
