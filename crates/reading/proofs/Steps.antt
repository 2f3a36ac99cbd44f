-- The lines of a report that show an answer are its step lines: every other line begins with a letter.
use Prim.Native.Nat.{ℕ, ◌+◌, ◌≤◌, ◌<◌}
use native.Mathlib.Omega.{arith}
use mathlib.Core.Bool.{true}
use mathlib.Core.List.{List, [], ◌∷◌, ◌++◌}
use mathlib.Core.Path.{◌≡◌, refl, sym, ap, ◌∙◌}
use lib.Dec.{ltb}
use lib.ListN.{length}
use Rattle.base.proofs.Truth.{split}
use Rattle.header.specs.declared.Head.{Head}
use Rattle.header.specs.Quorum.{count_in}
use Rattle.rules.specs.declared.Entry.{Entry}
use Rattle.rules.specs.declared.Entry.TheVariants.{Hash, Backing, Board}
use Rattle.rules.specs.Bag.{entry_at}
use Rattle.state.specs.declared.Fact.TheVariants.{Receipted}
use Rattle.state.specs.Contents.{Contents}
use Rattle.state.specs.Sets.{signers_of}
use Rattle.figures.specs.declared.Totals.{Totals}
use Rattle.text.specs.Wrote.{each}
use Rattle.text.specs.Decimal.{field}
use Rattle.report.specs.Lines.{head_line, step_line, db_line, receipt_line, board_line, totals_line}
use Rattle.report.specs.State.{db_item, db_period, db_peer, db_lines, receipt_item, receipt_period, receipt_lines}
use Rattle.report.specs.State.{entry_line, bag_line, board_lines, shown_lines, foot}
use Rattle.reading.specs.Read.{begins}
use Rattle.reading.specs.Steps.{step_text, ShowsAnswer}
use Rattle.reading.proofs.Read.{◌&◌, decimal_within, field_within, decimal-first}
use Rattle.reading.proofs.Lines.{head_within, db_within, receipt_within, board_within, totals_within, end_within}
use Rattle.reading.proofs.Numbers.{step_once}
use Rattle.reading.proofs.Every.{Every, every-none, every_line, ◌and_then◌, every_if, every-each, every-all}

-- n steps, the one after i others with the answer `answers i`
module _ (n : ℕ) (answers : ℕ → ℕ) where
  -- step k is one of them, and its answer is a
  abbrev pub Answered : ℕ → ℕ → Type 0
  Answered k a = (i : ℕ) × (i < n) × (i + 1 ≡ k) × (answers i ≡ a)

  abbrev Shows : List ℕ → Type 0
  Shows line = (k a : ℕ) → line ≡ step_text k a → Answered k a

  -- a line that begins with a letter shows no answer
  letter : (b : ℕ) → 58 ≤ b → {line : List ℕ} → begins (b ∷ []) line ≡ true → Shows line
  letter b high is k a e = split (ap (begins (b ∷ [])) (sym e) ∙ is) (decimal-first b high [] k (field a))

  every_step_lem : (i : ℕ) → i < n → Every Shows (step_line (i + 1) (answers i))
  unfolding step_line
  every_step_lem i l = every_line (decimal_within (i + 1) & field_within (answers i))
      (λ k a e. let its = step_once (i + 1) (answers i) k a e in (i, l, its.0, its.1))

  every-head : (peers t h : ℕ) → Every Shows (head_line peers t h)
  unfolding head_line begins
  every-head peers t h = every_line (head_within peers t h) (letter 112 (omega arith) refl)

  module _ (h : Head) (c : Contents) where
    every-db : (j p x : ℕ) → Every Shows (db_item c j p x)
    unfolding db_item db_line begins
    every-db j p x =
        let signers = count_in (signers_of c j p x).0 in
        every_if (ltb 0 signers) (every_line (db_within j p x signers) (letter 100 (omega arith) refl))

    every-receipt : (p x : ℕ) → Every Shows (receipt_item c p x)
    unfolding receipt_item receipt_line begins
    every-receipt p x = every_if (c.has (Receipted p x)) (every_line (receipt_within p x) (letter 114 (omega arith) refl))

    every_entry : (x : Entry) → Every Shows (entry_line h x)
    unfolding entry_line board_line begins
    every_entry (Hash k p B) = every-none
    every_entry (Backing k p B) = every-none
    every_entry (Board p B) = every_line (board_within h.items B p) (letter 98 (omega arith) refl)

    every-shown : Every Shows (shown_lines h c)
    unfolding shown_lines db_lines db_peer db_period receipt_lines receipt_period board_lines bag_line
    every-shown =
        every-each (db_peer h c) h.n (λ k _.
        every-each (db_period h c (k + 1)) h.periods (λ p _. every-each (db_item c (k + 1) p) h.items (λ x _. every-db (k + 1) p x)))
        and_then every-each (receipt_period h c) h.periods (λ p _. every-each (receipt_item c p) h.items (λ x _. every-receipt p x))
        and_then every-each (bag_line h c) (length c.bag) (λ e _. every_entry (entry_at c.bag e))

  every-foot : (f : Totals) → Every Shows (foot f)
  unfolding foot totals_line begins
  every-foot f =
      every_line (totals_within f) (letter 116 (omega arith) refl) and_then every_line end_within (letter 101 (omega arith) refl)

  -- so an answer that the report shows is that of its step
  pub answer_shown : (peers t honest : ℕ) (h : Head) (c : Contents) (f : Totals) (k a : ℕ)
      → ShowsAnswer (head_line peers t honest ++ each (λ i. step_line (i + 1) (answers i)) n ++ shown_lines h c ++ foot f) k a
      → Answered k a
  answer_shown peers t honest h c f k a s = every-all
      (every-head peers t honest and_then every-each (λ i. step_line (i + 1) (answers i)) n every_step_lem
      and_then every-shown h c and_then every-foot f) (step_text k a) s k a refl
