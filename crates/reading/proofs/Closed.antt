-- The parts of a report end where a line ends, so that its lines are those of its parts, one after the other.
use Prim.Native.Nat.{ℕ, ◌+◌}
use mathlib.Core.List.{List, [], ◌∷◌, ◌++◌}
use mathlib.Core.Path.{◌≡◌, ap, ◌∙◌}
use lib.Dec.{ltb}
use lib.ListN.{length}
use Rattle.header.specs.declared.Head.{Head}
use Rattle.header.specs.Quorum.{count_in}
use Rattle.rules.specs.declared.Entry.{Entry}
use Rattle.rules.specs.declared.Entry.TheVariants.{Hash, Backing, Board}
use Rattle.rules.specs.Bag.{entry_at}
use Rattle.state.specs.declared.Fact.TheVariants.{Receipted}
use Rattle.state.specs.Contents.{Contents}
use Rattle.state.specs.Sets.{signers_of}
use Rattle.figures.specs.declared.Totals.{Totals}
use Rattle.text.specs.Decimal.{field}
use Rattle.report.specs.Words.{totals, end}
use Rattle.report.specs.Lines.{head_line, step_line, db_line, receipt_line, board_line, totals_line}
use Rattle.report.specs.State.{db_item, db_period, db_peer, db_lines, receipt_item, receipt_period, receipt_lines}
use Rattle.report.specs.State.{entry_line, bag_line, board_lines, shown_lines, foot}
use Rattle.reading.specs.Read.{lines_of}
use Rattle.reading.specs.Report.{foot_lines}
use Rattle.reading.proofs.Read.{◌&◌, decimal_within, field_within, line_first, line_only}
use Rattle.reading.proofs.Read.{Closed, closed_none, closed_line, ◌then◌, closed_if, closed_each}
use Rattle.reading.proofs.Lines.{head_within, db_within, receipt_within, board_within, totals_within, end_within}

pub head_closed : (n t h : ℕ) → Closed (head_line n t h)
unfolding head_line
head_closed n t h = closed_line (head_within n t h)

pub step_closed : (k a : ℕ) → Closed (step_line k a)
unfolding step_line
step_closed k a = closed_line (decimal_within k & field_within a)

module _ (h : Head) (c : Contents) where
  db_closed : (j p x : ℕ) → Closed (db_item c j p x)
  unfolding db_item db_line
  db_closed j p x = let n = count_in (signers_of c j p x).0 in closed_if (ltb 0 n) (closed_line (db_within j p x n))

  receipt_closed : (p x : ℕ) → Closed (receipt_item c p x)
  unfolding receipt_item receipt_line
  receipt_closed p x = closed_if (c.has (Receipted p x)) (closed_line (receipt_within p x))

  entry_closed : (x : Entry) → Closed (entry_line h x)
  unfolding entry_line board_line
  entry_closed (Hash k p B) = closed_none
  entry_closed (Backing k p B) = closed_none
  entry_closed (Board p B) = closed_line (board_within h.items B p)

  dbs_closed : Closed (db_lines h c)
  unfolding db_lines db_peer db_period
  dbs_closed =
      closed_each (db_peer h c) h.n (λ k.
      closed_each (db_period h c (k + 1)) h.periods (λ p.
      closed_each (db_item c (k + 1) p) h.items (db_closed (k + 1) p)))

  receipts_closed : Closed (receipt_lines h c)
  unfolding receipt_lines receipt_period
  receipts_closed = closed_each (receipt_period h c) h.periods (λ p. closed_each (receipt_item c p) h.items (receipt_closed p))

  boards_closed : Closed (board_lines h c)
  unfolding board_lines bag_line
  boards_closed = closed_each (bag_line h c) (length c.bag) (λ e. entry_closed (entry_at c.bag e))

  pub shown_closed : Closed (shown_lines h c)
  unfolding shown_lines
  shown_closed = dbs_closed then receipts_closed then boards_closed

-- the foot is two lines
pub foot_lines_lem : (f : Totals) → lines_of (foot f) ≡ foot_lines f
unfolding foot totals_line
foot_lines_lem f =
    let figures = totals ++ field f.posts ++ field f.receipts ++ field f.items in
    line_first figures end (totals_within f) ∙ ap (λ (l : List (List ℕ)). figures ∷ l) (line_only (101 ∷ 110 ∷ 100 ∷ []) end_within)
