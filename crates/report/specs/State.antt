-- What the report shows of a state: databases, receipts, boards and totals.
-- All but boards rise in the fields shown; boards keep the bag's order.
use Rattle.std.specs.Prelude.{ℕ, ◌+◌, cond, List, [], ◌++◌, ltb, length}
use Rattle.rules.specs.declared.Entry.{Entry}
use Rattle.rules.specs.declared.Entry.TheVariants.{Hash, Backing, Board}
use Rattle.rules.specs.Bag.{entry_at}
use Rattle.state.specs.declared.Fact.TheVariants.{Receipted}
use Rattle.state.specs.Contents.{Contents}
use Rattle.state.specs.Sets.{signers_of}
use Rattle.header.specs.declared.Head.{Head}
use Rattle.header.specs.Quorum.{count_in}
use Rattle.view.specs.View.{state_of}
use Rattle.figures.specs.declared.Totals.{Totals}
use Rattle.figures.specs.Totals.{totals_in, outside_of}
use Rattle.text.specs.Wrote.{each}
use Rattle.report.specs.Words.{end}
use Rattle.report.specs.Lines.{db_line, receipt_line, board_line, totals_line}

-- how many signers item x has in peer j's database of period p; an empty set is left out
unfoldable pub db_item : Contents → ℕ → ℕ → ℕ → List ℕ
db_item c j p x = let n = count_in (signers_of c j p x).0 in cond (ltb 0 n) (db_line j p x n) []

unfoldable pub db_period : Head → Contents → ℕ → ℕ → List ℕ
db_period h c j p = each (db_item c j p) h.items

-- peers count from 1
unfoldable pub db_peer : Head → Contents → ℕ → List ℕ
db_peer h c k = each (db_period h c (k + 1)) h.periods

unfoldable pub db_lines : Head → Contents → List ℕ
db_lines h c = each (db_peer h c) h.n

unfoldable pub receipt_item : Contents → ℕ → ℕ → List ℕ
receipt_item c p x = cond (c.has (Receipted p x)) (receipt_line p x) []

unfoldable pub receipt_period : Head → Contents → ℕ → List ℕ
receipt_period h c p = each (receipt_item c p) h.items

unfoldable pub receipt_lines : Head → Contents → List ℕ
receipt_lines h c = each (receipt_period h c) h.periods

-- of the bag's entries only boards are shown
unfoldable pub entry_line : Head → Entry → List ℕ
entry_line h (Hash k p B) = []
entry_line h (Backing k p B) = []
entry_line h (Board p B) = board_line h.items p B

unfoldable pub bag_line : Head → Contents → ℕ → List ℕ
bag_line h c e = entry_line h (entry_at c.bag e)

unfoldable pub board_lines : Head → Contents → List ℕ
board_lines h c = each (bag_line h c) (length c.bag)

-- the totals of what is held
abbrev pub totals_on : Head → Contents → Totals
totals_on h c = totals_in h (outside_of (state_of c))

-- the report's last two lines
unfoldable pub foot : Totals → List ℕ
foot f = totals_line f ++ end

-- the lines of a state above its totals
unfoldable pub shown_lines : Head → Contents → List ℕ
shown_lines h c = db_lines h c ++ receipt_lines h c ++ board_lines h c

-- the report from its databases to its end
unfoldable pub state_lines : Head → Contents → List ℕ
state_lines h c = shown_lines h c ++ foot (totals_on h c)
