-- What each line of a report adds to the receipt lines and to the item fields, and what the lines of a state add.
use Prim.Native.Nat.{ℕ, zero, suc, ◌+◌, ◌≤◌, ◌<◌}
use native.Mathlib.Omega.{arith}
use mathlib.Core.Bool.{Bool, true, false, cond}
use mathlib.Core.List.{List, [], ◌∷◌, ◌++◌}
use mathlib.Core.Path.{◌≡◌, refl, sym, subst, ◌∙◌}
use lib.Dec.{eqb, ltb}
use lib.ListN.{length}
use Rattle.base.specs.Bits.{bit, digit}
use Rattle.base.specs.Sums.{sum, how_many}
use Rattle.base.proofs.Sums.{sum_ext, sum-zero, as_digit}
use Rattle.header.specs.declared.Head.{Head}
use Rattle.header.specs.Quorum.{count_in}
use Rattle.rules.specs.declared.Entry.{Entry}
use Rattle.rules.specs.declared.Entry.TheVariants.{Hash, Backing, Board}
use Rattle.rules.specs.Bag.{entry_at}
use Rattle.state.specs.declared.Fact.TheVariants.{Receipted}
use Rattle.state.specs.Contents.{Contents}
use Rattle.state.specs.Sets.{signers_of}
use Rattle.figures.specs.declared.Totals.{Totals}
use Rattle.figures.specs.Totals.{receipt_count, totals_in}
use Rattle.figures.specs.Entries.{published_by, entry_items}
use Rattle.figures.proofs.Counted.{nothing_published, bag_counted}
use Rattle.text.specs.Wrote.{each}
use Rattle.text.specs.Decimal.{field}
use Rattle.report.specs.Words.{peers, threshold, honest, db, receipt, board, totals}
use Rattle.report.specs.Lines.{head_line, step_line, db_line, receipt_line, board_item, board_line, totals_line}
use Rattle.report.specs.State.{db_item, db_period, db_peer, db_lines, receipt_item, receipt_period, receipt_lines}
use Rattle.report.specs.State.{entry_line, bag_line, board_lines, totals_on, shown_lines, foot}
use Rattle.reading.specs.Read.{times_in, begins}
use Rattle.reading.specs.Report.{receipt_lines_in, item_fields_of, item_fields_in, Agrees}
use Rattle.reading.specs.Receipts.{receipt_text}
use Rattle.reading.proofs.Read.{Adds, adds_none, ◌▹◌, adds_line, other_line, adds-all}
use Rattle.reading.proofs.Read.{Within, word_within, ◌&◌, decimal_within, field_within, times_append, field_blank, decimal-first}

-- to the receipt lines, and to the item fields of the board lines

abbrev pub AddsReceipts : List ℕ → ℕ → Type 0
AddsReceipts = Adds receipt (λ line. 1)

abbrev pub AddsItems : List ℕ → ℕ → Type 0
AddsItems = Adds board item_fields_of

-- how often a byte stands in each of a row of texts
times_each : (b : ℕ) (f : ℕ → List ℕ) (n : ℕ) → times_in b (each f n) ≡ sum n (λ k. times_in b (f k))
unfolding each sum times_in
times_each b f zero = refl
times_each b f (suc n) = times_append b (each f n) (f n) ∙ omega (arith, times_each b f n)

module _ {word : List ℕ} {v : List ℕ → ℕ} where
  -- each of a row of texts
  pub adds-each : (f : ℕ → List ℕ) (g : ℕ → ℕ) (n : ℕ) → ((k : ℕ) → k < n → Adds word v (f k) (g k)) → Adds word v (each f n) (sum n g)
  unfolding each sum
  adds-each f g zero h = adds_none
  adds-each f g (suc n) h = adds-each f g n (λ k l. h k (omega arith)) ▹ h n (omega arith)

  none_if : (t : Bool) {u : List ℕ} → Adds word v u 0 → Adds word v (cond t u []) 0
  none_if true x = x
  none_if false x = adds_none

  some_if : (t : Bool) {u : List ℕ} {k : ℕ} → Adds word v u k → Adds word v (cond t u []) (cond t k 0)
  some_if true x = x
  some_if false x = adds_none

  adds_as : {u : List ℕ} {j k : ℕ} → j ≡ k → Adds word v u j → Adds word v u k
  adds_as {u} e x = subst (λ (i : ℕ). Adds word v u i) e x

  pub each_none : (f : ℕ → List ℕ) (n : ℕ) → ((k : ℕ) → k < n → Adds word v (f k) 0) → Adds word v (each f n) 0
  unfolding each
  each_none f zero h = adds_none
  each_none f (suc n) h = each_none f n (λ k l. h k (omega arith)) ▹ h n (omega arith)

-- no end of a line stands within a line of each kind

pub head_within : (n t h : ℕ) → Within (peers ++ field n ++ threshold ++ field t ++ honest ++ field h)
unfolding times_in
head_within n t h =
    word_within peers refl & field_within n & word_within threshold refl & field_within t & word_within honest refl & field_within h

pub db_within : (j p x n : ℕ) → Within (db ++ field j ++ field p ++ field x ++ field n)
unfolding times_in
db_within j p x n = word_within db refl & field_within j & field_within p & field_within x & field_within n

pub receipt_within : (p x : ℕ) → Within (receipt ++ field p ++ field x)
unfolding times_in
receipt_within p x = word_within receipt refl & field_within p & field_within x

pub totals_within : (f : Totals) → Within (totals ++ field f.posts ++ field f.receipts ++ field f.items)
unfolding times_in
totals_within f = word_within totals refl & field_within f.posts & field_within f.receipts & field_within f.items

pub end_within : Within (101 ∷ 110 ∷ 100 ∷ [])
unfolding times_in
end_within = word_within (101 ∷ 110 ∷ 100 ∷ []) refl

-- lines that begin with neither word: `peers` with 112, a number with a digit, `db` with 100
module _ {b : ℕ} {rest : List ℕ} (p : eqb 112 b ≡ false) (d : eqb 100 b ≡ false) (letter : 58 ≤ b) {v : List ℕ → ℕ} where
  pub head-adds : (n t h : ℕ) → Adds (b ∷ rest) v (head_line n t h) 0
  unfolding head_line begins
  head-adds n t h = other_line (head_within n t h) (rw p)

  pub step_adds : (k a : ℕ) → Adds (b ∷ rest) v (step_line k a) 0
  unfolding step_line
  step_adds k a = other_line (decimal_within k & field_within a) (decimal-first b letter rest k (field a))

  db-adds : (c : Contents) (j q x : ℕ) → Adds (b ∷ rest) v (db_item c j q x) 0
  unfolding db_item db_line begins
  db-adds c j q x =
      let n = count_in (signers_of c j q x).0 in
      none_if (ltb 0 n) (other_line (db_within j q x n) (rw d))

  pub dbs_add : (h : Head) (c : Contents) → Adds (b ∷ rest) v (db_lines h c) 0
  unfolding db_lines db_peer db_period
  dbs_add h c =
      each_none (db_peer h c) h.n (λ k _.
      each_none (db_period h c (k + 1)) h.periods (λ q _.
      each_none (db_item c (k + 1) q) h.items (λ x _. db-adds c (k + 1) q x)))

-- the items of a board line: a blank before each, and one before the period

one_blank : (t : Bool) (x : ℕ) → times_in 32 (cond t (field x) []) ≡ digit t
unfolding times_in
one_blank true x = field_blank x
one_blank false x = refl

within_if : (t : Bool) (x : ℕ) → times_in 10 (cond t (field x) []) ≡ 0
unfolding times_in
within_if true x = (field_within x).none
within_if false x = refl

module _ (m B : ℕ) where
  items_blank : times_in 32 (each (board_item B) m) ≡ how_many m (bit B)
  unfolding board_item how_many
  items_blank =
      times_each 32 (board_item B) m
      ∙ sum_ext m (λ x. times_in 32 (board_item B x)) (λ x. digit (bit B x)) (λ x _. one_blank (bit B x) x)

  items_within : Within (each (board_item B) m)
  unfolding board_item
  items_within = record {
    none = times_each 10 (board_item B) m ∙ sum-zero m (λ x. times_in 10 (board_item B x)) (λ x _. within_if (bit B x) x);
  }

  pub board_within : (p : ℕ) → Within (board ++ field p ++ each (board_item B) m)
  unfolding times_in
  board_within p = word_within board refl & field_within p & items_within

  board-fields : (p : ℕ) → item_fields_of (board ++ field p ++ each (board_item B) m) ≡ how_many m (bit B)
  unfolding times_in
  board-fields p =
      let all = times_append 32 (board ++ field p) (each (board_item B) m) in
      let word = times_append 32 board (field p) in
      omega (arith, all, word, field_blank p, items_blank)

-- what is counted over the receipt lines, for the receipt of item x in period p if it is held, and for all of them
abbrev pub for_receipt : (List ℕ → ℕ) → Contents → ℕ → ℕ → ℕ
for_receipt v c p x = cond (c.has (Receipted p x)) (v (receipt_text p x)) 0

abbrev pub for_receipts : (List ℕ → ℕ) → Head → Contents → ℕ
for_receipts v h c = sum h.periods (λ p. sum h.items (for_receipt v c p))

-- receipt lines: one for each receipt, and none among the boards
module _ {v : List ℕ → ℕ} (h : Head) (c : Contents) where
  receipt-adds : (p x : ℕ) → Adds receipt v (receipt_item c p x) (for_receipt v c p x)
  unfolding receipt_item receipt_line begins
  receipt-adds p x = some_if (c.has (Receipted p x)) (adds_line (receipt_within p x) refl)

  receipts_add : Adds receipt v (receipt_lines h c) (for_receipts v h c)
  unfolding receipt_lines receipt_period
  receipts_add =
      adds-each (receipt_period h c) _ h.periods (λ p _. adds-each (receipt_item c p) _ h.items (λ x _. receipt-adds p x))

  no_receipt : (x : Entry) → Adds receipt v (entry_line h x) 0
  unfolding entry_line board_line begins
  no_receipt (Hash k p B) = adds_none
  no_receipt (Backing k p B) = adds_none
  no_receipt (Board p B) = other_line (board_within h.items B p) refl

  no_receipts : Adds receipt v (board_lines h c) 0
  unfolding board_lines bag_line
  no_receipts = each_none (bag_line h c) (length c.bag) (λ e _. no_receipt (entry_at c.bag e))

-- counted by 1 each, they are as many as the receipts
each_once : (h : Head) (c : Contents) → for_receipts (λ line. 1) h c ≡ (totals_on h c).receipts
unfolding totals_in receipt_count how_many
each_once h c = sum_ext h.periods _ _ (λ p _. sum_ext h.items _ _ (λ x _. as_digit (c.has (Receipted p x))))

-- item fields: those of each board, and none among the receipts
module _ (h : Head) (c : Contents) where
  no_board_lem : (p x : ℕ) → AddsItems (receipt_item c p x) 0
  unfolding receipt_item receipt_line begins
  no_board_lem p x = none_if (c.has (Receipted p x)) (other_line (receipt_within p x) refl)

  no_boards : AddsItems (receipt_lines h c) 0
  unfolding receipt_lines receipt_period
  no_boards = each_none (receipt_period h c) h.periods (λ p _. each_none (receipt_item c p) h.items (λ x _. no_board_lem p x))

  entry_adds : (x : Entry) → AddsItems (entry_line h x) (entry_items h.items x)
  unfolding entry_line published_by board_line begins
  entry_adds (Hash k p B) = adds_as (sym (nothing_published h.items)) adds_none
  entry_adds (Backing k p B) = adds_as (sym (nothing_published h.items)) adds_none
  entry_adds (Board p B) = adds_as (board-fields h.items B p) (adds_line (board_within h.items B p) refl)

  boards_add : AddsItems (board_lines h c) (totals_on h c).items
  unfolding board_lines bag_line totals_in
  boards_add =
      adds_as (bag_counted h.items c.bag) (adds-each (bag_line h c) _ (length c.bag) (λ e _. entry_adds (entry_at c.bag e)))

-- the foot: neither word
module _ {b : ℕ} {rest : List ℕ} (t : eqb 116 b ≡ false) (e : eqb 101 b ≡ false) {v : List ℕ → ℕ} where
  foot-adds : (f : Totals) → Adds (b ∷ rest) v (foot f) 0
  unfolding foot totals_line begins
  foot-adds f = other_line (totals_within f) (rw t) ▹ other_line end_within (rw e)

-- after lines that do not begin with `receipt`, what is counted over the receipt lines of a state, and with its foot
module _ (h : Head) (c : Contents) {front : List ℕ} {v : List ℕ → ℕ} (a : Adds receipt v front 0) where
  receipts_above : Adds receipt v (front ++ shown_lines h c) (for_receipts v h c)
  unfolding shown_lines
  receipts_above = adds_as (omega arith) (a ▹ (dbs_add refl refl (omega arith) h c ▹ receipts_add h c ▹ no_receipts h c))

  pub receipts_whole : (f : Totals) → Adds receipt v (front ++ shown_lines h c ++ foot f) (for_receipts v h c)
  receipts_whole f = adds_as (omega arith) (receipts_above ▹ foot-adds refl refl f)

-- after lines that begin with neither word, those of a state have the figures of the state; and so they have with its foot
module _ (h : Head) (c : Contents) {front : List ℕ}
    (a : AddsReceipts front 0) (b : AddsItems front 0) where
  items_above : AddsItems (front ++ shown_lines h c) (totals_on h c).items
  unfolding shown_lines
  items_above = adds_as (omega arith) (b ▹ (dbs_add refl refl (omega arith) h c ▹ no_boards h c ▹ boards_add h c))

  pub above_agrees : Agrees (front ++ shown_lines h c) (totals_on h c)
  unfolding receipt_lines_in item_fields_in
  above_agrees = record { receipt_lines_lem = adds-all (receipts_above h c a) ∙ each_once h c; item-fields = adds-all items_above }

  pub whole_agrees : (f : Totals) → Agrees (front ++ shown_lines h c ++ foot f) (totals_on h c)
  unfolding receipt_lines_in item_fields_in
  whole_agrees f = record {
    receipt_lines_lem = adds-all (receipts_whole h c a f) ∙ each_once h c;
    item-fields = adds-all (items_above ▹ foot-adds refl refl f) ∙ omega arith;
  }
