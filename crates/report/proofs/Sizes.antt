-- How long the report's lines are at most: its numbers are small, and there are so many of each kind.
use Prim.Native.Nat.{ℕ, zero, suc, ◌+◌, ◌*◌, ◌≤◌, ◌<◌}
use native.Mathlib.Omega.{arith}
use mathlib.Core.Bool.{Bool, true, false, cond}
use mathlib.Core.List.{List, [], ◌++◌}
use mathlib.Core.Path.{refl}
use lib.Dec.{ltb}
use lib.ListN.{length, length-append}
use Rattle.base.specs.Bits.{bit, member}
use Rattle.base.specs.Weight.{ones, all}
use Rattle.base.proofs.Weight.{weight_mono, count-all}
use Rattle.rules.specs.declared.Entry.{Entry}
use Rattle.rules.specs.declared.Entry.TheVariants.{Hash, Backing, Board}
use Rattle.rules.specs.Bag.{entry_at, period_of}
use Rattle.state.specs.declared.Fact.TheVariants.{Receipted}
use Rattle.state.specs.Contents.{Contents}
use Rattle.state.specs.Sets.{signers_of}
use Rattle.header.specs.declared.Head.{Head}
use Rattle.header.specs.Quorum.{room, count_in}
use Rattle.view.specs.View.{state_of}
use Rattle.figures.proofs.Most.{totals_most}
use Rattle.text.specs.Wrote.{each}
use Rattle.text.specs.Decimal.{field}
use Rattle.text.proofs.Digits.{decimal_most, field_most}
use Rattle.report.specs.Words.{db, receipt, newline}
use Rattle.report.specs.Lines.{refused_line, head_line, step_line, db_line, receipt_line, board_item, board_line, totals_line}
use Rattle.report.specs.State.{db_item, db_period, db_peer, db_lines, receipt_item, receipt_period, receipt_lines}
use Rattle.report.specs.State.{entry_line, bag_line, board_lines, totals_on, foot, shown_lines, state_lines}

-- texts in a row, and a text where a test holds

pub each_most : (f : ℕ → List ℕ) (c n m : ℕ) → n ≤ m → ((k : ℕ) → k < n → length (f k) ≤ c) → length (each f n) ≤ m * c
unfolding each
each_most f c zero m l h = omega arith
each_most f c (suc n) zero l h = omega arith
each_most f c (suc n) (suc m) l h =
    rw length-append (omega (arith, each_most f c n m (omega arith) (λ k b. h k (omega arith)), h n (omega arith)))

if_most : (b : Bool) (t : List ℕ) (c : ℕ) → length t ≤ c → length (cond b t []) ≤ c
if_most true t c h = h
if_most false t c h = omega arith

-- the lines that hang on no state

pub refused_most : (r : ℕ) → r < 100 → length (refused_line r) ≤ 11
unfolding refused_line
refused_most r l = simp length-append (omega (arith, field_most 1 r (omega arith)))

pub head_most : (n t h : ℕ) → n < 100 → t < 100 → h < 100 → length (head_line n t h) ≤ 32
unfolding head_line
head_most n t h a b c =
    simp length-append (omega (arith, field_most 1 n (omega arith), field_most 1 t (omega arith), field_most 1 h (omega arith)))

pub step_most : (k a : ℕ) → k < 10000 → a < 100 → length (step_line k a) ≤ 8
unfolding step_line
step_most k a l m = simp length-append (omega (arith, decimal_most 3 k (omega arith), field_most 1 a (omega arith)))

module _ (h : Head) (few_peers : h.n ≤ 16) (few-periods : h.periods ≤ 8) (few_items : h.items ≤ 64) (c : Contents) where
  signers_most : (set : ℕ) → count_in set ≤ 16
  unfolding count_in
  signers_most set = omega (arith, weight_mono ones room (member set) all (λ k q. refl), count-all room)

  db_most : (j p x : ℕ) → j < 100 → p < 10 → x < 100 → length (db_item c j p x) ≤ 15
  unfolding db_item db_line
  db_most j p x a b d =
      let n = count_in (signers_of c j p x).0 in
      let small = field_most 1 n (omega (arith, signers_most (signers_of c j p x).0)) in
      if_most (ltb 0 n) (db ++ field j ++ field p ++ field x ++ field n ++ newline) 15
      (simp length-append (omega (arith, field_most 1 j (omega arith), field_most 0 p (omega arith), field_most 1 x (omega arith), small)))

  dbs_most : length (db_lines h c) ≤ 16 * (8 * (64 * 15))
  unfolding db_lines db_peer db_period
  dbs_most =
      each_most (db_peer h c) (8 * (64 * 15)) h.n 16 few_peers (λ k a.
      each_most (db_period h c (k + 1)) (64 * 15) h.periods 8 few-periods (λ p b.
      each_most (db_item c (k + 1) p) 15 h.items 64 few_items (λ x d. db_most (k + 1) p x (omega arith) (omega arith) (omega arith))))

  receipt_most : (p x : ℕ) → p < 10 → x < 100 → length (receipt_item c p x) ≤ 13
  unfolding receipt_item receipt_line
  receipt_most p x a b =
      if_most (c.has (Receipted p x)) (receipt ++ field p ++ field x ++ newline) 13
      (simp length-append (omega (arith, field_most 0 p (omega arith), field_most 1 x (omega arith))))

  receipts_most : length (receipt_lines h c) ≤ 8 * (64 * 13)
  unfolding receipt_lines receipt_period
  receipts_most =
      each_most (receipt_period h c) (64 * 13) h.periods 8 few-periods (λ p a.
      each_most (receipt_item c p) 13 h.items 64 few_items (λ x b. receipt_most p x (omega arith) (omega arith)))

  item_most : (B x : ℕ) → x < 100 → length (board_item B x) ≤ 3
  unfolding board_item
  item_most B x l = if_most (bit B x) (field x) 3 (field_most 1 x (omega arith))

  board_most : (p B : ℕ) → p < 1000 → length (board_line h.items p B) ≤ 202
  unfolding board_line
  board_most p B l =
      simp length-append
      (omega (arith, field_most 2 p (omega arith), each_most (board_item B) 3 h.items 64 few_items (λ x m. item_most B x (omega arith))))

  entry_most : (x : Entry) → period_of x < 1000 → length (entry_line h x) ≤ 202
  unfolding entry_line
  entry_most (Hash k p B) l = omega arith
  entry_most (Backing k p B) l = omega arith
  entry_most (Board p B) l = board_most p B l

  foot_most : length c.bag ≤ 256 → length (foot (totals_on h c)) ≤ 24
  unfolding foot totals_line
  foot_most few =
      let f = totals_on h c in
      let m = totals_most h (state_of c) few-periods few_items few in
      simp length-append
      (omega (
        arith,
        field_most 1 f.posts (omega (arith, m.posts)),
        field_most 2 f.receipts (omega (arith, m.receipts)),
        field_most 4 f.items (omega (arith, m.items)),
      ))

  -- a bag of at most 256 entries, with small periods
  pub state_most : length c.bag ≤ 256 → ((e : ℕ) → e < length c.bag → period_of (entry_at c.bag e) < 1000)
      → length (state_lines h c) ≤ 181272
  unfolding state_lines shown_lines board_lines bag_line
  state_most few small =
      simp length-append
      (omega (
        arith,
        dbs_most,
        receipts_most,
        foot_most few,
        each_most (bag_line h c) 202 (length c.bag) 256 few
            (λ e l. entry_most (entry_at c.bag e) (small e l)),
      ))
