-- The loops that make a list of 64 numbers, the ballots of the items and the rows of clashes, and what is read of these lists.
use Prim.Native.Nat.{ℕ, ◌+◌, ◌<◌, ◌≤◌}
use native.Mathlib.Decide.{dec_lt}
use native.Mathlib.Omega.{arith}
use mathlib.Core.List.{List}
use mathlib.Core.Path.{◌≡◌, sym, ap, ◌∙◌}
use lib.ListN.{length, get_or, set, replicate, length-replicate}
use lib.Seq.{get_or-set_other}
use borrow.Author.Tests.{le-ltb}
use Rattle.base.specs.Bytes.{number_at}
use Rattle.base.specs.Tab.{FilledTo}
use Rattle.base.proofs.Bytes.{zeros-at}
use Rattle.base.proofs.Tab.{length-tab, get_or-tab, filled_none, filled_more, filled_all}
use Rattle.header.specs.Header.{header_size, items_of}
use Rattle.ballot.specs.Item.{ballot_of, ballot_in}
use Rattle.ballot.specs.Table.{item_below}
use Rattle.ballot.proofs.Sound.{text_of_lem}
use Rattle.clash.specs.Clash.{mask_width, ballot_at, ballots_of, clash_mask, clash_rows, RowsOf}

-- 64 zeros, none of them filled yet
pub none_made : (f : ℕ → ℕ) → FilledTo 0 64 f 0 (replicate 64 0)
none_made f = filled_none 0 64 f (replicate 64 0) (length-replicate {A = ℕ} 64 0)

-- the rows of clashes

pub rows_made : (table rows : List ℕ) (i : ℕ) → FilledTo 0 64 (clash_mask table) i rows → 64 ≤ i → rows ≡ clash_rows table
unfolding clash_rows
rows_made table rows i M l = filled_all 0 64 (clash_mask table) i rows l M

-- all rows are rows of the table
pub all_rows : {table rows : List ℕ} → rows ≡ clash_rows table → RowsOf table rows
unfolding clash_rows
all_rows {table} e =
    let long = ap length e ∙ length-tab 64 (clash_mask table) in
    record { row = λ k l. ap (λ r. get_or r k 0) e ∙ get_or-tab 64 (clash_mask table) k 0 (omega (arith, long)) }

pub row_read : {table rows : List ℕ} {k : ℕ} → RowsOf table rows → k < length rows → get_or rows k 0 ≡ clash_mask table k
row_read R l = R.row _ l

-- the ballots of the items: those of the first i, and zeros

pub record BallotsTo (table : List ℕ) (i : ℕ) (ballots : List ℕ) : Type 0 where
  pub filled : FilledTo 0 64 (ballot_at table) i ballots
  pub zeros : (k : ℕ) → i ≤ k → get_or ballots k 0 ≡ 0

pub no_ballots : (table : List ℕ) → BallotsTo table 0 (replicate 64 0)
no_ballots table = record { filled = none_made (ballot_at table); zeros = λ k l. zeros-at 64 k }

pub one_ballot : (table ballots : List ℕ) (i : ℕ) {v : ℕ} → BallotsTo table i ballots → i < 64 → v ≡ ballot_at table i
    → BallotsTo table (i + 1) (set ballots i v)
one_ballot table ballots i {v} M l v-is =
    record {
      filled = filled_more 0 64 (ballot_at table) i ballots v l v-is M.filled;
      zeros = λ k m. get_or-set_other ballots i k v 0 (λ e. omega arith) ∙ M.zeros k (omega arith);
    }

-- item k is what its pair marks out
pub ballot_here : (table : List ℕ) (k : ℕ) {v : ℕ} → k < items_of table → v ≡ ballot_in table (header_size table) k → v ≡ ballot_at table k
unfolding ballot_at
ballot_here table k l v-is = v-is ∙ ap ballot_of (sym (text_of_lem table k l))

-- there is no ballot past the items
no_item : (table : List ℕ) (k : ℕ) → items_of table ≤ k → 0 ≡ ballot_at table k
unfolding ballot_at item_below number_at
no_item table k l = rw (le-ltb k (items_of table) l)

pub ballots_made : (table ballots : List ℕ) (i n : ℕ) → BallotsTo table i ballots → n ≡ mask_width table → n ≤ i → ballots ≡ ballots_of table
unfolding ballots_of
ballots_made table ballots i n M e l =
    filled_all 0 64 (ballot_at table) 64 ballots (omega arith) (record { long = M.filled.long; each = λ k m. go k m (dec_lt k i) })
  where
    go : (k : ℕ) → k < 64 → Dec (k < i) → get_or ballots k 0 ≡ ballot_at table k
    go k m (yes q) = M.filled.each k q
    go k m (no q) = M.zeros k (omega (arith, q)) ∙ no_item table k (omega (arith, q))

pub ballot_read : (table : List ℕ) {ballots : List ℕ} {k : ℕ} → ballots ≡ ballots_of table → k < 64 → get_or ballots k 0 ≡ ballot_at table k
unfolding ballots_of
ballot_read table {ballots} {k} e l = ap (λ r. get_or r k 0) e ∙ get_or-tab 64 (ballot_at table) k 0 l
