-- A peer's database held by value shows what the state has.
use Prim.Native.Nat.{ℕ, zero, suc, ◌<◌, ◌≤◌}
use native.Mathlib.Decide.{dec_lt}
use native.Mathlib.Omega.{arith}
use mathlib.Core.Bool.{false, cond}
use mathlib.Core.List.{List, [], ◌++◌}
use mathlib.Core.Path.{◌≡◌, refl, sym, ap, ap₂, ◌∙◌}
use lib.Dec.{ltb}
use lib.ListN.{get_or, replicate}
use borrow.Author.Tests.{lt-ltb, le-ltb}
use Rattle.base.proofs.Truth.{is_false}
use Rattle.header.specs.declared.Signers.{Signers}
use Rattle.header.specs.Quorum.{count_in}
use Rattle.state.specs.Layout.{periods, items}
use Rattle.state.specs.Facts.{is_spot}
use Rattle.state.specs.Contents.{Contents, contents}
use Rattle.base.specs.Tab.{tab}
use Rattle.state.proofs.Ranges.{spot_within}
use Rattle.base.proofs.Tab.{tab_ext, get_or-tab}
use Rattle.state.specs.Sets.{signers_of}
use Rattle.sets.proofs.Words.{signers-out}
use Rattle.sets.specs.Database.{row_of, database_of}
use Rattle.header.specs.declared.Head.{Head}
use Rattle.text.specs.declared.Printer.{Printer}
use Rattle.text.specs.Wrote.{Put, each}
use Rattle.text.proofs.Puts.{none, renamed}
use Rattle.report.specs.Lines.{db_line}
use Rattle.report.specs.State.{db_item, db_period}
use Rattle.report.specs.Rows.{set_line, row_item, row_lines, row_in}

-- a set: a line where it has members

module _ (j p x : ℕ) (set : Signers) {u : Printer} {n : ℕ} (e : n ≡ count_in set.0) where
  pub some_signers : {w : Printer} → 0 < n → Put u (db_line j p x n) w → Put u (set_line j p x set) w
  unfolding set_line
  some_signers some w = rw (← e, lt-ltb 0 n some) w

  pub no_signers : n ≤ 0 → Put u (set_line j p x set) u
  unfolding set_line
  no_signers few = rw (← e, le-ltb 0 n few) none

-- the row of a period, where there is room for it and where there is none

module _ (d : List (List Signers)) (p : ℕ) (r : List Signers) where
  pub row_inside : p < periods → r ≡ get_or d p [] → r ≡ row_in d p
  unfolding row_in
  row_inside l e = rw (lt-ltb p periods l) e

  pub row-outside : periods ≤ p → r ≡ replicate items (record { 0 = 0 }) → r ≡ row_in d p
  unfolding row_in
  row-outside l e = rw (le-ltb p periods l) e

-- what is shown of a row of the database is what the state has: set by set, and row by row

each_same : (f g : ℕ → List ℕ) (n : ℕ) → ((k : ℕ) → k < n → f k ≡ g k) → each f n ≡ each g n
unfolding each
each_same f g zero e = refl
each_same f g (suc n) e = ap₂ ◌++◌ (each_same f g n (λ k l. e k (omega arith))) (e n (omega arith))

set_same : (c : Contents) (j p x : ℕ) (set : Signers) → set ≡ signers_of c j p x → set_line j p x set ≡ db_item c j p x
unfolding set_line db_item
set_same c j p x set e = ap (λ (y : Signers). cond (ltb 0 (count_in y.0)) (db_line j p x (count_in y.0)) []) e

no_row : (s : List ℕ) (j p : ℕ) → periods ≤ p → replicate items (record { 0 = 0 }) ≡ row_of (contents s) j p
unfolding row_of tab
no_row s j p l =
    tab_ext items (λ i. record { 0 = 0 }) (signers_of (contents s) j p)
    (λ i m. signers-out s false j p i (sym (is_false (is_spot j p i) (λ e. let w = spot_within j p i e in omega arith))) refl)

row_same : (s : List ℕ) (j p : ℕ) → row_in (database_of (contents s) j) p ≡ row_of (contents s) j p
unfolding row_in database_of
row_same s j p = go (dec_lt p periods)
  where
    go : Dec (p < periods)
        → cond (ltb p periods) (get_or (tab periods (row_of (contents s) j)) p []) (replicate items (record { 0 = 0 })) ≡ row_of
        (contents s) j p
    go (yes l) = rw (lt-ltb p periods l) (get_or-tab periods (row_of (contents s) j) p [] l)
    go (no l) = rw (le-ltb p periods (omega arith)) (no_row s j p (omega arith))

items_same : (h : Head) (c : Contents) (j p : ℕ) → h.items ≤ items → row_lines h (row_of c j p) j p ≡ db_period h c j p
unfolding row_lines row_item row_of db_period
items_same h c j p few =
    each_same (λ x. set_line j p x (get_or (tab items (signers_of c j p)) x (record { 0 = 0 }))) (db_item c j p) h.items
    (λ x l. set_same c j p x _ (get_or-tab items (signers_of c j p) x (record { 0 = 0 }) (omega arith)))

pub period_shown : (h : Head) (s : List ℕ) (j p : ℕ) (d : List (List Signers)) (r : List Signers) {u w : Printer}
    → h.items ≤ items
    → d ≡ database_of (contents s) j → r ≡ row_in d p → Put u (row_lines h r j p) w → Put u (db_period h (contents s) j p) w
period_shown h s j p d r few e q w =
    renamed (ap (λ (x : List Signers). row_lines h x j p) (q ∙ ap (λ (x : List (List Signers)). row_in x p) e ∙ row_same s j p) ∙ items_same h
    (contents s) j p few) w
