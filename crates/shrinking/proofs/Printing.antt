-- The output by the first refusal that applies, or the numbers that are left; and how long it is at most.
use Prim.Native.Nat.{ℕ, ◌+◌, ◌-◌, ◌≤◌, ◌<◌}
use native.Mathlib.Decide.{dec_lt}
use native.Mathlib.Omega.{arith}
use mathlib.Core.Bool.{Bool, true, false, cond}
use mathlib.Core.List.{List, []}
use mathlib.Core.Logic.{◌⊎◌, inl, inr}
use mathlib.Core.Path.{◌≡◌, sym, ap, ◌∙◌}
use lib.Dec.{eqb}
use lib.ListN.{length, length-append}
use borrow.Author.Tests.{eq-eqb, ne_eqb, eqb-true, not-false}
use Rattle.std.specs.Prelude.{Result, Err}
use Rattle.base.specs.declared.refusal.Refusal.{Refusal}
use Rattle.base.specs.Refusals.{number_of, answer_of, numbered, first}
use Rattle.base.proofs.Refusals.{first_small, passed, refused_ne0}
use Rattle.base.proofs.Truth.{split, either, or_l, or_r}
use Rattle.text.specs.declared.Printer.{Printer}
use Rattle.text.specs.Wrote.{Put, each}
use Rattle.text.proofs.Digits.{decimal_most}
use Rattle.text.proofs.Puts.{renamed}
use Rattle.report.specs.Lines.{refused_line}
use Rattle.report.proofs.Sizes.{each_most, refused_most}
use Rattle.header.specs.Header.{header_size}
use Rattle.header.proofs.Fields.{header_short}
use Rattle.ballot.specs.Table.{table_refusals, refusal}
use Rattle.state.specs.Layout.{size}
use Rattle.rehearsal.specs.Input.{table_in, input_refusals, input_refusal, step_count}
use Rattle.rehearsal.specs.Running.{Taken}
use Rattle.rehearsal.proofs.Taking.{taken}
use Rattle.dropping.specs.Kept.{Kept, every_step}
use Rattle.trials.proofs.Running.{table_long}
use Rattle.shrinking.proofs.Judged.{input_passed, input_first, then_clean, then_left}
use Rattle.trials.specs.Flags.{kept, room}
use Rattle.shrinking.specs.Uncut.{Uncut}
use Rattle.trials.specs.Answers.{answer_in, steps_left}
use Rattle.shrinking.specs.Shrunk.{clean, shrink_refusal, number_line, kept_line, shrunk, steps_most, shrunk_most}

-- a rehearsal without steps

pub no_steps : (input : List ℕ) {out is : Printer} {n : ℕ} → input_refusal input ≡ 0 → n ≡ step_count input → n ≡ 0
    → Put out (refused_line 18) is → Put out (shrunk input) is
unfolding clean
no_steps input good count none w =
    renamed (then_clean input good (or_l _ _ (eq-eqb (step_count input) 0 (sym count ∙ none)))) w

-- and one with steps, by the answer of the first trial, in which every step is kept

module _ {input : List ℕ} {last : ℕ} {flags s : List ℕ} (U : Uncut input last flags s) {a : ℕ}
    (trial : a ≡ answer_in input (kept flags)) where
  pub wanted_is : a ≡ answer_in input every_step
  wanted_is = trial ∙ ap (answer_in input) U.all

  pub says_clean_lem : {out is : Printer} → a ≡ 0 → Put out (refused_line 18) is → Put out (shrunk input) is
  unfolding clean
  says_clean_lem zero w =
      let taken : eqb (answer_in input every_step) 0 ≡ true = eq-eqb _ 0 (sym wanted_is ∙ zero) in
      renamed (then_clean input U.good (or_r (eqb (step_count input) 0) _ taken)) w

  pub says_left : {keep : Kept} {out is : Printer} → (a ≡ 0 → ⊥) → step_count input ≡ last + 1 → keep ≡ steps_left input
      → Put out (each (kept_line keep) (last + 1)) is → Put out (shrunk input) is
  unfolding clean
  says_left bad count kept w =
      let some : eqb (step_count input) 0 ≡ false = ne_eqb (step_count input) 0 (λ e. omega (arith, count, e)) in
      let refuses : eqb (answer_in input every_step) 0 ≡ false = ne_eqb _ 0 (λ e. bad (wanted_is ∙ e)) in
      renamed (rw (kept, ← count) (then_left input U.good (rw (some, refuses)))) w

-- how many steps there are at most: a table has a header of six bytes at least

table_least : (table : List ℕ) → refusal table ≡ 0 → 6 ≤ length table
unfolding refusal header_size
table_least table fit = go (dec_lt (length table) 6)
  where
    go : Dec (length table < 6) → 6 ≤ length table
    go (yes l) = split (not-false _ (passed (table_refusals table) fit).0) (sym (header_short table (omega arith)))
    go (no l) = omega arith

pub steps_most_lem : (input : List ℕ) → Taken input → step_count input ≤ steps_most
unfolding step_count
steps_most_lem input T = omega (arith, T.few, T.there, table_least (table_in input) T.table, table_long T)

-- so there is a flag for each of them
pub uncut : {input flags s : List ℕ} {n : ℕ} → input_refusal input ≡ 0 → length s ≡ size → steps_most ≤ room flags → kept flags ≡ every_step
    → n ≡ step_count input → (n ≡ 0 → ⊥) → Uncut input (n - 1) flags s
uncut {input} good long rooms all count some = record {
  good = good;
  long = long;
  flagged = omega (arith, rooms, count, some, steps_most_lem input (taken input good));
  all = all;
}

-- how long the output is at most

line_most_lem : (keep : Kept) (k : ℕ) → k < steps_most → length (kept_line keep k) ≤ 5
unfolding kept_line number_line
line_most_lem keep k l = go (keep k)
  where
    go : (b : Bool) → length (cond b (number_line k) []) ≤ 5
    go true = simp length-append (omega (arith, decimal_most 3 (k + 1) (omega arith)))
    go false = omega arith

refusal_small : (input : List ℕ) → shrink_refusal input < 100
unfolding shrink_refusal input_refusal
refusal_small input = go (eqb (first (numbered (input_refusals input))) 0) (clean input)
  where
    go : (good none : Bool) → cond good (cond none 18 0) (first (numbered (input_refusals input))) < 100
    go true true = omega arith
    go true false = omega arith
    go false none = first_small (input_refusals input)

pub shrunk_most_lem : (input : List ℕ) → length (shrunk input) ≤ shrunk_most
unfolding shrunk
shrunk_most_lem input = go (either (eqb (shrink_refusal input) 0))
  where
    lines : List ℕ
    lines = each (kept_line (steps_left input)) (step_count input)

    go : (eqb (shrink_refusal input) 0 ≡ true) ⊎ (eqb (shrink_refusal input) 0 ≡ false)
        → length (cond (eqb (shrink_refusal input) 0) lines (refused_line (shrink_refusal input))) ≤ shrunk_most
    go (inl e) =
        let T = taken input (input_passed input (eqb-true _ 0 e)) in
        rw e (each_most (kept_line (steps_left input)) 5 (step_count input) steps_most (steps_most_lem input T)
        (λ k l. line_most_lem (steps_left input) k (omega (arith, steps_most_lem input T))))
    go (inr e) = rw e (omega (arith, refused_most (shrink_refusal input) (refusal_small input)))

-- an input that is refused
pub refused : (input : List ℕ) {out is : Printer} (a : Result Unit Refusal) → answer_of a ≡ input_refusal input → (r : Refusal) → a ≡ Err r
    → Put out (refused_line (number_of r)) is → Put out (shrunk input) is
refused input a judged r e w =
    let given : number_of r ≡ input_refusal input = sym (ap answer_of e) ∙ judged in
    renamed (ap refused_line given ∙ input_first input (λ z. refused_ne0 r (given ∙ z))) w

-- the length of what was written from the start of a buffer on
pub long : (input : List ℕ) {out is : Printer} → out.at ≡ 0 → Put out (shrunk input) is
    → (is.at ≡ length (shrunk input)) × (is.at ≤ shrunk_most)
long input e w =
    let small = shrunk_most_lem input in
    (omega (arith, w.wrote.place, small, e), omega (arith, w.wrote.place, small, e))
