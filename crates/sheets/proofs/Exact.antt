-- By the test of a sheet, and then by the count.
use Prim.Native.Nat.{ℕ}
use mathlib.Core.Bool.{true, false}
use mathlib.Core.List.{List}
use mathlib.Core.Path.{◌≡◌, sym}
use Rattle.base.specs.Refusals.{first}
use Rattle.pairs.proofs.Texts.{text_within}
use Rattle.sheets.specs.Sheet.{pairs_at, count_on, sheet_ok}
use Rattle.sheets.specs.Found.{sheet_answer, part_at}
use Rattle.sheets.specs.Exact.{NoSheet, IsSheet, ReaderExact}
use Rattle.sheets.proofs.Passed.{passed}
use Rattle.sheets.proofs.Finding.{no_sheet, no_item, part_found, handed_part}

module _ (s : List ℕ) where
  none : sheet_ok s ≡ false → NoSheet s
  unfolding sheet_answer first
  none bad = record { answer = rw bad; item = λ k. no_sheet s k bad }

  sheet : sheet_ok s ≡ true → IsSheet s
  unfolding sheet_answer first
  sheet ok = record {
    answer = rw ok;
    item = λ k l. part_found s k ok l;
    within = text_within s pairs_at (count_on s) (passed s ok).pairs;
    text = λ k l. sym (handed_part s k (part_at s k) (part_found s k ok l));
    past = λ k l. no_item s k ok l;
  }

pub reader_exact : ReaderExact
reader_exact = record { none = none; sheet = sheet }
