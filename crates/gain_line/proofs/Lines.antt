-- The line that is written, and how long it is at most: no file of 65,536 bytes has a gain of six digits.
use Prim.Native.Nat.{ℕ, ◌/◌, ◌<◌, ◌≤◌, min}
use native.Mathlib.Omega.{arith}
use mathlib.Core.Bool.{true, false, cond}
use mathlib.Core.List.{List}
use mathlib.Core.Path.{◌≡◌, subst}
use mathlib.Core.Logic.{◌⊎◌, inl, inr}
use lib.Dec.{ltb}
use lib.ListN.{length, length-append}
use borrow.Author.Tests.{lt-ltb, le-ltb, ltb-false}
use Rattle.base.proofs.Sums.{sum_most}
use Rattle.base.proofs.Tab.{length-tab}
use Rattle.base.proofs.Truth.{either}
use Rattle.text.specs.declared.Printer.{Printer}
use Rattle.text.specs.Wrote.{Put}
use Rattle.text.proofs.Digits.{field_most}
use Rattle.report.specs.Lines.{refused_line}
use Rattle.report.proofs.Sizes.{refused_most}
use Rattle.rehearsal.specs.Input.{input_most}
use Rattle.gains.specs.Gain.{is_op}
use Rattle.gains.specs.Gain.{count_of, adds, back_of, gain}
use Rattle.gains.proofs.Counting.{count_few, different_few}
use Rattle.gains.specs.File.{file_call, calls_to, file_calls}
use Rattle.gain_line.specs.Told.{gain_line, told, told_most}

gain_most : (s : List ℕ) → length s ≤ input_most → gain (file_calls s) < 100000
unfolding gain calls_to
gain_most s l =
    let n = length-tab (length s / 13) (file_call s) in
    omega (
      arith,
      n,
      count_few adds (file_calls s),
      different_few (is_op 16) (file_calls s),
      sum_most (λ j. min 8 (count_of (back_of j) (file_calls s))) 8 256 256 (omega arith) (λ j _. omega arith),
    )

line_most_lem : (n : ℕ) → n < 100000 → length (gain_line n) ≤ 11
unfolding gain_line
line_most_lem n l = simp length-append (omega (arith, field_most 4 n l))

told_most_lem : (input : List ℕ) → length (told input) ≤ told_most
unfolding told
told_most_lem input = go (either (ltb input_most (length input)))
  where
    go : (ltb input_most (length input) ≡ true) ⊎ (ltb input_most (length input) ≡ false)
        → length (cond (ltb input_most (length input)) (refused_line 15) (gain_line (gain (file_calls input)))) ≤ 11
    go (inl e) = rw e (refused_most 15 (omega arith))
    go (inr e) = rw e (line_most_lem (gain (file_calls input)) (gain_most input (ltb-false input_most (length input) e)))

module _ (input : List ℕ) {out is : Printer} where
  pub too_long : input_most < length input → Put out (refused_line 15) is → Put out (told input) is
  unfolding told
  too_long l w = rw (lt-ltb input_most (length input) l) w

  pub its_gain : {n : ℕ} → length input ≤ input_most → n ≡ gain (file_calls input) → Put out (gain_line n) is → Put out (told input) is
  unfolding told
  its_gain l e w = rw (le-ltb input_most (length input) l) (subst (λ (k : ℕ). Put out (gain_line k) is) e w)

  -- the length of what was written from the start of a buffer on
  pub long : out.at ≡ 0 → Put out (told input) is → (is.at ≡ length (told input)) × (is.at ≤ told_most)
  long e w = (omega (arith, w.wrote.place, told_most_lem input, e), omega (arith, w.wrote.place, told_most_lem input, e))
