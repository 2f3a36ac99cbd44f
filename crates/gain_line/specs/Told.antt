-- What the program `gain` writes.
use Rattle.std.specs.Prelude.{ℕ, cond, List, [], ◌∷◌, ◌++◌, ltb, length}
use Rattle.text.specs.Decimal.{field}
use Rattle.report.specs.Words.{newline}
use Rattle.report.specs.Lines.{refused_line}
use Rattle.rehearsal.specs.Input.{input_most}
use Rattle.gains.specs.Gain.{gain}
use Rattle.gains.specs.File.{file_calls}

-- the word "gain", and the number
unfoldable pub gain_line : ℕ → List ℕ
gain_line n = (103 ∷ 97 ∷ 105 ∷ 110 ∷ []) ++ field n ++ newline

-- the whole output: that line, or 15 for an input of more than 65,536 bytes
unfoldable pub told : List ℕ → List ℕ
told input = cond (ltb input_most (length input)) (refused_line 15) (gain_line (gain (file_calls input)))

-- no output is longer
abbrev pub told_most : ℕ
told_most = 11
