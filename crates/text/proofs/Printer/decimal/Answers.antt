-- The kit's digits are those of `decimal`.
use mathlib.Core.Path.{◌∙◌}
use Rattle.text.proofs.Digits.{is_decimal}
use Rattle.text.proofs.Puts.{renamed}
use Rattle.text.proofs.Printer.decimal.Goals as goal

pub returns : goal.returns
returns c =
    let made = c.decimal-k.ensures in
    renamed (made.digits ∙ is_decimal _ _ made.len) c.word.ensures
