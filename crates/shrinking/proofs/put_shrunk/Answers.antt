-- A refusal of the input, or what its steps are cut down to.
use mathlib.Core.Path.{sym, ap, ◌∙◌}
use borrow.Author.Rules.{rules}
use Rattle.base.specs.Refusals.{answer_of}
use Rattle.shrinking.specs.Shrunk.{steps_most}
use Rattle.trials.proofs.Flagged.{all-kept}
use Rattle.shrinking.proofs.Printing.{refused}
use Rattle.shrinking.proofs.put_shrunk.Goals as goal

pub cut-requires : goal.cut-requires
cut-requires c =
    let good = sym c.check_input.ensures ∙ ap answer_of c.in-Ok.is in
    (good, c.table_in.ensures, search rules, search rules, all-kept steps_most)

pub returns-in-Err : goal.returns-in-Err
returns-in-Err c = refused _ _ c.check_input.ensures _ c.in-Err.is c.put_refused.ensures
