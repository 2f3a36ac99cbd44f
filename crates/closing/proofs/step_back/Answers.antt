-- Between the entry and the counter the numbers stay.
use native.Mathlib.Omega.{arith}
use Rattle.view.specs.Effect.{effect_on}
use Rattle.view.proofs.Whole.{steps}
use Rattle.closing.proofs.Entered.{same_number, to_back_fits}
use Rattle.base.specs.Refusals.{first}
use Rattle.rules.specs.Rules.{rule, answer}
use Rattle.closing.proofs.step_back.Goals as goal

pub raise_to_back-requires : goal.raise_to_back-requires
unfolding rule answer first
raise_to_back-requires c = grind (arith, same_number, to_back_fits _ _ c.args.j c.requires)

pub returns : goal.returns
unfolding rule answer first effect_on
returns c = grind (arith, steps, same_number)
