-- The worked rehearsals, computed by the checker from the definitions.
use mathlib.Core.Path.{refl}
use Rattle.base.specs.Refusals.{first}
use Rattle.base.specs.Below.{any}
use Rattle.base.specs.Bytes.{number_at}
use Rattle.base.specs.Sets.{add1, add3, add4, set_at}
use Rattle.rules.specs.Table.{clashing}
use Rattle.rules.specs.Form.{all_zero, formed, select, ops, later_ops, read}
use Rattle.rules.specs.Rules.{rule, answer, next, reply, leave}
use Rattle.rules.specs.Run.{store_from}
use Rattle.dropping.specs.Kept.{without, lost, kept_calls}
use Rattle.dropping.specs.Passes.{spare, tried, tried_below, passes, left}
use Rattle.dropping.specs.Runs.{last_answer}
use Rattle.dropping.specs.Cases.{WorkedPasses}

pub worked_passes : WorkedPasses
unfolding first any number_at add1 add3 add4 set_at clashing all_zero formed select ops later_ops read rule answer next reply leave
    store_from without lost kept_calls spare tried tried_below passes left last_answer
worked_passes = record { refused = refl; first_pass = refl; few_left = refl; alone = refl; same_number_lem = refl }
