-- The worked run, computed by the checker from the definitions.
use mathlib.Core.Path.{refl}
use Rattle.base.specs.Refusals.{first}
use Rattle.base.specs.Below.{any}
use Rattle.base.specs.Bits.{pack}
use Rattle.base.specs.Sets.{add2, add3}
use Rattle.base.specs.Weight.{weight}
use Rattle.rules.specs.Table.{clashing}
use Rattle.rules.specs.Bag.{same_entry, is_in, enter, is_full}
use Rattle.rules.specs.Rules.{board_from}
use Rattle.field_rules.specs.Rules.{stray_rows, own_rows, field_rule, handle_answer, handle}
use Rattle.field_rules.specs.Replies.{box_replies}
use Rattle.field_rules.specs.Worked.{WorkedDay}

pub worked_day : WorkedDay
unfolding first any pack add2 add3 weight clashing same_entry is_in enter is_full board_from stray_rows own_rows field_rule handle_answer
    handle box_replies
worked_day = record {
  replies = refl;
  stray_item = refl;
  stray_signer = refl;
  rows = refl;
  full = refl;
  heard = refl;
  nobody = refl;
}
