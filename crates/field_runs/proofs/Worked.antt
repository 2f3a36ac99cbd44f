-- The worked run, computed by the checker from the definitions.
use mathlib.Core.Path.{refl}
use Rattle.base.specs.Refusals.{first}
use Rattle.base.specs.Below.{any}
use Rattle.base.specs.Bits.{pack}
use Rattle.base.specs.Bytes.{number_at}
use Rattle.base.specs.Sets.{add1, add2, add3, add4, set_at}
use Rattle.base.specs.Weight.{weight}
use Rattle.rules.specs.Table.{clashing}
use Rattle.rules.specs.Bag.{same_entry, is_in, enter, is_full, without_hashes, unheard}
use Rattle.rules.specs.Backed.{unbacked}
use Rattle.rules.specs.Form.{all_zero, formed, select, later_ops, ops, read}
use Rattle.rules.specs.Rules.{board_from, add_rows, rule, answer, next, reply, leave}
use Rattle.rules.specs.Run.{store_from, answers_from}
use Rattle.field_rules.specs.Rules.{stray_rows, own_rows, field_rule, handle_answer, handle}
use Rattle.field_runs.specs.Passed.{when, fetchable, passed, sends_of, sent_by, passed_call, sent_call}
use Rattle.field_rules.specs.Replies.{with_sent, box_after, box_replies, box_sends}
use Rattle.field_runs.specs.Beside.{with_message, with_reply, fed_with, room_in, messages, replies, all_sent, neither_full, always_below}
use Rattle.field_runs.specs.Worked.{WorkedBox}

pub worked_box : WorkedBox
unfolding first any pack number_at add1 add2 add3 add4 set_at weight clashing same_entry is_in enter is_full without_hashes all_zero formed
    select later_ops ops read board_from add_rows unheard unbacked rule answer next reply leave store_from answers_from stray_rows own_rows
    field_rule handle_answer handle when fetchable passed sends_of sent_by passed_call sent_call with_message with_reply with_sent box_after
    box_replies box_sends fed_with room_in messages replies all_sent neither_full always_below
worked_box = record {
  answers = refl;
  box = refl;
  peer = refl;
  sent = refl;
  roomy = refl;
  below = refl;
  heard = refl;
  cleared = refl;
}
