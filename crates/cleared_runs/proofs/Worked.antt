-- The worked run with clears, computed: the definitions say what they should.
use mathlib.Core.Path.{refl}
use Rattle.base.specs.Refusals.{first}
use Rattle.base.specs.Below.{any}
use Rattle.base.specs.Bits.{bit, pack}
use Rattle.base.specs.Bytes.{number_at, same_bytes}
use Rattle.base.specs.Sets.{add1, add2, add3, add4, set_at}
use Rattle.base.specs.Sums.{sum}
use Rattle.base.specs.Weight.{weight}
use Rattle.rules.specs.Table.{clashing}
use Rattle.rules.specs.Bag.{same_entry, is_in, place_in, enter, is_full, without_hashes, unheard}
use Rattle.rules.specs.Form.{all_zero, formed, select, later_ops, ops, read}
use Rattle.rules.specs.Backed.{unbacked}
use Rattle.rules.specs.Rules.{board_from, rule, answer, next, reply, leave}
use Rattle.rules.specs.Run.{store_from, answers_from}
use Rattle.gains.specs.Gain.{is_op, count_of, is_among, different_of, adds, back_of, gain}
use Rattle.growth.specs.Growth.{never_full}
use Rattle.cleared_runs.specs.Cleared.{clears, with_call, cleared_from, uncleared, renumber, translated, translated_from}
use Rattle.cleared_runs.specs.Gone.{gone_with, gone_call, gone_from}
use Rattle.cleared_runs.specs.Worked.{WorkedClears}

pub worked_clears : WorkedClears
unfolding first any bit pack number_at same_bytes add1 add2 add3 add4 set_at weight clashing same_entry is_in enter is_full without_hashes
    all_zero formed select later_ops ops read is_op board_from unheard unbacked rule answer next reply leave store_from answers_from never_full
    clears with_call cleared_from uncleared place_in renumber translated translated_from gone_with gone_call gone_from count_of is_among
    different_of sum adds back_of gain
worked_clears = record {
  before = refl;
  never_full_lem = refl;
  after = refl;
  bag_before = refl;
  bag_after = refl;
  periods = (refl, refl);
  gone = (refl, refl);
  gains = refl;
}
