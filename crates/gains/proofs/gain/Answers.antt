-- By `gain_is`.
use borrow.Author.Rules.{rules}
use Rattle.gains.proofs.Counted.{no_turns, gain_is}
use Rattle.gains.proofs.gain.Goals as goal

pub count_turns-requires : goal.count_turns-requires
count_turns-requires c = (search rules, search no_turns)

pub returns : goal.returns
returns c = search gain_is
