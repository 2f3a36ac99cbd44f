-- By `put_done`: the bit set is that of the fact.
use Rattle.state.proofs.Holds.{put_done}
use Rattle.state.proofs.facts.add_fact.Goals as goal

pub returns : goal.returns
returns c = search put_done
