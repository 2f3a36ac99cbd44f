-- The part of the input that starts after the table and the steps before.
use Rattle.rehearsal.specs.Input.{call_at}
use Rattle.rehearsal.proofs.input.call_at.Goals as goal

pub returns : goal.returns
unfolding call_at
returns c = rw c.requires.0 at c.part_of.ensures
