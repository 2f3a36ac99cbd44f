-- The first line, the steps and what they leave, by `whole_report`.
use Rattle.rehearsal.proofs.Playing.{showable, whole_report}
use Rattle.rehearsal.proofs.run.Rehearsal.tell.Goals as goal

pub put_state-requires : goal.put_state-requires
put_state-requires c = showable c.args.self.now.made c.run.ensures

pub returns : goal.returns
returns c =
    whole_report c.args.self.now.made c.run.ensures c.honest_count.ensures c.put_head.ensures c.put_state.ensures
