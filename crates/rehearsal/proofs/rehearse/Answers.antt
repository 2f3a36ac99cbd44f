-- The length of what was written.
use Rattle.rehearsal.proofs.Playing.{long}
use Rattle.rehearsal.proofs.rehearse.Goals as goal

pub returns-clause-value : goal.returns-clause-value
returns-clause-value c = (long _ _ c.new-printer.ensures.at c.put_reported.ensures.0).0

pub returns-clause-upper_bound : goal.returns-clause-upper_bound
returns-clause-upper_bound c = (long _ _ c.new-printer.ensures.at c.put_reported.ensures.0).1
