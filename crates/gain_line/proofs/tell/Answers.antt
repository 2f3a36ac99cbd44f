-- The length of what was written.
use Rattle.gain_line.proofs.Lines.{long}
use Rattle.gain_line.proofs.tell.Goals as goal

pub returns-clause-value : goal.returns-clause-value
returns-clause-value c = (long _ c.new-printer.ensures.at c.put_told.ensures).0

pub returns-clause-upper_bound : goal.returns-clause-upper_bound
returns-clause-upper_bound c = (long _ c.new-printer.ensures.at c.put_told.ensures).1
