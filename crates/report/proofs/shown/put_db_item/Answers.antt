-- A line where there are signers.
use Rattle.report.proofs.Rows.{some_signers, no_signers}
use Rattle.report.proofs.shown.put_db_item.Goals as goal

pub returns-then-signers-gt0 : goal.returns-then-signers-gt0
returns-then-signers-gt0 c = search some_signers

pub returns-else-signers-gt0 : goal.returns-else-signers-gt0
returns-else-signers-gt0 c = search no_signers
