-- An item of another ballot does not clash; of the same ballot the texts decide.
use mathlib.Core.Path.{◌∙◌}
use borrow.Author.Tests.{ne_eqb}
use Rattle.clash.proofs.Relation.{clash-other}
use Rattle.clash.proofs.Made.{ballot_read}
use Rattle.clash.proofs.rows.clashes_at.Goals as goal

pub returns-else-ballots-k : goal.returns-else-ballots-k
returns-else-ballots-k c =
    let asked = c.requires in
    ne_eqb _ _ c.if-ballots-k.false ∙ clash-other _ _ _ asked.1 (ballot_read _ asked.0 asked.2) c.if-ballots-k.false
