-- Bytes that are not 13 are no step; of 13 bytes the six fields are read, and the op finds its step among them.
use borrow.Author.Tests.{eq-eqb, ne_eqb}
use Rattle.rules.specs.Form.{read}
use Rattle.form.proofs.read_step.Goals as goal

pub returns-then-s-ne13 : goal.returns-then-s-ne13
unfolding read
returns-then-s-ne13 c = rw (ne_eqb _ 13 c.if-s-ne13.true)

pub returns : goal.returns
unfolding read
returns c = rw (eq-eqb _ 13 c.if-s-ne13.false) (rw c.fields_of.ensures at c.read_op.ensures)
