-- All cases that document 01 marks with ◆, in one place.
use Rattle.edges.specs.Marked.{TableEdges}
use Rattle.edges.specs.Every.{EveryTable}
use Rattle.edges.specs.Steps.{StepEdges}

pub record MarkedEdges : Type 0 where
  -- thresholds, lengths of votes and audits, clashes
  pub table : TableEdges
  -- the same of every table, text and two items
  pub every : EveryTable
  -- take for p + 1, share with t - 1 signers, second hand of an item
  pub steps : StepEdges
