-- All cases that document 01 marks with ◆ hold.
use Rattle.edges.specs.Edges.{MarkedEdges}
use Rattle.edges.proofs.Table.{table_edges}
use Rattle.edges.proofs.Every.{every-table}
use Rattle.edges.proofs.Steps.{step_edges}

pub marked_edges : MarkedEdges
marked_edges = record { table = table_edges; every = every-table; steps = step_edges }
