-- The pairs of a table, and the reader that stands over its bytes.
use Rattle.std.specs.Prelude.{ℕ, List}
use Rattle.std.specs.Borrow.{Bor}
use Rattle.ballot.specs.declared.reader.Reader.{Reader}
use Rattle.pairs.specs.declared.Pairs.{Pairs}
use Rattle.header.specs.Header.{header_size, items_of}

-- the pairs of a table: after its header, and as many as its items
abbrev pub pairs_over : Bor (List ℕ) → Pairs
pairs_over table = record { bytes = table; at = header_size table.now; count = items_of table.now }

-- the reader over a table: the table itself, and the number of its items
abbrev pub reader_over : Bor (List ℕ) → Reader
reader_over table = record { table = table; items = items_of table.now }
