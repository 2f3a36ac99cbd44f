-- A state's bytes that the inner step may be run on.
use Rattle.std.specs.Prelude.{ℕ, ◌≤◌, Bool, List}
use Rattle.state.specs.Layout.{peers, periods, items}
use Rattle.state.specs.Contents.{contents, Canon}
use Rattle.header.specs.declared.Head.{Head}
use Rattle.view.specs.View.{table_of}
use Rattle.view.specs.Good.{Good}

-- the header's numbers are within the layout
pub record Room (h : Head) : Type 0 where
  pub peers : h.n ≤ peers
  pub periods : h.periods ≤ periods
  pub items : h.items ≤ items

-- the bytes are a state of the table, whatever clashes in it
pub record Ready (h : Head) (s : List ℕ) : Type 0 where
  pub room : Room h
  pub canon : Canon s
  pub good : (clash : ℕ → ℕ → Bool) → Good (table_of h clash) (contents s)
