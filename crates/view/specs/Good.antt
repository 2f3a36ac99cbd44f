-- Good contents: what row 14 asks of what the bytes say.
-- It is that the state of the rules is valid, and what only bytes can break.
use Rattle.std.specs.Prelude.{ℕ, ◌<◌, true, ◌≡◌}
use Rattle.rules.specs.Table.{Table}
use Rattle.rules.specs.Bag.{is_hash, entry_at}
use Rattle.rules.specs.Valid.{Valid}
use Rattle.state.specs.declared.Fact.TheVariants.{Heard}
use Rattle.state.specs.declared.Number.TheVariants.{DownOf}
use Rattle.state.specs.Contents.{Contents}
use Rattle.view.specs.View.{state_of}

-- what only the bytes can break: every heard number is a hash entry's, and a flag is 0 or 1
pub record Sound (c : Contents) : Type 0 where
  pub hears : (j e : ℕ) → c.has (Heard j e) ≡ true → is_hash (entry_at c.bag e) ≡ true
  pub flags : (j : ℕ) → c.number (DownOf j) < 2

pub record Good (T : Table) (c : Contents) : Type 0 where
  pub valid : Valid T (state_of c)
  pub sound : Sound c
