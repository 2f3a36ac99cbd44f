-- A peer's two counters, as they are lent to close and back.
use Rattle.std.specs.Prelude.{ℕ}
use Rattle.counters.specs.declared.Counters.{Counters}
use Rattle.state.specs.declared.Number.TheVariants.{CurrentOf, ToBackOf}
use Rattle.state.specs.Contents.{Contents}

-- peer j's
abbrev pub counters_of : Contents → ℕ → Counters
counters_of c j = record { current = c.number (CurrentOf j); to_back = c.number (ToBackOf j) }
