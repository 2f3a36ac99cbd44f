-- The two counters of a peer, and how they move.
use Rattle.std.specs.Prelude.{◌+◌}
use Rattle.counters.specs.declared.Counters.{Counters}

-- the open period rises by one
abbrev pub rise_current : Counters → Counters
rise_current k = record { current = k.current + 1; to_back = k.to_back }

-- the next period to back rises by one
abbrev pub rise_to_back : Counters → Counters
rise_to_back k = record { current = k.current; to_back = k.to_back + 1 }
