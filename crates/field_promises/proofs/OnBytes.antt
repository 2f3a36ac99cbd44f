-- One peer for the field, of the engine on bytes: for every table that is taken and every honest peer of it.
use Prim.Native.Nat.{ℕ}
use mathlib.Core.Bool.{true}
use mathlib.Core.List.{List}
use mathlib.Core.Path.{◌≡◌}
use Rattle.header.specs.Header.{head_of}
use Rattle.ballot.specs.Table.{refusal}
use Rattle.rules.specs.Valid.{Peer}
use Rattle.view.specs.Ready.{Ready}
use Rattle.engine.specs.Engine.{rules_table}
use Rattle.guarantee.specs.Demand3.{by_bytes}
use Rattle.guarantee.proofs.Demand3.{bytes_follow}
use Rattle.field_runs.specs.OnePeer.{OnePeer}
use Rattle.field_runs.proofs.OnePeer.{one_peer}

pub one_peer_on_bytes : (table : List ℕ) → refusal table ≡ 0 → (j : ℕ) → Peer (rules_table table) j
    → (rules_table table).honest j ≡ true → OnePeer (rules_table table) j (by_bytes table) (Ready (head_of table))
one_peer_on_bytes table fit j peer honest =
    one_peer (rules_table table) j peer honest (by_bytes table) (Ready (head_of table)) (bytes_follow table fit)
