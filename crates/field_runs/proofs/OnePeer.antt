-- One peer for the field: for every table, every honest peer of it and every engine that follows the rules; the rules themselves are one.
use Prim.Native.Nat.{ℕ}
use mathlib.Core.Bool.{true}
use mathlib.Core.Path.{◌≡◌}
use Rattle.rules.specs.Table.{Table}
use Rattle.rules.specs.Run.{Engine, by_rules}
use Rattle.rules.specs.Valid.{Valid, Peer}
use Rattle.rules.specs.Follows.{Follows}
use Rattle.rules.proofs.Follows.{rules_follow}
use Rattle.field_rules.specs.Box.{fresh_box}
use Rattle.field_runs.specs.OnePeer.{OnePeer}
use Rattle.field_runs.proofs.InStep.{in_step}
use Rattle.field_runs.proofs.Delivered.{engine_delivers}
use Rattle.field_runs.proofs.InItsName.{engine_in_its_name}
use Rattle.field_runs.proofs.AsItIs.{as_it_is}
use Rattle.field_runs.proofs.Room.{room}
use Rattle.field_runs.proofs.OnlyMessages.{as_box, only_messages}

module _ (T : Table) (j : ℕ) (peer : Peer T j) (honest : T.honest j ≡ true) where
  pub one_peer : {X : Type 0} (E : Engine X) (Ready : X → Type 0) → Follows T E Ready → OnePeer T j E Ready
  one_peer E Ready F = record {
    in_step = in_step T j peer honest E Ready F E.starts F.starts_ready F.starts_fresh;
    as_box = as_box T j peer honest E Ready F E.starts F.starts_ready F.starts_fresh;
    delivers = engine_delivers T j E Ready F;
    in_its_name = engine_in_its_name T j E Ready F;
    room = room T j E Ready F E.starts F.starts_ready fresh_box;
    only_messages = only_messages T j peer honest E Ready F E.starts F.starts_ready F.starts_fresh;
    as_it_is = λ x. as_it_is T j (E.holds x);
  }

  pub one_peer_by_rules : OnePeer T j (by_rules T) (Valid T)
  one_peer_by_rules = one_peer (by_rules T) (Valid T) (rules_follow T)
