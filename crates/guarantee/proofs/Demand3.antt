-- Demand 3, over table bytes and lists of byte lists: for every table that is taken and has honest weight of at least t.
use Prim.Native.Nat.{ℕ, ◌≤◌}
use native.Mathlib.Omega.{arith}
use mathlib.Core.List.{List}
use mathlib.Core.Path.{◌≡◌, refl, sym}
use Rattle.base.specs.Weight.{all}
use Rattle.header.specs.Header.{head_of, threshold_of, total_weight}
use Rattle.header.specs.Quorum.{honest_weight}
use Rattle.ballot.specs.Table.{refusal}
use Rattle.clash.specs.Clash.{clash_in}
use Rattle.clash.proofs.Relation.{clash_in_sym, clash_in_self}
use Rattle.ballot.proofs.Sound.{sound}
use Rattle.rules.specs.Table.{weigh}
use Rattle.rules.specs.Follows.{Follows}
use Rattle.rules.specs.Demand3.{Premise}
use Rattle.rules.proofs.Demand3.{demand_3}
use Rattle.view.specs.Ready.{Ready}
use Rattle.engine.specs.Engine.{rules_table}
use Rattle.engine.proofs.Calls.{room_of}
use Rattle.engine.proofs.Start.{fresh_state_lem, fresh_ready}
use Rattle.engine.proofs.Steps.{step_answers, step_leaves}
use Rattle.edges.proofs.Weights.{weights_taken}
use Rattle.guarantee.specs.Demand3.{HonestEnough, by_bytes, AlwaysSafe}

module _ (table : List ℕ) (fit : refusal table ≡ 0) where
  -- the engine on bytes follows the rules, on buffers that are ready
  pub bytes_follow : Follows (rules_table table) (by_bytes table) (Ready (head_of table))
  bytes_follow = record {
    starts_ready = fresh_ready (head_of table) (room_of table (sym fit) refl);
    starts_fresh = fresh_state_lem;
    valid = λ s R. (R.good (clash_in table)).valid;
    answers = λ s R c. step_answers table fit s R c;
    leaves = λ s R c. (step_leaves table fit s R c).holds;
    stays_ready = λ s R c. (step_leaves table fit s R c).ready;
  }

  -- all peers weigh W
  pub total_weighed : weigh (rules_table table) all ≡ total_weight table
  total_weighed = (weights_taken table fit).total

  pub premise : threshold_of table ≤ honest_weight (head_of table) → Premise (rules_table table)
  premise enough = record {
    threshold = omega (arith, total_weighed, (sound table fit).threshold_rule);
    honest_enough = enough;
    symmetric = clash_in_sym table;
    never_itself = clash_in_self table;
  }

pub demand_3_on_bytes : (table : List ℕ) → HonestEnough table → AlwaysSafe table
demand_3_on_bytes table H =
    let enough : threshold_of table ≤ honest_weight (head_of table) = omega (arith, H.honest) in
    demand_3 (bytes_follow table H.taken) (premise table H.taken enough)
