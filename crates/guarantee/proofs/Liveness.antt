-- P3 over table bytes and lists of byte lists: for every table that is taken and has none but honest peers.
use Prim.Native.Nat.{ℕ, ◌≤◌}
use native.Mathlib.Omega.{arith}
use mathlib.Core.List.{List}
use mathlib.Core.Path.{◌≡◌, sym, ◌∙◌}
use Rattle.base.specs.Weight.{weight, all}
use Rattle.base.proofs.Weight.{weight_full}
use Rattle.header.specs.Header.{head_of, peers_of, is_honest}
use Rattle.header.specs.Quorum.{weight_of, honest_weight}
use Rattle.ballot.specs.Sound.{Sound}
use Rattle.ballot.proofs.Sound.{sound}
use Rattle.engine.specs.Engine.{rules_table}
use Rattle.liveness.specs.Close.{AllHonest}
use Rattle.liveness.proofs.Through.{always_through}
use Rattle.liveness.proofs.CanClose.{can_close, made_of_bytes}
use Rattle.guarantee.specs.Liveness.{NoneDishonest, BoardsCome}
use Rattle.guarantee.proofs.Demand3.{bytes_follow, total_weighed, premise}

pub all-honest : (table : List ℕ) → NoneDishonest table → AllHonest (rules_table table)
all-honest table N = record {
  premise = premise table N.taken (omega (arith, N.honest, S.threshold_most));
  honest = λ k h. weight_full (weight_of (head_of table)) (is_honest (head_of table)) (peers_of table) weighs_some as_all k h.0 h.1;
}
  where
    S : Sound table
    S = sound table N.taken

    weighs_some : (k : ℕ) → 1 ≤ weight_of (head_of table) k
    weighs_some k = omega (arith, S.weight-read k, S.weight_least k)

    as_all : honest_weight (head_of table) ≡ weight (weight_of (head_of table)) (peers_of table) all
    as_all = N.honest ∙ sym (total_weighed table N.taken)

pub boards_come : (table : List ℕ) → NoneDishonest table → BoardsCome table
boards_come table N =
    let F = bytes_follow table N.taken in
    let A = all-honest table N in
    let S = sound table N.taken in
    record {
      through = always_through F A;
      can_close = can_close F A;
      in_bytes = made_of_bytes F A (omega (arith, S.peers_most)) (omega (arith, S.periods_most_lem));
    }
