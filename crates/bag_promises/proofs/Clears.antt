-- Runs with clears, of the bytes: what is shown of every engine that follows the rules, of the one on bytes.
use Prim.Native.Nat.{ℕ}
use mathlib.Core.List.{List}
use mathlib.Core.Path.{◌≡◌}
use Rattle.header.specs.Header.{head_of}
use Rattle.ballot.specs.Table.{refusal}
use Rattle.rules.specs.Follows.{Follows}
use Rattle.cleared_runs.proofs.ClearedRun.{cleared-run}
use Rattle.cleared_runs.proofs.OwnRun.{own-run}
use Rattle.cleared_runs.proofs.GoneRun.{gone_run}
use Rattle.view.specs.Ready.{Ready}
use Rattle.engine.specs.Engine.{rules_table}
use Rattle.engine.proofs.States.{ready_state}
use Rattle.guarantee.specs.Demand3.{by_bytes}
use Rattle.guarantee.proofs.Demand3.{bytes_follow}
use Rattle.bag_promises.specs.Clears.{ClearsOnBytes}

module _ (table : List ℕ) (fit : refusal table ≡ 0) where
  abbrev pub follows : Follows (rules_table table) (by_bytes table) (Ready (head_of table))
  follows = bytes_follow table fit

  pub clears_on_bytes : ClearsOnBytes table
  clears_on_bytes = record {
    as_before = λ s O. cleared-run (rules_table table) (by_bytes table) (Ready (head_of table)) follows s (ready_state table fit s O);
    exactly = λ s O. gone_run (rules_table table) (by_bytes table) (Ready (head_of table)) follows s (ready_state table fit s O);
    as_own = λ s O. own-run (rules_table table) (by_bytes table) (Ready (head_of table)) follows s (ready_state table fit s O);
  }
