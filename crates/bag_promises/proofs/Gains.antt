-- The gain of calls, of the bytes: what is shown of every engine that follows the rules, of the one on bytes.
use Prim.Native.Nat.{ℕ, ◌≤◌}
use native.Mathlib.Omega.{arith}
use mathlib.Core.List.{List}
use mathlib.Core.Path.{◌≡◌, sym, ap, ◌∙◌}
use lib.ListN.{length}
use Rattle.header.specs.Header.{head_of}
use Rattle.ballot.specs.Table.{refusal}
use Rattle.ballot.proofs.Sound.{sound}
use Rattle.rules.specs.Form.{Call}
use Rattle.std.specs.Prelude.{Some, None}
use Rattle.rules.specs.Bag.{capacity}
use Rattle.rules.specs.State.{State}
use Rattle.rules.specs.Form.{read}
use Rattle.rules.specs.Rules.{reply}
use Rattle.edges.proofs.Exact.{exact_edges}
use Rattle.growth.specs.Growth.{Sized}
use Rattle.growth.proofs.Gain as growth
use Rattle.view.specs.Ready.{Ready}
use Rattle.view.specs.View.{state_on}
use Rattle.engine.specs.Engine.{rules_table, fresh_state, step_answer}
use Rattle.engine.proofs.Start.{fresh_state_lem}
use Rattle.guarantee.specs.Demand3.{by_bytes}
use Rattle.engine.proofs.States.{ready_state}
use Rattle.engine.specs.States.{StateOf}
use Rattle.bag_promises.specs.Gains.{GainsOnBytes}
use Rattle.bag_promises.proofs.Clears.{follows}

module _ (table : List ℕ) (fit : refusal table ≡ 0) where
  sized : Sized (rules_table table)
  sized = let S = sound table fit in record { peers = omega (arith, S.peers_most); periods = S.periods_most_lem }

  full_call : (s : State) (c : Call) → reply (rules_table table) s c ≡ 13 → capacity ≤ length s.bag
  unfolding reply
  full_call s (Some st) e = (exact_edges (rules_table table) s).full_only st e
  full_call s None e = absurd (omega (arith, e))

  full : (s : List ℕ) → StateOf table s → (step : List ℕ) → step_answer table s step ≡ 13 → length (state_on s).bag ≡ capacity
  full s O step e =
      omega (
        arith,
        full_call (state_on s) (read step) (sym ((follows table fit).answers s (ready_state table fit s O) step) ∙ e),
        ((follows table fit).valid s (ready_state table fit s O)).bag.size,
      )

  pub gains_on_bytes : GainsOnBytes table
  gains_on_bytes =
      let T = rules_table table in
      let E = by_bytes table in
      let R = Ready (head_of table) in
      let F = follows table fit in
      record {
        gains = λ s O. growth.gains T sized E R F s (ready_state table fit s O);
        lengthens = λ s O. growth.lengthens T sized E R F s (ready_state table fit s O);
        room = λ s O. growth.has_room T sized E R F s (ready_state table fit s O);
        fresh-room = λ calls l. growth.has_room T sized E R F fresh_state F.starts_ready calls
            (omega (arith, l, ap (λ (z : State). length z.bag) fresh_state_lem));
        full = full;
      }
