-- The marked edges about steps.
use Prim.Native.Nat.{◌+◌, ◌<◌}
use native.Mathlib.Omega.{arith}
use borrow.Author.Tests.{lt-ltb}
use Rattle.rules.specs.Table.{weigh}
use Rattle.rules.specs.Rules.{rule, answer}
use Rattle.edges.specs.Steps.{StepEdges}
use Rattle.edges.proofs.Tests.{row}
use Rattle.edges.proofs.Given.{gave_none}
use Rattle.edges.proofs.Hand.{second_hand, second_hand_later}

pub step_edges : StepEdges
unfolding answer rule
step_edges = record {
  take_ahead = λ T s j k x a b c d. let beyond : s.current j < s.current j + 1 = omega arith in search (row, lt-ltb) depth 9;
  share_short = λ T s j x a b c d e.
      let none = gave_none T s j x d in
      let few : weigh T (s.db j (s.current j) x) < T.t = omega arith in
      search row depth 9;
  second_hand = λ T s j x ir zero. second_hand T s j x ir zero;
  second_hand_later = λ T s j x between ir sy zero. second_hand_later T s j x ir zero sy between;
}
