-- The worked runs, computed by the checker from the definitions; an engine that follows the rules ends them as the rules do.
use Prim.Native.Nat.{ℕ}
use native.Mathlib.Omega.{arith}
use mathlib.Core.Bool.{Bool}
use mathlib.Core.List.{List}
use mathlib.Core.Path.{refl, sym, ◌∙◌}
use Rattle.base.specs.Refusals.{first}
use Rattle.base.specs.Below.{any, every}
use Rattle.base.specs.Bits.{bit, pack}
use Rattle.base.specs.Bytes.{number_at}
use Rattle.base.specs.Sets.{add1, add2, add3, add4, set_at}
use Rattle.base.specs.Weight.{weight}
use Rattle.base.proofs.Truth.{true_false}
use Rattle.rules.specs.Table.{Table, clashing}
use Rattle.rules.specs.Bag.{same_entry, is_in, enter, is_full, boards_in}
use Rattle.rules.specs.Form.{all_zero, formed, select, ops, later_ops, read}
use Rattle.rules.specs.Rules.{board_from, add_rows, rule, answer, next, reply, leave}
use Rattle.rules.specs.Ideal.{is_there, has_board, on_board, may_receive, may_receipt, may_publish, now_enough, move, feed, ideal}
use Rattle.rules.specs.Deed.{deed, deed_of}
use Rattle.rules.specs.Run.{Engine, backing_named, seen_with, run_from, after, answers_from}
use Rattle.rules.specs.Follows.{Follows}
use Rattle.rules.proofs.Follows.{as_ruled, answered_as_ruled}
use Rattle.edges.specs.Cases.{Worked, calls}
use Rattle.edges.specs.Worked.{Ends, Ideally, RulesEnd, RulesIdeally, WorkedRuns}
use Rattle.edges.proofs.Premise.{meets}

pub worked_runs : WorkedRuns
unfolding first any every bit pack number_at add1 add2 add3 add4 set_at weight clashing same_entry is_in enter is_full boards_in all_zero formed
    select ops later_ops read board_from add_rows rule answer next reply leave is_there has_board on_board may_receive may_receipt may_publish
    now_enough move feed ideal deed deed_of backing_named seen_with run_from after answers_from
worked_runs = record {
  case_r_lem = record { answered = refl; signed = refl; receipted = refl; published = refl };
  case_r_ideal = record { receipted = refl; published = refl; allowed = refl };
  case_r_premise = meets 1 1 1 1 1 (omega arith) (omega arith);
  two_faced_lem = record { answered = refl; signed = refl; receipted = refl; published = refl };
  two_faced_ideal = record { receipted = refl; published = refl; allowed = refl };
  two_faced_premise = meets 4 3 3 1 2 (omega arith) (omega arith);
  left_period_lem = record { answered = refl; signed = refl; receipted = refl; published = refl };
  left_period_ideal = record { receipted = refl; published = refl; allowed = refl };
  left_period_premise = meets 4 3 3 2 1 (omega arith) (omega arith);
  two_liars_lem = record { answered = refl; signed = refl; receipted = refl; published = refl };
  two_liars_ideal = record { receipted = refl; published = refl; allowed = refl };
  two_liars_unsafe = λ S. true_false (sym S.now.allowed);
  slip_two_liars_lem = record { answered = refl; signed = refl; receipted = refl; published = refl };
  slip_two_liars_twice = λ once. absurd (omega (arith, once 0 1 0 refl refl));
  odd_bytes_lem = record { answered = refl; signed = refl; receipted = refl; published = refl };
}

module _ {T : Table} {X : Type 0} {E : Engine X} {Ready : X → Type 0} (F : Follows T E Ready) {w : Worked} where
  pub follower_ends : {signers : List (ℕ × ℕ × ℕ × ℕ)} {receipts boards : List (ℕ × ℕ)} → RulesEnd T w signers receipts boards
      → Ends T E w signers receipts boards
  follower_ends R = record {
    answered = answered_as_ruled F (calls w) ∙ R.answered;
    signed = rw (as_ruled F) R.signed;
    receipted = rw (as_ruled F) R.receipted;
    published = rw (as_ruled F) R.published;
  }

  pub follower_ideally : {receipts boards : List (ℕ × ℕ)} {ok : Bool} → RulesIdeally T w receipts boards ok
      → Ideally T E w receipts boards ok
  follower_ideally R = record {
    receipted = rw (as_ruled F) R.receipted;
    published = rw (as_ruled F) R.published;
    allowed = rw (as_ruled F) R.allowed;
  }
