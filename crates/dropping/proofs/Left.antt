-- All that is promised of the steps that are left, of every rehearsal by any engine.
use Prim.Native.Nat.{ℕ, ◌≤◌}
use native.Mathlib.Omega.{arith}
use mathlib.Core.Bool.{true, false}
use mathlib.Core.List.{List}
use mathlib.Core.Path.{◌≡◌, refl, ◌∙◌}
use Rattle.base.proofs.Sums.{how_many_most}
use Rattle.rules.specs.Run.{Engine}
use Rattle.dropping.specs.Kept.{Kept, every_step}
use Rattle.dropping.specs.Passes.{pass, drops, passes, left}
use Rattle.dropping.specs.Runs.{last_answer}
use Rattle.dropping.specs.Claims.{EndAt, Settled, Minimal, Shrinks}
use Rattle.dropping.proofs.Passes.{above_stays, Same, pass_same, none_dropped, all-needed}
use Rattle.dropping.proofs.Ends.{passes_end, end_rests, one_end, end_keeps}
use Rattle.dropping.proofs.Replay.{replays}
use Rattle.dropping.proofs.Refused.{all_taken}

module _ (answer : Kept → ℕ) (last : ℕ) where
  enough : (most : ℕ) → last ≤ most → EndAt answer last (passes answer last most every_step) every_step
  enough most l = passes_end answer last most every_step (omega (arith, how_many_most last every_step))

  pub left_ends : EndAt answer last (left answer last) every_step
  unfolding left
  left_ends = enough _ (omega arith)

  rest : drops answer last (left answer last) ≡ false
  rest = end_rests answer last (left answer last) every_step left_ends

  -- what every step has and each pass keeps, what is left has
  left_keeps : (C : Kept → Type 0) → ((keep : Kept) → C keep → C (pass answer last keep))
      → C every_step → C (left answer last)
  left_keeps C step c = end_keeps answer last C step (left answer last) every_step left_ends c

  keeps_last : left answer last last ≡ true
  keeps_last = left_keeps (λ keep. keep last ≡ true) (λ keep e. above_stays answer _ keep last (omega arith) ∙ e) refl

  pub settled : Settled answer last (left answer last)
  settled = record {
    ends = left_ends;
    none_dropped = none_dropped answer last (left answer last) rest;
    no_bound = λ most l.
        one_end answer last (passes answer last most every_step) (left answer last) every_step (enough most l) left_ends;
  }

  pub minimal : Minimal answer last (left answer last)
  minimal = record {
    keeps_last = keeps_last;
    same_answer = left_keeps (Same answer) (pass_same answer last) refl;
    needed = all-needed answer last (left answer last) rest;
  }

pub shrinks : {X : Type 0} (E : Engine X) (call : ℕ → List ℕ) (last : ℕ) → Shrinks E call last
shrinks E call last =
    let answer = last_answer E call last in
    record {
      settled = settled answer last;
      minimal = minimal answer last;
      replayed = replays E call last (left answer last) (minimal answer last).keeps_last;
      all_taken = λ stays. all_taken E stays call last (left answer last) (minimal answer last);
    }
