-- A call on a state that is ready answers and leaves what the rules say, and what it leaves is ready.
use Prim.Native.Nat.{ℕ}
use mathlib.Core.Bool.{Bool, true, false, cond}
use mathlib.Core.List.{List}
use mathlib.Core.Path.{◌≡◌, refl, sym, ap, subst, ◌∙◌}
use mathlib.Core.Logic.{◌⊎◌, inl, inr}
use lib.Dec.{eqb}
use borrow.Author.Tests.{eqb-true}
use Rattle.base.proofs.Truth.{either}
use Rattle.clash.specs.Clash.{clash_in}
use Rattle.ballot.specs.Table.{refusal}
use Rattle.rules.specs.declared.Step.{Step}
use Rattle.rules.specs.Form.{Call}
use Rattle.std.specs.Prelude.{Some, None}
use Rattle.rules.specs.Table.{Table}
use Rattle.rules.specs.Form.{read}
use Rattle.rules.specs.Rules.{answer, next, reply, leave}
use Rattle.rules.proofs.Answered.{answered}
use Rattle.state.specs.Contents.{contents}
use Rattle.state.specs.Encode.{encode}
use Rattle.state.proofs.Decode.{encode_holds}
use Rattle.header.specs.declared.Head.{Head}
use Rattle.view.specs.View.{table_of, state_of}
use Rattle.view.specs.Effect.{effect_on}
use Rattle.view.specs.Good.{Good}
use Rattle.view.proofs.Meets.{meets}
use Rattle.view.proofs.Keeps.{keeps_good}
use Rattle.view.proofs.Whatever.{good_whatever}
use Rattle.view.specs.Ready.{Ready}
use Rattle.valid.proofs.Ready.{ok_of_ready}
use Rattle.header.specs.Header.{head_of}
use Rattle.engine.specs.Engine.{rules_table, leave_on, step_answer, step_bytes}
use Rattle.engine.proofs.Fits.{good_fits}

-- the bytes t are ready, and hold what the rules leave of s after the call
pub record Left (h : Head) (clash : ℕ → ℕ → Bool) (s t : List ℕ) (c : Call) : Type 0 where
  pub holds : state_of (contents t) ≡ leave (table_of h clash) (state_of (contents s)) c
  pub ready : Ready h t

module _ (h : Head) (clash : ℕ → ℕ → Bool) (s : List ℕ) (R : Ready h s) where
  abbrev T : Table
  T = table_of h clash

  -- a step that is answered 0
  taken : (st : Step) → answer T (state_of (contents s)) st ≡ 0 → Left h clash s (encode (effect_on T (contents s) st)) (Some st)
  unfolding leave next
  taken st zero =
      let clear = answered T (state_of (contents s)) st zero in
      let new = effect_on T (contents s) st in
      let good = keeps_good T (contents s) st (R.good clash) clear in
      let H = encode_holds new (good_fits h clash R.room new good) in
      record {
        holds = ap state_of H.says ∙ meets (contents s) (R.good clash).sound T st clear ∙ rw zero;
        ready = record {
          room = R.room;
          canon = H.canon;
          good = good_whatever h clash (contents (encode new)) (subst (λ c. Good T c) (sym H.says) good);
        };
      }

  -- one that is refused
  refused : (st : Step) → eqb (answer T (state_of (contents s)) st) 0 ≡ false → Left h clash s s (Some st)
  unfolding leave next
  refused st e = record { holds = rw e; ready = R }

  pub after_call : (c : Call) → Left h clash s (cond (eqb (reply T (state_of (contents s)) c) 0) (encode (leave_on T (contents s) c)) s) c
  unfolding reply leave_on leave
  after_call None = record { holds = refl; ready = R }
  after_call (Some st) = go (either (eqb (answer T (state_of (contents s)) st) 0))
    where
      go : (eqb (answer T (state_of (contents s)) st) 0 ≡ true) ⊎ (eqb (answer T (state_of (contents s)) st) 0 ≡ false)
          → Left h clash s (cond (eqb (answer T (state_of (contents s)) st) 0) (encode (effect_on T (contents s) st)) s) (Some st)
      go (inl e) = rw e (taken st (eqb-true _ 0 e))
      go (inr e) = rw e (refused st e)

module _ (table : List ℕ) (fit : refusal table ≡ 0) (s : List ℕ) (R : Ready (head_of table) s) (step : List ℕ) where
  pub step_answers : step_answer table s step ≡ reply (rules_table table) (state_of (contents s)) (read step)
  unfolding step_answer
  step_answers = rw (fit, ok_of_ready (head_of table) s R)

  pub step_leaves : Left (head_of table) (clash_in table) s (step_bytes table s step) (read step)
  unfolding step_bytes
  step_leaves = rw step_answers (after_call (head_of table) (clash_in table) s R (read step))
