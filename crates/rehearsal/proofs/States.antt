-- The states of a rehearsal are ready, and each step leads from one to the next.
use Prim.Native.Nat.{ℕ, zero, suc, ◌+◌, ◌≤◌, ◌<◌}
use native.Mathlib.Numerals.{add-one}
use native.Mathlib.Nat.{le_antisymm}
use native.Mathlib.Omega.{arith}
use mathlib.Core.List.{List}
use mathlib.Core.Path.{◌≡◌, refl, sym, ap, subst, subst₂, ◌∙◌}
use lib.ListN.{length}
use Rattle.header.specs.declared.Head.{Head}
use Rattle.view.specs.Ready.{Ready}
use Rattle.header.specs.Header.{head_of}
use Rattle.engine.specs.Engine.{step_answer, step_bytes}
use Rattle.engine.proofs.Calls.{room_of}
use Rattle.engine.proofs.Start.{fresh_ready}
use Rattle.engine.proofs.Steps.{step_leaves}
use Rattle.text.specs.declared.Printer.{Printer}
use Rattle.text.specs.Wrote.{Put}
use Rattle.text.proofs.Puts.{each_none, each_more, renamed}
use Rattle.report.specs.Lines.{step_line}
use Rattle.rehearsal.specs.Input.{input_most, table_in, step_count, call_at}
use Rattle.rehearsal.specs.Rehearsal.{state_at, step_at}
use Rattle.rehearsal.specs.Running.{Taken, Made, Ran, RanOne}

module _ (input : List ℕ) (T : Taken input) where
  abbrev table : List ℕ
  table = table_in input

  pub state_ready : (k : ℕ) → Ready (head_of table) (state_at input k)
  unfolding state_at
  state_ready zero = fresh_ready (head_of table) (room_of table (sym T.table) refl)
  state_ready (suc k) = (step_leaves table T.table (state_at input k) (state_ready k) (call_at input k)).ready

  pub same_long : {s t : List ℕ} (j k : ℕ) → s ≡ state_at input j → t ≡ state_at input k → length s ≡ length t
  same_long j k d e = ap length d ∙ (state_ready j).canon.long ∙ sym (ap length e ∙ (state_ready k).canon.long)

pub few_steps : {input : List ℕ} {k n : ℕ} → Taken input → n ≡ step_count input → k < n → k < input_most
unfolding step_count
few_steps T e l = omega (arith, T.few, e, l)

module _ {input table : List ℕ} {h : Head} {rows : List ℕ} (M : Made input table h rows) {s : List ℕ} (k : ℕ)
    (now : s ≡ state_at input k) where
  pub ready_now : Ready h s
  ready_now = subst₂ (λ g u. Ready g u) (sym (M.prepared.head ∙ ap head_of M.cut)) (sym now) (state_ready input M.taken k)

  -- one step, and its line
  pub one_ran : {step t : List ℕ} {was is : Printer} {a : ℕ} → step ≡ call_at input k
      → (a ≡ step_answer table s step) × (t ≡ step_bytes table s step) → Put was (step_line (k + 1) a) is
      → RanOne input k t was is
  unfolding state_at step_at
  one_ran {step} {t} {was} {is} {a} e done line =
      let same : (f : List ℕ → List ℕ → List ℕ → ℕ)
      → f table s step ≡ f (table_in input) (state_at input k) (call_at input k) = λ f. rw (M.cut, now, e) in
      let bytes : step_bytes table s step ≡ step_bytes (table_in input) (state_at input k) (call_at input k) = rw (M.cut, now, e) in
      record {
        state = done.1 ∙ bytes ∙ ap (state_at input) {x = suc k} {y = k + 1} (sym (add-one k));
        line = renamed (ap (step_line (k + 1)) (done.0 ∙ same step_answer)) line;
      }

-- the loop: none yet, one more
pub none_ran : {input s : List ℕ} {out : Printer} → s ≡ state_at input 0 → Ran input 0 s out out
none_ran e = record { state = e; lines = each_none _ }

pub more_ran : {input s t : List ℕ} {was mid is : Printer} {k : ℕ} → Ran input k s was mid → RanOne input k t mid is
    → Ran input (k + 1) t was is
more_ran {input} {s} {t} {was} {mid} {is} {k} all one = record { state = one.state; lines = each_more (step_at input) k all.lines one.line }

pub all_ran : {input s : List ℕ} {was is : Printer} {k n m : ℕ} → Ran input k s was is → k ≤ n → n ≤ k → n ≡ m → Ran input m s was is
all_ran {input} {s} {was} {is} {k} all p q e = subst (λ (i : ℕ). Ran input i s was is) (le_antisymm p q ∙ e) all
