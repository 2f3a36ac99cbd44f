-- A pass, and passes, as loops: none tried yet, one more, all.
use Prim.Native.Nat.{ℕ, suc, ◌+◌, ◌-◌, ◌≤◌, ◌<◌}
use native.Mathlib.Omega.{arith}
use mathlib.Core.Bool.{Bool, true, false, ◌&&◌}
use mathlib.Core.Path.{◌≡◌, refl, sym, ap, subst, ◌∙◌}
use mathlib.Core.Logic.{◌⊎◌, inl, inr}
use Rattle.base.specs.Bits.{digit}
use Rattle.base.specs.Sums.{how_many}
use Rattle.base.proofs.Truth.{split, true_false, either, is_false, and_l}
use Rattle.dropping.specs.Kept.{Kept, every_step, without, lost}
use Rattle.dropping.specs.Passes.{spare, tried, tried_below, pass, drops, left}
use Rattle.dropping.specs.Claims.{EndAt, rests, goes_on}
use Rattle.dropping.specs.Trials.{Tried, Passed}
use Rattle.dropping.proofs.Passes.{without_here, without_only, lost-at, lost-found, none_dropped}
use Rattle.dropping.proofs.Ends.{fewer_left, one_end}
use Rattle.dropping.proofs.Left.{left_ends}

-- steps lost: none yet; one more

lost-none : (n : ℕ) (keep : Kept) → lost n keep keep ≡ false
lost-none n keep = is_false _ (λ e. let (k, l, was, now) = lost-found n keep keep e in split was now)

lost_more : (n : ℕ) (before now : Kept) (k : ℕ) → k < n → before k ≡ true → lost n before (without now k) ≡ true
lost_more n before now k l b = lost-at n before (without now k) k l b (without_here now k)

-- within a pass, with the steps from k on tried: what is still to try leads to its end, nothing new is kept, and it is
-- known whether a step was dropped
pub record InPass (answer : Kept → ℕ) (last : ℕ) (before now : Kept) (k : ℕ) (dropped : Bool) : Type 0 where
  pub rest : tried_below answer now k ≡ pass answer last before
  pub within : (i : ℕ) → now i ≡ true → before i ≡ true
  pub told : dropped ≡ lost last before now

module _ {answer : Kept → ℕ} {last : ℕ} {before : Kept} where
  pub pass_none : InPass answer last before before last false
  pass_none = record { rest = refl; within = λ i t. t; told = sym (lost-none last before) }

  one_tried : {k : ℕ} (j : ℕ) {was dropped : Bool} {now then : Kept} → InPass answer last before now k was → j + 1 ≡ k → k ≤ last
      → Tried answer now then j was dropped → InPass answer last before then j dropped
  unfolding tried tried_below
  one_tried {k} j {was} {dropped} {now} {then} I e l N = go (either (now j && spare answer now j))
    where
      onward : tried_below answer then j ≡ pass answer last before
      onward =
          ap (λ (m : Kept). tried_below answer m j) N.keeps ∙ ap (tried_below answer now) {x = suc j} {y = k} (omega arith) ∙ I.rest

      go : (now j && spare answer now j ≡ true) ⊎ (now j && spare answer now j ≡ false) → InPass answer last before then j dropped
      go (inl b) =
          let new : then ≡ without now j = rw b at N.keeps in
          let gone = lost_more last before now j (omega arith) (I.within j (and_l (now j) _ b)) in
          record {
            rest = onward;
            within = λ i t. I.within i (without_only now j i (sym (ap (λ (m : Kept). m i) new) ∙ t));
            told = (rw b at N.told) ∙ sym (ap (lost last before) new ∙ gone);
          }
      go (inr b) =
          let same : then ≡ now = rw b at N.keeps in
          record {
            rest = onward;
            within = λ i t. I.within i (sym (ap (λ (m : Kept). m i) same) ∙ t);
            told = (rw b at N.told) ∙ I.told ∙ sym (ap (lost last before) same);
          }

  pub pass_more : {k : ℕ} {was dropped : Bool} {now then : Kept} → InPass answer last before now k was → k ≤ last → 0 < k
      → Tried answer now then (k - 1) was dropped → InPass answer last before then (k - 1) dropped
  pass_more {k} I l some N = one_tried (k - 1) I (omega arith) (omega arith) N

  pub pass_all : {now : Kept} {k : ℕ} {dropped : Bool} → InPass answer last before now k dropped → k ≤ 0
      → Passed answer last before now dropped
  unfolding tried_below
  pass_all {now} {k} I l =
      let end : now ≡ pass answer last before = ap (tried_below answer now) {x = 0} {y = k} (omega arith) ∙ I.rest in
      record { keeps = end; told = I.told ∙ ap (lost last before) end }

-- between passes: where they go on, their end from here is their end from every step; where they have ended, this is
-- what is left
pub record Between (answer : Kept → ℕ) (last : ℕ) (keep : Kept) (again : Bool) : Type 0 where
  pub on : again ≡ true → (end : Kept) → EndAt answer last end keep → EndAt answer last end every_step
  pub done : again ≡ false → keep ≡ left answer last

pub between_none : {answer : Kept → ℕ} {last : ℕ} {keep : Kept} → keep ≡ every_step → Between answer last keep true
between_none {answer} {last} e = record {
  on = λ t end ends. subst (EndAt answer last end) e ends;
  done = λ f. true_false f;
}

pub between_more : {answer : Kept → ℕ} {last : ℕ} {before now : Kept} {was again : Bool} → Between answer last before was → was ≡ true
    → Passed answer last before now again → Between answer last now again
between_more {answer} {last} {before} {now} {was} {again} B w P = record { on = on; done = done }
  where
    on : again ≡ true → (end : Kept) → EndAt answer last end now → EndAt answer last end every_step
    on t end ends = B.on w end (goes_on (sym P.told ∙ t) (subst (EndAt answer last end) P.keeps ends))

    done : again ≡ false → now ≡ left answer last
    done f =
        let rest : drops answer last before ≡ false = sym P.told ∙ f in
        P.keeps ∙ none_dropped answer last before rest
        ∙ one_end answer last before (left answer last) every_step (B.on w before (rests rest)) (left_ends answer last)

pub between-all : {answer : Kept → ℕ} {last : ℕ} {keep : Kept} {again : Bool} → Between answer last keep again → again ≡ false
    → keep ≡ left answer last
between-all B f = B.done f

-- what is left to do: steps before the last that are kept, and a pass that is still to be made
unfoldable pub to_do : ℕ → Kept → Bool → ℕ
to_do last keep again = how_many last keep + digit again

pub less_to_do : {answer : Kept → ℕ} {last : ℕ} {before now : Kept} {was again : Bool} → was ≡ true
    → Passed answer last before now again → to_do last now again < to_do last before was
unfolding to_do
less_to_do {answer} {last} {before} {now} {was} {again} w P = rw w (go again refl)
  where
    go : (b : Bool) → again ≡ b → how_many last now + digit again < how_many last before + 1
    go true e = let fewer = fewer_left answer last before (sym P.told ∙ e) in rw (e, P.keeps) (omega arith)
    go false e = rw (e, P.keeps, none_dropped answer last before (sym P.told ∙ e)) (omega arith)
