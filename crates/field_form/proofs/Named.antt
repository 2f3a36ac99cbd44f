-- What bytes say: not formed, another's, or done.
use Prim.Native.Nat.{ℕ}
use native.Mathlib.Omega.{arith}
use mathlib.Core.Bool.{Bool, true, false, ◌&&◌}
use mathlib.Core.Logic.{◌⊎◌, inl, inr}
use mathlib.Core.List.{List}
use mathlib.Core.Path.{◌≡◌, refl, sym, ap, ◌∙◌}
use lib.Dec.{eqb}
use Rattle.std.specs.Prelude.{Result, Ok, Err}
use Rattle.std.specs.Result.{IsErr}
use borrow.Author.Tests.{ne_eqb}
use Rattle.base.specs.declared.refusal.Refusal.{Refusal}
use Rattle.base.specs.Refusals.{form, name, number_of, answer_of}
use Rattle.base.proofs.Refusals.{refused_ne0}
use Rattle.base.proofs.Truth.{either}
use Rattle.base.specs.Bits.{bit}
use Rattle.base.proofs.Below.{any_ext}
use Rattle.base.proofs.Bits.{bit-pack}
use Rattle.header.specs.declared.Head.{Head}
use Rattle.header.specs.Header.{items_of}
use Rattle.clash.specs.Clash.{clash_in, clash_mask, mask_width}
use Rattle.rules.specs.Table.{clashing}
use Rattle.view.specs.View.{no_clash, in_row, table_of}
use Rattle.field_rules.specs.Message.{Message, handed, taken, fetched, told}
use Rattle.field_rules.specs.Rules.{stray_rows, field_rule, handle_answer, handle}
use Rattle.field_rules.specs.MessageBytes.{to, reading, handle_reading}
use Rattle.field_state.specs.Holding.{box_of}
use Rattle.field_state.specs.Ready.{Ready, HandlesBy}
use Rattle.field_steps.specs.Sends.{Sends}
use Rattle.field_form.specs.Handling.{address, HandlesReading, SendsReading}

module _ (h : Head) (clash : ℕ → ℕ → Bool) (j : ℕ) (s : List ℕ) (m : Message) (i : ℕ) where
  turned_by : (ok : Bool) (r : Refusal) → Ready h s → number_of r ≡ address ok i j
      → HandlesReading (table_of h clash) j s s (reading ok i m) (number_of r)
  unfolding address reading handle_reading
  turned_by true r R e = go (either (eqb i j))
    where
      go : (eqb i j ≡ true) ⊎ (eqb i j ≡ false) → HandlesReading (table_of h clash) j s s (to i m) (number_of r)
      go (inl y) = absurd (refused_ne0 r (rw y at e))
      go (inr n) = record { answers = rw n (rw n at e); leaves = rw n (record { canon = R.canon; says = refl }) }
  turned_by false r R e = record { answers = e; leaves = record { canon = R.canon; says = refl } }

  mine_if : (ok : Bool) (t : List ℕ) {r : ℕ} → 0 ≡ address ok i j → HandlesBy h clash j s t m r
      → HandlesReading (table_of h clash) j s t (reading ok i m) r
  unfolding address reading handle_reading handle
  mine_if true t {r} e H = go (either (eqb i j))
    where
      go : (eqb i j ≡ true) ⊎ (eqb i j ≡ false) → HandlesReading (table_of h clash) j s t (to i m) r
      go (inl y) = record { answers = rw y H.answers; leaves = rw y H.leaves }
      go (inr n) = absurd (refused_ne0 name (sym (rw n at e)))
  mine_if false t e H = absurd (refused_ne0 form (sym e))

  -- not done: not formed, or another's
  pub turned : (z : Bool) {ok : Bool} → ok ≡ z → (q : Result (Unit {0}) Refusal) → IsErr q → Ready h s → answer_of q ≡ address ok i j
      → HandlesReading (table_of h clash) j s s (reading z i m) (answer_of q)
  turned z {ok} same (Ok a) n R e = absurd cc
  turned z {ok} same (Err r) n R e = turned_by z r R (rw same at e)

  -- done
  pub mine : (z : Bool) {ok : Bool} → ok ≡ z → (t : List ℕ) {r : ℕ} → 0 ≡ address ok i j → HandlesBy h clash j s t m r
      → HandlesReading (table_of h clash) j s t (reading z i m) r
  mine z {ok} same t e H = mine_if z t (rw same at e) H

module _ (h : Head) (j : ℕ) (s : List ℕ) (m : Message) (i : ℕ) (o : List ℕ) where
  sent_if : (ok : Bool) (t u : List ℕ) {r : ℕ} → 0 ≡ address ok i j → Sends h j s t m o u r
      → SendsReading (table_of h no_clash) j s t (reading ok i m) o u r
  unfolding address reading handle_reading
  sent_if true t u {r} e S = go (either (eqb i j))
    where
      go : (eqb i j ≡ true) ⊎ (eqb i j ≡ false) → SendsReading (table_of h no_clash) j s t (to i m) o u r
      go (inl y) = record { handles = mine_if h no_clash j s m i true t e S.handles; sends = rw y S.sends }
      go (inr n) = absurd (refused_ne0 name (sym (rw n at e)))
  sent_if false t u e S = absurd (refused_ne0 form (sym e))

  pub unsent : (z : Bool) {ok : Bool} → ok ≡ z → (q : Result (Unit {0}) Refusal) → IsErr q → Ready h s → answer_of q ≡ address ok i j
      → SendsReading (table_of h no_clash) j s s (reading z i m) o o (answer_of q)
  unsent z {ok} same (Ok a) n R e = absurd cc
  unsent z {ok} same (Err r) n R e = record
      { handles = turned h no_clash j s m i z same (Err r) n R e; sends = rw (ne_eqb (number_of r) 0 (refused_ne0 r)) }

  pub sent : (z : Bool) {ok : Bool} → ok ≡ z → (t u : List ℕ) {r : ℕ} → 0 ≡ address ok i j → Sends h j s t m o u r
      → SendsReading (table_of h no_clash) j s t (reading z i m) o u r
  sent z {ok} same t u e S = sent_if z t u (rw same at e) S

-- an item handed, whose row was read
module _ (h : Head) (table s : List ℕ) (R : Ready h s) (same : h.items ≡ items_of table) (j x row : ℕ) (read : row ≡ clash_mask table x)
  where
    row_asked : clashing (table_of h (in_row row)) (box_of s).held x ≡ clashing (table_of h (clash_in table)) (box_of s).held x
    unfolding clashing clash_mask
    row_asked =
        any_ext h.periods _ _ (λ p _.
        any_ext h.items _ _ (λ y l.
        ap (λ (b : Bool). (box_of s).held p y && b)
        (ap (λ (m : ℕ). bit m y) read ∙ bit-pack (mask_width table) (clash_in table x) y (omega (arith, l, same, R.room.items)))))

    asked_same : handle_answer (table_of h (in_row row)) j (box_of s) (handed x)
        ≡ handle_answer (table_of h (clash_in table)) j (box_of s) (handed x)
    unfolding handle_answer field_rule
    asked_same = rw row_asked

    pub of_hand : (t : List ℕ) {r : ℕ} → HandlesBy h (in_row row) j s t (handed x) r → HandlesBy h (clash_in table) j s t (handed x) r
    unfolding handle field_rule
    of_hand t H = record { answers = H.answers ∙ asked_same; leaves = rw (← asked_same) H.leaves }

-- of the others no row asks what clashes
module _ (h : Head) (clash : ℕ → ℕ → Bool) (j : ℕ) (s t : List ℕ) (r i : ℕ) (ok : Bool) where
  abbrev Too : Message → Type 0
  Too m = HandlesReading (table_of h no_clash) j s t (reading ok i m) r → HandlesReading (table_of h clash) j s t (reading ok i m) r

  too : (m : Message) → handle (table_of h no_clash) j (box_of s) m ≡ handle (table_of h clash) j (box_of s) m → Too m
  unfolding reading handle_reading
  too m e H = go ok H
    where
      go : (b : Bool) → HandlesReading (table_of h no_clash) j s t (reading b i m) r
          → HandlesReading (table_of h clash) j s t (reading b i m) r
      go false H = record { answers = H.answers; leaves = H.leaves }
      go true H = record { answers = rw (← e) H.answers; leaves = rw (← e) H.leaves }

  pub too_take : (k p x : ℕ) → Too (taken k p x)
  unfolding handle handle_answer field_rule
  too_take k p x = too (taken k p x) refl

  pub too_fetch : (k p : ℕ) (rows : ℕ → ℕ → Bool) → Too (fetched k p rows)
  unfolding handle handle_answer field_rule stray_rows
  too_fetch k p rows = too (fetched k p rows) refl

  pub too_hear : (k p B : ℕ) → Too (told k p B)
  unfolding handle handle_answer field_rule
  too_hear k p B = too (told k p B) refl
