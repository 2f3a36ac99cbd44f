-- The bytes of a call of j's that points at nothing outside are the message as they are: hand, take, and the acts of
-- the peer's own.
use Prim.Native.Nat.{ℕ, ◌<◌}
use mathlib.Core.Bool.{Bool, true, false}
use mathlib.Core.List.{List}
use mathlib.Core.Option.{some}
use mathlib.Core.Path.{◌≡◌, refl, sym, ap, ◌∙◌}
use lib.Dec.{eqb}
use borrow.Author.Tests.{eqb-true}
use Rattle.base.specs.Bytes.{byte_at}
use Rattle.base.proofs.Truth.{split, and_l}
use Rattle.rules.specs.declared.Step.{Step}
use Rattle.rules.specs.declared.Step.TheVariants.{Post, Hand, Sign, Take, Share, Receipt, Close, Fetch, SendHash, Hear, Back, Publish, FalseSignature, FalseShare, FalseHash, FalseBacking, Down, Up, ClearHashes}
use Rattle.rules.specs.Form.{Call}
use Rattle.std.specs.Prelude.{Some, None}
use Rattle.rules.specs.Table.{Table}
use Rattle.rules.specs.State.{State}
use Rattle.rules.specs.Form.{read}
use Rattle.form.specs.Written.{written}
use Rattle.form.proofs.Written.{both_ways}
use Rattle.field_rules.specs.Message.{Message, handed, taken, fetched, signs, shares, closes, hashes, backs, falls, rises}
use Rattle.field_rules.specs.MessageBytes.{message_bytes, is_filled}
use Rattle.field_runs.specs.Passed.{when, passed, passed_call}
use Rattle.field_runs.proofs.Passing.{none_some, when_some}

module _ (T : Table) (j : ℕ) (s : State) where
  -- the message m has the bytes of the step, where the step names j
  own-bytes : (f : ℕ → Step) (i : ℕ) (t : Bool) (n m : Message) → when t n ≡ some m → (t ≡ true → eqb i j ≡ true)
      → message_bytes j n ≡ written (f j) → message_bytes j m ≡ written (f i)
  own-bytes f i t n m e names is =
      let w = when_some t n m e in
      ap (message_bytes j) (sym w.1) ∙ is ∙ ap (λ (z : ℕ). written (f z)) (sym (eqb-true i j (names w.0)))

  -- what is filled in is none of these
  is_filled_lem : (t : Bool) (n m : Message) → when t n ≡ some m → is_filled n ≡ true → is_filled m ≡ false → {A : Type 0} → A
  is_filled_lem t n m e is not-m = split (ap is_filled (sym (when_some t n m e).1) ∙ is) not-m

  step_as_it_is : (st : Step) (m : Message) → passed T j s st ≡ some m → is_filled m ≡ false → message_bytes j m ≡ written st
  unfolding passed message_bytes is_filled
  step_as_it_is (Hand i x) m e n = own-bytes (λ i. Hand i x) i _ (handed x) m e (and_l (eqb i j) _) refl
  step_as_it_is (Take i k p x) m e n = own-bytes (λ i. Take i k p x) i _ (taken k p x) m e (and_l (eqb i j) _) refl
  step_as_it_is (Sign i x) m e n = own-bytes (λ i. Sign i x) i _ (signs x) m e (λ t. t) refl
  step_as_it_is (Share i x) m e n = own-bytes (λ i. Share i x) i _ (shares x) m e (λ t. t) refl
  step_as_it_is (Close i) m e n = own-bytes Close i _ closes m e (λ t. t) refl
  step_as_it_is (SendHash i p) m e n = own-bytes (λ i. SendHash i p) i _ (hashes p) m e (λ t. t) refl
  step_as_it_is (Back i) m e n = own-bytes Back i _ backs m e (λ t. t) refl
  step_as_it_is (Down i) m e n = own-bytes Down i _ falls m e (λ t. t) refl
  step_as_it_is (Up i) m e n = own-bytes Up i _ rises m e (λ t. t) refl
  step_as_it_is (Fetch i k p) m e n = is_filled_lem _ (fetched k p (s.db k p)) m e refl n
  step_as_it_is (Hear i a) m e n = is_filled_lem _ _ m e refl n
  step_as_it_is (Post x) m e n = absurd (none_some m e)
  step_as_it_is (Receipt p x) m e n = absurd (none_some m e)
  step_as_it_is (Publish a) m e n = absurd (none_some m e)
  step_as_it_is (FalseSignature i p x) m e n = absurd (none_some m e)
  step_as_it_is (FalseShare i p x) m e n = absurd (none_some m e)
  step_as_it_is (FalseHash i p B) m e n = absurd (none_some m e)
  step_as_it_is (FalseBacking i p B) m e n = absurd (none_some m e)
  step_as_it_is (ClearHashes p) m e n = absurd (none_some m e)

  -- of the bytes of a call
  pub as_it_is : (c : List ℕ) → ((i : ℕ) → byte_at c i < 256) → (m : Message) → passed_call T j s (read c) ≡ some m
      → is_filled m ≡ false → message_bytes j m ≡ c
  unfolding passed_call
  as_it_is c small m e n = go (read c) refl e
    where
      go : (d : Call) → read c ≡ d → passed_call T j s d ≡ some m → message_bytes j m ≡ c
      go (Some st) r e = step_as_it_is st m e n ∙ sym ((both_ways c small st).writes r).0
      go None r e = absurd (none_some m e)
