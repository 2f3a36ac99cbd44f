-- Whatever the step, nothing goes out in peer j's name but what j sends: for every state, and for every j, honest or not.
use Prim.Native.Nat.{ℕ}
use mathlib.Core.Bool.{true, false, not}
use mathlib.Core.List.{List}
use mathlib.Core.Option.{none}
use mathlib.Core.Path.{◌≡◌, refl, sym, ◌∙◌, subst}
use mathlib.Core.Logic.{◌⊎◌, inl, inr}
use lib.Dec.{eqb}
use Rattle.base.proofs.Truth.{either, and_r, eqb_sym}
use Rattle.rules.specs.declared.Entry.{Entry}
use Rattle.rules.specs.declared.Entry.TheVariants.{Hash, Backing, Board}
use Rattle.rules.specs.declared.Step.{Step}
use Rattle.rules.specs.declared.Step.TheVariants.{Post, Hand, Sign, Take, Share, Receipt, Close, Fetch, SendHash, Hear, Back, Publish, FalseSignature, FalseShare, FalseHash, FalseBacking, Down, Up, ClearHashes}
use Rattle.rules.specs.Form.{Call}
use Rattle.std.specs.Prelude.{Some, None}
use Rattle.rules.specs.Table.{Table}
use Rattle.rules.specs.Bag.{same_entry, is_in, enter}
use Rattle.rules.specs.State.{State}
use Rattle.rules.specs.Form.{read}
use Rattle.rules.specs.Rules.{rule, answer, next, reply, leave}
use Rattle.rules.specs.Run.{Engine}
use Rattle.rules.specs.Follows.{Follows}
use Rattle.rules.proofs.Bag.{in_enter, in_without}
use Rattle.field_runs.specs.Passed.{when, sends_of, sent_by, sent_call}
use Rattle.field_runs.specs.Beside.{sends}
use Rattle.field_runs.specs.Delivered.{Outside, outside, delivered, is_of, InItsName}
use Rattle.field_runs.proofs.Own.{still3}
use Rattle.field_runs.proofs.Delivered.{delivers}

same_name : (j : ℕ) (o : Outside) → InItsName j o o
same_name j o = record { signed = refl; shared = refl; backings = λ p B. refl; hashes = λ p B h. h }

module _ (T : Table) (j : ℕ) (s : State) where
  -- another entry in the bag
  entered : (a e : Entry) → same_entry e a ≡ false → is_in e (enter a s.bag) ≡ is_in e s.bag
  entered a e n = in_enter e a s.bag ∙ rw n

  others_hash : (i q C : ℕ) → eqb j i ≡ false → (p B : ℕ) → same_entry (Hash j p B) (Hash i q C) ≡ false
  unfolding same_entry
  others_hash i q C e p B = rw e

  others_backing : (i q C : ℕ) → eqb j i ≡ false → (p B : ℕ) → same_entry (Backing j p B) (Backing i q C) ≡ false
  unfolding same_entry
  others_backing i q C e p B = rw e

  kinds_differ : (i q C p B : ℕ)
      → (same_entry (Backing j p B) (Hash i q C) ≡ false) × (same_entry (Hash j p B) (Backing i q C) ≡ false) ×
      (same_entry (Backing j p B) (Board q C) ≡ false) × (same_entry (Hash j p B) (Board q C) ≡ false)
  unfolding same_entry
  kinds_differ i q C p B = (refl, refl, refl, refl)

  -- a step of another's, or of nobody's, leaves what is in j's name, but for cleared hashes
  abbrev Leaves : Step → Type 0
  Leaves st = InItsName j (outside (rule T s st).effect) (outside s)

  sent_hash : (i q C : ℕ) → eqb i j ≡ false
      → InItsName j
      (record {
        posted = s.posted;
        signed = s.signed;
        shared = s.shared;
        receipted = s.receipted;
        bag = enter (Hash i q C) s.bag;
      }) (outside s)
  sent_hash i q C e = record {
    signed = refl;
    shared = refl;
    backings = λ p B. entered (Hash i q C) (Backing j p B) (kinds_differ i q C p B).0;
    hashes = λ p B h. sym (entered (Hash i q C) (Hash j p B) (others_hash i q C (eqb_sym j i ∙ e) p B)) ∙ h;
  }

  sent_backing : (i q C : ℕ) → eqb i j ≡ false
      → InItsName j
      (record {
        posted = s.posted;
        signed = s.signed;
        shared = s.shared;
        receipted = s.receipted;
        bag = enter (Backing i q C)
            s.bag;
      }) (outside s)
  sent_backing i q C e = record {
    signed = refl;
    shared = refl;
    backings = λ p B. entered (Backing i q C) (Backing j p B) (others_backing i q C (eqb_sym j i ∙ e) p B);
    hashes = λ p B h. sym (entered (Backing i q C) (Hash j p B) (kinds_differ i q C p B).1) ∙ h;
  }

  leaves : (st : Step) → is_of j st ≡ false → Leaves st
  unfolding rule is_of
  leaves (Sign i x) e = record
      { signed = still3 i j (eqb_sym j i ∙ e) (s.current i) x s.signed; shared = refl; backings = λ p B. refl; hashes = λ p B h. h }
  leaves (Share i x) e = record
      { signed = refl; shared = still3 i j (eqb_sym j i ∙ e) (s.current i) x s.shared; backings = λ p B. refl; hashes = λ p B h. h }
  leaves (SendHash i p) e = sent_hash i p _ e
  leaves (Back i) e = sent_backing i _ _ e
  leaves (FalseSignature i p x) e = record
      { signed = still3 i j (eqb_sym j i ∙ e) p x s.signed; shared = refl; backings = λ p B. refl; hashes = λ p B h. h }
  leaves (FalseShare i p x) e = record
      { signed = refl; shared = still3 i j (eqb_sym j i ∙ e) p x s.shared; backings = λ p B. refl; hashes = λ p B h. h }
  leaves (FalseHash i p B) e = sent_hash i p B e
  leaves (FalseBacking i p B) e = sent_backing i p B e
  leaves (Publish a) e = record {
    signed = refl;
    shared = refl;
    backings = λ p B. entered _ (Backing j p B) (kinds_differ 0 _ _ p B).2;
    hashes = λ p B h. sym (entered _ (Hash j p B) (kinds_differ 0 _ _ p B).3) ∙ h;
  }
  leaves (ClearHashes q) e = record {
    signed = refl;
    shared = refl;
    backings = λ p B. in_without q (Backing j p B) s.bag;
    hashes = λ p B h. and_r (not (eqb p q)) _ (sym (in_without q (Hash j p B) s.bag) ∙ h);
  }
  leaves (Post x) e = record { signed = refl; shared = refl; backings = λ p B. refl; hashes = λ p B h. h }
  leaves (Hand i x) e = same_name j (outside s)
  leaves (Take i k p x) e = same_name j (outside s)
  leaves (Receipt q x) e = record { signed = refl; shared = refl; backings = λ p B. refl; hashes = λ p B h. h }
  leaves (Close i) e = same_name j (outside s)
  leaves (Fetch i k p) e = same_name j (outside s)
  leaves (Hear i a) e = same_name j (outside s)
  leaves (Down i) e = same_name j (outside s)
  leaves (Up i) e = same_name j (outside s)

  -- and j sends nothing with it
  nothing_sent : (st : Step) → is_of j st ≡ false → sends_of T j s st ≡ none
  unfolding sends_of is_of when
  nothing_sent (Sign i x) e = rw e
  nothing_sent (Share i x) e = rw e
  nothing_sent (SendHash i p) e = rw e
  nothing_sent (Back i) e = rw e
  nothing_sent (FalseSignature i p x) e = rw e
  nothing_sent (FalseShare i p x) e = rw e
  nothing_sent (FalseHash i p B) e = rw e
  nothing_sent (FalseBacking i p B) e = rw e
  nothing_sent (Post x) e = refl
  nothing_sent (Hand i x) e = refl
  nothing_sent (Take i k p x) e = refl
  nothing_sent (Receipt p x) e = refl
  nothing_sent (Close i) e = refl
  nothing_sent (Fetch i k p) e = refl
  nothing_sent (Hear i a) e = refl
  nothing_sent (Publish a) e = refl
  nothing_sent (Down i) e = refl
  nothing_sent (Up i) e = refl
  nothing_sent (ClearHashes p) e = refl

  pub in_its_name : (st : Step) → InItsName j (outside (next T s st)) (delivered j (sent_by T j s st (answer T s st)) (outside s))
  unfolding next sent_by delivered
  in_its_name st = go (either (is_of j st)) (either (eqb (answer T s st) 0))
    where
      go : (is_of j st ≡ true) ⊎ (is_of j st ≡ false) → (eqb (answer T s st) 0 ≡ true) ⊎ (eqb (answer T s st) 0 ≡ false)
          → InItsName j (outside (next T s st)) (delivered j (sent_by T j s st (answer T s st)) (outside s))
      go (inl o) z = subst (λ (w : Outside). InItsName j (outside (next T s st)) w) (delivers T j s st o) (same_name j _)
      go (inr o) (inl z) = rw (z, nothing_sent st o) (leaves st o)
      go (inr o) (inr z) = rw z (same_name j _)

-- the same of an engine that follows the rules, in every store that is ready
module _ (T : Table) (j : ℕ) {X : Type 0} (E : Engine X) (Ready : X → Type 0) (F : Follows T E Ready) where
  call_in_its_name : (s : State) (c : Call)
      → InItsName j (outside (leave T s c)) (delivered j (sent_call T j s c (reply T s c)) (outside s))
  unfolding leave sent_call reply delivered
  call_in_its_name s (Some st) = in_its_name T j s st
  call_in_its_name s None = same_name j (outside s)

  pub engine_in_its_name : (x : X) → Ready x → (c : List ℕ)
      → InItsName j (outside (E.holds (E.leaves x c))) (delivered j (sends T j E x c) (outside (E.holds x)))
  engine_in_its_name x R c = rw (F.leaves x R c, F.answers x R c) (call_in_its_name (E.holds x) (read c))
