-- With a step of peer j's the outside gets what j sends, and nothing else: for every state, and for every j, honest or not.
use Prim.Native.Nat.{ℕ}
use mathlib.Core.Bool.{Bool, true, false, cond}
use mathlib.Core.List.{List}
use mathlib.Core.Option.{none, some}
use mathlib.Core.Path.{◌≡◌, refl, sym, ap, subst}
use mathlib.Core.Logic.{◌⊎◌, inl, inr}
use lib.Dec.{eqb}
use borrow.Author.Tests.{eqb-true}
use Rattle.base.proofs.Truth.{either, false_true, eqb_self}
use Rattle.rules.specs.declared.Step.{Step}
use Rattle.rules.specs.declared.Step.TheVariants.{Post, Hand, Sign, Take, Share, Receipt, Close, Fetch, SendHash, Hear, Back, Publish, FalseSignature, FalseShare, FalseHash, FalseBacking, Down, Up, ClearHashes}
use Rattle.rules.specs.Form.{Call}
use Rattle.std.specs.Prelude.{Some, None}
use Rattle.rules.specs.Table.{Table}
use Rattle.rules.specs.State.{State}
use Rattle.rules.specs.Form.{read}
use Rattle.rules.specs.Rules.{rule, board_by, answer, next, reply, leave}
use Rattle.rules.specs.Run.{Engine}
use Rattle.rules.specs.Follows.{Follows}
use Rattle.field_rules.specs.Message.{Sent, signature, share, hash, backing}
use Rattle.field_runs.specs.Passed.{when, sends_of, sent_by, sent_call}
use Rattle.field_runs.specs.Beside.{sends}
use Rattle.field_runs.specs.Delivered.{outside, delivered, is_of, is_call_of}

module _ (T : Table) (j : ℕ) (s : State) where
  -- where the step is not refused
  abbrev Fits : Step → Type 0
  Fits st = outside (rule T s st).effect ≡ delivered j (sends_of T j s st) (outside s)

  of_j : (f : ℕ → Step) (i : ℕ) → eqb i j ≡ true → Fits (f j) → Fits (f i)
  of_j f i e g = subst (λ (z : ℕ). Fits (f z)) (sym (eqb-true i j e)) g

  -- what it sends with a step of its own
  own_sent : (m : Sent) → delivered j (some m) (outside s) ≡ delivered j (when (eqb j j) m) (outside s)
  unfolding when
  own_sent m = ap (λ (b : Bool). delivered j (cond b (some m) none) (outside s)) (sym (eqb_self j))

  fits : (st : Step) → is_of j st ≡ true → Fits st
  unfolding rule sends_of delivered is_of when
  fits (Hand i x) e = of_j (λ i. Hand i x) i e refl
  fits (Sign i x) e = of_j (λ i. Sign i x) i e (own_sent (signature (s.current j) x))
  fits (Take i k p x) e = of_j (λ i. Take i k p x) i e refl
  fits (Share i x) e = of_j (λ i. Share i x) i e (own_sent (share (s.current j) x))
  fits (Close i) e = of_j (λ i. Close i) i e refl
  fits (Fetch i k p) e = of_j (λ i. Fetch i k p) i e refl
  fits (SendHash i p) e = of_j (λ i. SendHash i p) i e (own_sent (hash p (board_by T s j p)))
  fits (Hear i a) e = of_j (λ i. Hear i a) i e refl
  fits (Back i) e = of_j (λ i. Back i) i e (own_sent (backing (s.to_back j) (board_by T s j (s.to_back j))))
  fits (FalseSignature i p x) e = of_j (λ i. FalseSignature i p x) i e (own_sent (signature p x))
  fits (FalseShare i p x) e = of_j (λ i. FalseShare i p x) i e (own_sent (share p x))
  fits (FalseHash i p B) e = of_j (λ i. FalseHash i p B) i e (own_sent (hash p B))
  fits (FalseBacking i p B) e = of_j (λ i. FalseBacking i p B) i e (own_sent (backing p B))
  fits (Down i) e = of_j (λ i. Down i) i e refl
  fits (ClearHashes p) e = false_true e
  fits (Up i) e = of_j (λ i. Up i) i e refl
  fits (Post x) e = false_true e
  fits (Receipt p x) e = false_true e
  fits (Publish a) e = false_true e

  pub delivers : (st : Step) → is_of j st ≡ true → outside (next T s st) ≡ delivered j (sent_by T j s st (answer T s st)) (outside s)
  unfolding next sent_by delivered
  delivers st e = go (either (eqb (answer T s st) 0))
    where
      go : (eqb (answer T s st) 0 ≡ true) ⊎ (eqb (answer T s st) 0 ≡ false)
          → outside (cond (eqb (answer T s st) 0) (rule T s st).effect s) ≡ delivered j
          (cond (eqb (answer T s st) 0) (sends_of T j s st) none) (outside s)
      go (inl z) = rw z (fits st e)
      go (inr z) = rw z

-- the same of an engine that follows the rules, in every store that is ready
module _ (T : Table) (j : ℕ) {X : Type 0} (E : Engine X) (Ready : X → Type 0) (F : Follows T E Ready) where
  call_delivers : (s : State) (c : Call) → is_call_of j c ≡ true
      → outside (leave T s c) ≡ delivered j (sent_call T j s c (reply T s c)) (outside s)
  unfolding is_call_of leave sent_call reply
  call_delivers s (Some st) e = delivers T j s st e
  call_delivers s None e = false_true e

  pub engine_delivers : (x : X) → Ready x → (c : List ℕ) → is_call_of j (read c) ≡ true
      → outside (E.holds (E.leaves x c)) ≡ delivered j (sends T j E x c) (outside (E.holds x))
  engine_delivers x R c e = rw (F.leaves x R c, F.answers x R c) (call_delivers (E.holds x) (read c) e)
