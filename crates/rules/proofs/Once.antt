-- An honest peer's receipt shares on one item are of one period, for every table; and where at least t peers are honest
-- no item has receipts in two periods.
use Prim.Native.Nat.{ℕ, ◌≤◌, ◌<◌}
use native.Mathlib.Omega.{arith}
use native.Mathlib.Decide.{dec_lt}
use mathlib.Core.Bool.{Bool, true, false}
use mathlib.Core.List.{List}
use mathlib.Core.Path.{◌≡◌, refl, sym, ◌∙◌}
use mathlib.Core.Logic.{◌⊎◌, inl, inr}
use Rattle.base.specs.Sets.{add3}
use Rattle.base.proofs.Truth.{split, false_true}
use Rattle.base.proofs.Below.{any_at}
use Rattle.base.proofs.Sets.{grow3, rises}
use Rattle.rules.specs.declared.Step.{Step}
use Rattle.rules.specs.declared.Step.TheVariants.{Share, Close, FalseShare}
use Rattle.rules.specs.Table.{Table}
use Rattle.rules.specs.State.{State, fresh}
use Rattle.rules.specs.Rules.{rule, given_before}
use Rattle.rules.specs.Run.{Engine, after, run}
use Rattle.rules.specs.Follows.{Follows}
use Rattle.rules.specs.Demand3.{Premise}
use Rattle.rules.specs.Once.{SharedOnce, ReceiptedOnce}
use Rattle.rules.proofs.Answered.{Clear}
use Rattle.rules.proofs.Each.{each}
use Rattle.rules.proofs.Quorum.{quorums_meet}
use Rattle.rules.proofs.Runs.{beside_run}
use Rattle.rules.proofs.Always.{invariant}
use Rattle.rules.proofs.Follows.{as_ruled}

-- what is in a set with one member more is that member, or was there
cases3 : (a b c : ℕ) (S : ℕ → ℕ → ℕ → Bool) (k q y : ℕ) → add3 a b c S k q y ≡ true → ((k ≡ a) × (q ≡ b) × (y ≡ c)) ⊎ (S k q y ≡ true)
cases3 a b c S =
    grow3 {P = λ k q y. ((k ≡ a) × (q ≡ b) × (y ≡ c)) ⊎ (S k q y ≡ true)} a b c S (inl (refl, refl, refl)) (λ k q y e. inr e)

module _ (T : Table) where
  -- an honest peer shared only in periods that it opened, and each item in one of them
  record Given (shared : ℕ → ℕ → ℕ → Bool) (current : ℕ → ℕ) : Type 0 where
    opened : (j p x : ℕ) → shared j p x ≡ true → T.honest j ≡ true → p ≤ current j
    once : SharedOnce T shared

  abbrev GivenIn : State → Type 0
  GivenIn s = Given s.shared s.current

  -- a share more: an honest peer's is of an opened period, the only one in which it shared the item
  more : {shared : ℕ → ℕ → ℕ → Bool} {current : ℕ → ℕ} → Given shared current → (j p x : ℕ) → (T.honest j ≡ true → p ≤ current j)
      → (T.honest j ≡ true → (q : ℕ) → shared j q x ≡ true → p ≡ q) → Given (add3 j p x shared) current
  more {shared} G j p x within only = record {
    opened = grow3 j p x shared within G.opened;
    once = λ k q r y h a b. alike k q r y h (cases3 j p x shared k q y a) (cases3 j p x shared k r y b);
  }
    where
      -- the new share is of the period of one that was there
      beside : (k q y : ℕ) → k ≡ j → y ≡ x → T.honest k ≡ true → shared k q y ≡ true → p ≡ q
      beside k q y u v h a = only (rw u at h) q (rw (u, v) at a)

      alike : (k q r y : ℕ) → T.honest k ≡ true → ((k ≡ j) × (q ≡ p) × (y ≡ x)) ⊎ (shared k q y ≡ true)
          → ((k ≡ j) × (r ≡ p) × (y ≡ x)) ⊎ (shared k r y ≡ true) → q ≡ r
      alike k q r y h (inl (u, e, v)) (inl (_, f, _)) = e ∙ sym f
      alike k q r y h (inl (u, e, v)) (inr b) = e ∙ beside k r y u v h b
      alike k q r y h (inr a) (inl (u, f, v)) = sym (beside k q y u v h a) ∙ sym f
      alike k q r y h (inr a) (inr b) = G.once k q r y h a b

  -- a share that is not refused: the peer shared the item in no period before its open one, and in none after it
  only_open : (s : State) → GivenIn s → (j x : ℕ) → given_before (s.shared j) (s.current j) x ≡ false → T.honest j ≡ true
      → (q : ℕ) → s.shared j q x ≡ true → s.current j ≡ q
  only_open s G j x none h q a = go (dec_lt q (s.current j))
    where
      go : Dec (q < s.current j) → s.current j ≡ q
      go (yes l) = split (any_at _ q _ (omega (arith, l)) a) none
      go (no l) = omega (arith, G.opened j q x a h)

  given_share : (s : State) → GivenIn s → (j x : ℕ) → Clear T s (Share j x) → GivenIn (rule T s (Share j x)).effect
  unfolding rule
  given_share s G j x c = more G j (s.current j) x (λ h. omega arith) (only_open s G j x (search))

  given_false : (s : State) → GivenIn s → (j p x : ℕ) → Clear T s (FalseShare j p x) → GivenIn (rule T s (FalseShare j p x)).effect
  unfolding rule
  given_false s G j p x c = more G j p x (λ h. split h (search)) (λ h. split h (search))

  given_close : (s : State) → GivenIn s → (j : ℕ) → Clear T s (Close j) → GivenIn (rule T s (Close j)).effect
  unfolding rule
  given_close s G j c = record {
    opened = λ k p x a h. omega (arith, G.opened k p x a h, rises j s.current k);
    once = G.once;
  }

  given_step : (s : State) → GivenIn s → (st : Step) → Clear T s st → GivenIn (rule T s st).effect
  unfolding rule
  given_step s G = each (λ st. Clear T s st → GivenIn (rule T s st).effect)
      (search (given_share s G, given_false s G, given_close s G))

  begins : GivenIn fresh
  begins = record { opened = λ j p x a h. false_true a; once = λ j p q x h a b. false_true a }

  shared_run : (calls : List (List ℕ)) → SharedOnce T (run T calls).engine.shared
  shared_run calls = (beside_run T (λ s i. GivenIn s) (λ s i G st c. given_step s G st c) begins calls).once

  -- two receipts have an honest sharer in common, whose shares are of one period
  receipted_run : Premise T → (calls : List (List ℕ)) → ReceiptedOnce (run T calls).engine.receipted
  receipted_run Q calls p q x a b =
      let s = (run T calls).engine in
      let sharers = (invariant T Q calls).receipts in
      let (k, (h, u, v)) = quorums_meet T Q (λ k. s.shared k p x) (λ k. s.shared k q x) (sharers p x a) (sharers q x b) in
      shared_run calls k p q x h u v

-- of every engine that follows the rules, after any list of calls
module _ {T : Table} {X : Type 0} {E : Engine X} {Ready : X → Type 0} (F : Follows T E Ready) (calls : List (List ℕ)) where
  pub shared_once : SharedOnce T (after E calls).engine.shared
  shared_once = rw (as_ruled F) (shared_run T calls)

  pub receipted_once : Premise T → ReceiptedOnce (after E calls).engine.receipted
  receipted_once Q = rw (as_ruled F) (receipted_run T Q calls)
