-- A message refused, or done; and what is sent with it.
use Prim.Native.Nat.{ℕ}
use mathlib.Core.Bool.{Bool}
use mathlib.Core.List.{List}
use mathlib.Core.Path.{◌≡◌, refl}
use Rattle.std.specs.Prelude.{Result, Ok, Err}
use Rattle.std.specs.Result.{IsErr}
use borrow.Author.Tests.{ne_eqb}
use Rattle.base.specs.declared.refusal.Refusal.{Refusal}
use Rattle.base.specs.Refusals.{number_of, answer_of}
use Rattle.base.proofs.Refusals.{refused_ne0}
use Rattle.header.specs.declared.Head.{Head}
use Rattle.view.specs.View.{no_clash, table_of}
use Rattle.field_rules.specs.Box.{Box}
use Rattle.field_rules.specs.Message.{Message}
use Rattle.field_rules.specs.Rules.{field_rule, handle}
use Rattle.field_rules.specs.MessageBytes.{sent_bytes}
use Rattle.field_state.specs.Holding.{box_of, Holds}
use Rattle.field_state.specs.Ready.{answer_by, Ready, HandlesBy}
use Rattle.field_steps.specs.Sends.{Sends}

module _ (h : Head) (clash : ℕ → ℕ → Bool) (j : ℕ) (s : List ℕ) (m : Message) where
  pub refused : (q : Result (Unit {0}) Refusal) → IsErr q → Ready h s → answer_of q ≡ answer_by h clash j s m
      → HandlesBy h clash j s s m (answer_of q)
  unfolding handle
  refused (Ok a) n R e = absurd (cc)
  refused (Err r) n R e = record { answers = e; leaves = rw (← e, ne_eqb (number_of r) 0 (refused_ne0 r)) (record { canon = R.canon; says = refl }) }

  pub done : (t : List ℕ) (b : Box) → 0 ≡ answer_by h clash j s m → Holds t b → b ≡ (field_rule (table_of h clash) j (box_of s) m).effect
      → HandlesBy h clash j s t m 0
  unfolding handle
  done t b e held f = record { answers = e; leaves = rw (← e, ← f) held }

module _ (h : Head) (j : ℕ) (s : List ℕ) (m : Message) (o : List ℕ) where
  pub unsent : (q : Result (Unit {0}) Refusal) → IsErr q → Ready h s → answer_of q ≡ answer_by h no_clash j s m
      → Sends h j s s m o o (answer_of q)
  unsent (Ok a) n R e = absurd (cc)
  unsent (Err r) n R e = record { handles = refused h no_clash j s m (Err r) n R e; sends = rw (ne_eqb (number_of r) 0 (refused_ne0 r)) }

  pub sent : (t u : List ℕ) (b : Box) → 0 ≡ answer_by h no_clash j s m → Holds t b
      → b ≡ (field_rule (table_of h no_clash) j (box_of s) m).effect
      → u ≡ sent_bytes j (field_rule (table_of h no_clash) j (box_of s) m).sends → Sends h j s t m o u 0
  unfolding handle
  sent t u b e held f q = record { handles = done h no_clash j s m t b e held f; sends = rw (← e) q }

-- a box that is left as it is
pub as_it_is : (h : Head) (s : List ℕ) → Ready h s → Holds s (box_of s)
as_it_is h s R = record { canon = R.canon; says = refl }
