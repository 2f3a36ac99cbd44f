-- When a step of the exchange is answered 0, by the exact edges of the steps.
use Prim.Native.Nat.{ℕ, ◌≤◌, ◌<◌}
use native.Mathlib.Decide.{dec_le}
use native.Mathlib.Omega.{arith}
use mathlib.Core.Bool.{true, false}
use mathlib.Core.Path.{◌≡◌}
use mathlib.Core.Logic.{◌⊎◌, inl, inr}
use lib.ListN.{length}
use Rattle.base.proofs.Truth.{either}
use Rattle.rules.specs.declared.Entry.{Entry}
use Rattle.rules.specs.declared.Entry.TheVariants.{Hash}
use Rattle.rules.specs.declared.Step.{Step}
use Rattle.rules.specs.declared.Step.TheVariants.{Fetch, Hear}
use Rattle.rules.specs.Form.{Call}
use Rattle.std.specs.Prelude.{Some, None}
use Rattle.rules.specs.Table.{Table}
use Rattle.rules.specs.Bag.{is_in, entry_at, capacity}
use Rattle.rules.specs.State.{State}
use Rattle.rules.specs.Rules.{rule, answer, reply}
use Rattle.edges.specs.Steps.{Able}
use Rattle.edges.specs.Exact.{Enters}
use Rattle.edges.proofs.Exact.{exact_edges}
use Rattle.edges.proofs.Tests.{row, never}

module _ (T : Table) (s : State) where
  pub fetch-done : (j k p : ℕ) → Able T s j → Able T s k → p < T.periods → p < s.current j → p < s.current k
      → answer T s (Fetch j k p) ≡ 0
  unfolding answer rule
  fetch-done j k p a b c oj ok = search row depth 10

  pub hear-done : (j e k p B : ℕ) → Able T s j → entry_at s.bag e ≡ Hash k p B → p < s.current j → answer T s (Hear j e) ≡ 0
  unfolding answer rule
  hear-done j e k p B a h o = rw h (search row depth 6)

  -- what only a full bag refuses
  pub entered : (st : Step) (a : Entry) → Enters T s st a → (answer T s st ≡ 13 → ⊥) → answer T s st ≡ 0
  entered st a h room = go (either (is_in a s.bag)) (dec_le capacity (length s.bag))
    where
      go : (is_in a s.bag ≡ true) ⊎ (is_in a s.bag ≡ false) → Dec (capacity ≤ length s.bag) → answer T s st ≡ 0
      go (inl there) d = (exact_edges T s).full_there st a h there
      go (inr new) (yes full) = absurd (room ((exact_edges T s).full_new st a h new full))
      go (inr new) (no more) = (exact_edges T s).full_room st a h (omega arith)

  -- with fewer than 256 entries nothing is answered 13
  pub step_room : (st : Step) → length s.bag < capacity → answer T s st ≡ 13 → ⊥
  step_room st l e = omega (arith, (exact_edges T s).full_only st e)

  pub call-room : (c : Call) → length s.bag < capacity → reply T s c ≡ 13 → ⊥
  unfolding reply
  call-room (Some st) l e = step_room st l e
  call-room None l e = absurd (omega arith)

  -- a fetch or a hear never is
  pub fetch-room : (j k p : ℕ) → answer T s (Fetch j k p) ≡ 13 → ⊥
  unfolding answer rule
  fetch-room j k p e = never 13 (rule T s (Fetch j k p)).refusals (λ z. omega arith) tt e

  pub hear-room : (j x : ℕ) → answer T s (Hear j x) ≡ 13 → ⊥
  unfolding answer rule
  hear-room j x e = never 13 (rule T s (Hear j x)).refusals (λ z. omega arith) tt e
