-- What an engine that follows the rules passes to peer j, replies and has room for is what the rules do: so a run that is
-- computed by the rules is one of every such engine.
use Prim.Native.Nat.{ℕ}
use mathlib.Core.Bool.{Bool, ◌&&◌}
use mathlib.Core.List.{List, [], ◌∷◌}
use mathlib.Core.Path.{◌≡◌, refl, ap, ap₂, ◌∙◌}
use Rattle.rules.specs.Table.{Table}
use Rattle.rules.specs.State.{State}
use Rattle.rules.specs.Form.{read}
use Rattle.rules.specs.Run.{Engine, by_rules}
use Rattle.rules.specs.Follows.{Follows}
use Rattle.field_rules.specs.Box.{Box}
use Rattle.field_runs.specs.Passed.{sent_call}
use Rattle.field_runs.specs.Beside.{with_message, with_reply, fed_with, room_in, passes, messages, replies, neither_full}

module _ (T : Table) (j : ℕ) {X : Type 0} (E : Engine X) (Ready : X → Type 0) (F : Follows T E Ready) where
  pub messages_as_ruled : (calls : List (List ℕ)) (x : X) → Ready x
      → messages T j E x calls ≡ messages T j (by_rules T) (E.holds x) calls
  unfolding messages
  messages_as_ruled [] x R = refl
  messages_as_ruled (c ∷ calls) x R = ap (with_message (passes T j E x c))
      (messages_as_ruled calls (E.leaves x c) (F.stays_ready x R c)
      ∙ ap (λ (s : State). messages T j (by_rules T) s calls) (F.leaves x R c))

  pub replies_as_ruled : (calls : List (List ℕ)) (x : X) → Ready x
      → replies T j E x calls ≡ replies T j (by_rules T) (E.holds x) calls
  unfolding replies
  replies_as_ruled [] x R = refl
  replies_as_ruled (c ∷ calls) x R = ap₂ (with_reply (passes T j E x c))
      (ap (λ (a : ℕ). (a, sent_call T j (E.holds x) (read c) a)) (F.answers x R c))
      (replies_as_ruled calls (E.leaves x c) (F.stays_ready x R c)
      ∙ ap (λ (s : State). replies T j (by_rules T) s calls) (F.leaves x R c))

  pub room_as_ruled : (calls : List (List ℕ)) (x : X) → Ready x → (b : Box)
      → neither_full T j E x b calls ≡ neither_full T j (by_rules T) (E.holds x) b calls
  unfolding neither_full
  room_as_ruled [] x R b = refl
  room_as_ruled (c ∷ calls) x R b = ap₂ (λ (r q : Bool). r && q)
      (ap (λ (a : ℕ). room_in T j b a (passes T j E x c)) (F.answers x R c))
      (room_as_ruled calls (E.leaves x c) (F.stays_ready x R c) (fed_with T j b (passes T j E x c))
      ∙ ap (λ (s : State). neither_full T j (by_rules T) s (fed_with T j b (passes T j E x c)) calls) (F.leaves x R c))
