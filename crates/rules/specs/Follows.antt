-- An engine that follows the rules. What is proved of each such engine holds of the rules and of the engine on bytes.
use Rattle.std.specs.Prelude.{ℕ, List, ◌≡◌}
use Rattle.rules.specs.Table.{Table}
use Rattle.rules.specs.State.{fresh}
use Rattle.rules.specs.Form.{read}
use Rattle.rules.specs.Rules.{reply, leave}
use Rattle.rules.specs.Run.{Engine}
use Rattle.rules.specs.Valid.{Valid}

-- It starts with a ready store that holds the fresh state. What a ready store holds is valid; a call on it is
-- answered as the rules say, and leaves a ready store that holds what the rules say.
pub record Follows (T : Table) {X : Type 0} (E : Engine X) (Ready : X → Type 0) : Type 0 where
  pub starts_ready : Ready E.starts
  pub starts_fresh : E.holds E.starts ≡ fresh
  pub valid : (x : X) → Ready x → Valid T (E.holds x)
  pub answers : (x : X) → Ready x → (c : List ℕ) → E.answers x c ≡ reply T (E.holds x) (read c)
  pub leaves : (x : X) → Ready x → (c : List ℕ) → E.holds (E.leaves x c) ≡ leave T (E.holds x) (read c)
  pub stays_ready : (x : X) → Ready x → (c : List ℕ) → Ready (E.leaves x c)
