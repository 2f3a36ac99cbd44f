-- A box with one part changed, as the code changes it.
use Rattle.std.specs.Prelude.{ℕ, Bool}
use Rattle.base.specs.Sets.{add2, add3}
use Rattle.field_rules.specs.Box.{Box, box_held, box_gave, box_db, box_current, box_to_back, box_down}

unfoldable pub with_held : ℕ → ℕ → Box → Box
with_held p x b = box_held b (add2 p x b.held)

unfoldable pub with_given : ℕ → ℕ → Box → Box
with_given p x b = box_gave b (add2 p x b.gave)

unfoldable pub with_known : ℕ → ℕ → ℕ → Box → Box
with_known p x k b = box_db b (add3 p x k b.db)

unfoldable pub with_current : ℕ → Box → Box
with_current v b = box_current b v

unfoldable pub with_to_back : ℕ → Box → Box
with_to_back v b = box_to_back b v

unfoldable pub with_down : Bool → Box → Box
with_down v b = box_down b v
