-- Weights that are all 1 change nothing: what is answered and left on a table that has them, beside the one of the
-- second season with the same fields and items.
use Rattle.std.specs.Prelude.{ℕ, List, ◌≡◌}
use Rattle.engine.specs.Engine.{fresh_answer, fresh_bytes}
use Rattle.printing.specs.Written.{written, sheet_left}
use Rattle.rehearsal.specs.Rehearsal.{reported, state_left}

-- fresh and write_sheet, whatever buffers are lent and whatever is asked
pub record CallsAsSecond (table other : List ℕ) : Type 0 where
  pub fresh_answers : (s : List ℕ) → fresh_answer table s ≡ fresh_answer other s
  pub fresh_leaves : (s : List ℕ) → fresh_bytes table s ≡ fresh_bytes other s
  pub writes_answers : (s : List ℕ) (period room : ℕ) → written table s period room ≡ written other s period room
  pub writes_leaves : (s buffer : List ℕ) (period : ℕ)
      → sheet_left table s period buffer ≡ sheet_left other s period buffer

-- rehearse, of inputs with such tables and the same steps behind them
pub record RehearsedAsSecond (input other : List ℕ) : Type 0 where
  pub reports : (s : List ℕ) → reported input s ≡ reported other s
  pub leaves : (s : List ℕ) → state_left input s ≡ state_left other s
