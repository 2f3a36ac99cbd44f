-- How many bits a set of signers may have.
use Rattle.std.specs.Prelude.{ℕ, cond, ltb}
use Rattle.header.specs.declared.Head.{Head}

-- n on an item of the table, none on any other
unfoldable pub width_at : Head → ℕ → ℕ
width_at h x = cond (ltb x h.items) h.n 0
