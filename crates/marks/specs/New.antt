-- Things that are other than those before them, and the row of bits that says which marks were seen.
use Rattle.std.specs.Prelude.{ℕ, Bool, not, List, ◌≡◌, length}
use Rattle.base.specs.Below.{any}
use Rattle.base.specs.Marks.{Marked}
use Rattle.bits.specs.Row.{bit_at}

-- no thing before e is the same
abbrev pub new_at : (ℕ → ℕ → Bool) → ℕ → Bool
new_at same e = not (any e (same e))

-- every mark is below this number
abbrev pub marks : ℕ
marks = 32768

-- the bytes of a row with a bit for each
abbrev pub mark_bytes : ℕ
mark_bytes = 4096

-- the row has a bit for each mark, and in it are the marks of all things before e
pub record Seen (mark : ℕ → ℕ) (seen : List ℕ) (e : ℕ) : Type 0 where
  pub long : length seen ≡ mark_bytes
  pub marked : Marked mark (bit_at seen) e
