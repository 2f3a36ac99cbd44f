-- Marks of texts: the same text has the same mark, and of texts that differ most have different ones.
use Rattle.std.specs.Prelude.{ℕ, ◌%◌, Bool, true, List, ◌≡◌}
use Rattle.std.proofs.Common.{ap, sym}
use Rattle.base.specs.Bytes.{number_at, same_bytes}
use Rattle.base.proofs.Bytes.{eq_of_same}
use Rattle.pairs.specs.Pairs.{text_of}

-- a prime, so that each of a text's first bytes tells in its mark
abbrev pub mark_prime : ℕ
mark_prime = 4093

-- the mark of a text: what its first eight bytes, as a number, leave over
unfoldable pub mark_of : List ℕ → ℕ
mark_of text = number_at text 0 8 % mark_prime

module _ (s : List ℕ) (at : ℕ) where
  -- the mark of text k
  unfoldable pub mark_at : ℕ → ℕ
  mark_at k = mark_of (text_of s at k)

  -- texts j and i are the same
  abbrev pub are_same : ℕ → ℕ → Bool
  are_same j i = same_bytes (text_of s at i) (text_of s at j)

  pub same_mark : (j i : ℕ) → are_same j i ≡ true → mark_at j ≡ mark_at i
  unfolding mark_at
  same_mark j i t = sym (ap mark_of (eq_of_same (text_of s at i) (text_of s at j) t))
