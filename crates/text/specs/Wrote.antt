-- Text written into lent bytes, as far as they reach.
use Rattle.std.specs.Prelude.{ℕ, zero, suc, ◌+◌, ◌<◌, ◌^◌, min, List, [], ◌++◌, ◌≡◌, length}
use Rattle.std.proofs.lemmas.List.Edits.{sets}
use Rattle.text.specs.declared.Printer.{Printer}

-- the bytes with the text in place of those from `at` on; what lies past their end is left out
unfoldable pub over : List ℕ → ℕ → List ℕ → List ℕ
over bytes at text = sets bytes at text

-- places are numbers of 64 bits: whatever lies past the last of them is at the last
abbrev pub place_of : ℕ → ℕ
place_of n = min n 18446744073709551615

-- what a writer of the text promises: the bytes are these, and the next place is that after the text
pub record Wrote (was : List ℕ) (at : ℕ) (text is : List ℕ) (next : ℕ) : Type 0 where
  pub long : length is ≡ length was
  -- no buffer has more bytes than there are places
  pub bytes : length was < 2 ^ 64 → is ≡ over was at text
  pub place : place_of next ≡ place_of (at + length text)

-- the texts f 0, f 1 and so on below n, in this order
unfoldable pub each : (ℕ → List ℕ) → ℕ → List ℕ
each f zero = []
each f (suc k) = each f k ++ f k

-- what a printer promises that has written the text: it was this one, and is that one, over the same lent bytes
pub record Put (was : Printer) (text : List ℕ) (is : Printer) : Type 0 where
  pub same : is.out.ghost_name ≡ was.out.ghost_name
  pub wrote : Wrote was.out.now was.at text is.out.now is.at
