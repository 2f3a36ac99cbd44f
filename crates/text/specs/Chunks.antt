-- Texts in a row, cut into chunks: each has as many whole texts as a buffer has room for.
use Rattle.std.specs.Prelude.{ℕ, zero, suc, ◌+◌, ◌-◌, ◌≤◌, ◌<◌, cond, List, ◌≡◌, leb, length, take}
use Rattle.text.specs.Wrote.{each}

-- the texts from f a on: text i of them is f (a + i)
unfoldable pub from : (ℕ → List ℕ) → ℕ → ℕ → List ℕ
from f a i = f (a + i)

-- the texts f a, f (a + 1) and so on below f b, in this order
unfoldable pub each_from : (ℕ → List ℕ) → ℕ → ℕ → List ℕ
each_from f a b = each (from f a) (b - a)

-- how many of the m texts from f a on fit into this many bytes, one after the other
unfoldable pub fitting : (ℕ → List ℕ) → ℕ → ℕ → ℕ → ℕ
fitting f room a zero = 0
fitting f room a (suc m) = cond (leb (length (f a)) room) (suc (fitting f (room - length (f a)) (a + 1) m)) 0

-- of n texts, the first that is not in the chunk which starts with f a
unfoldable pub chunk_end : (ℕ → List ℕ) → ℕ → ℕ → ℕ → ℕ
chunk_end f room n a = a + fitting f room a (n - a)

-- with which text chunk i starts: each starts where the one before it ends
unfoldable pub chunk_start : (ℕ → List ℕ) → ℕ → ℕ → ℕ → ℕ
chunk_start f room n zero = 0
chunk_start f room n (suc i) = chunk_end f room n (chunk_start f room n i)

-- chunk i
unfoldable pub chunk : (ℕ → List ℕ) → ℕ → ℕ → ℕ → List ℕ
chunk f room n i = each_from f (chunk_start f room n i) (chunk_start f room n (i + 1))

-- a chunk starts with text a
pub record Starts (f : ℕ → List ℕ) (room n a : ℕ) : Type 0 where
  pub which : ℕ
  pub place : a ≡ chunk_start f room n which

-- what holds of the chunks of n texts
pub record InChunks (f : ℕ → List ℕ) (room n : ℕ) : Type 0 where
  -- each fits the buffer
  pub fits : (i : ℕ) → length (chunk f room n i) ≤ room
  -- the first i, joined, are the texts before the one that chunk i starts with
  pub so_far : (i : ℕ) → each (chunk f room n) i ≡ each f (chunk_start f room n i)
  -- none is empty of texts while there are any left
  pub goes_on : (i : ℕ) → chunk_start f room n i < n → chunk_start f room n i < chunk_start f room n (i + 1)
  -- n chunks reach the last text, and joined they are all of the texts
  pub reaches : chunk_start f room n n ≡ n
  pub joined : each (chunk f room n) n ≡ each f n

-- what a chunk is filled into: the first `size` bytes are the chunk that starts with text a, and `end` is the first text
-- that is not in it
pub record Chunked (f : ℕ → List ℕ) (room n a : ℕ) (bytes : List ℕ) (size end : ℕ) : Type 0 where
  pub ends : end ≡ chunk_end f room n a
  pub fits : size ≤ length bytes
  pub text : take size bytes ≡ each_from f a (chunk_end f room n a)
