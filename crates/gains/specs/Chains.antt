-- Chains of steps, by which a step is found by its bytes: each chain has the steps of one hash.
use Rattle.std.specs.Prelude.{ℕ, zero, suc, ◌+◌, ◌*◌, ◌%◌, ◌<◌, ◌≤◌, Bool, true, ◌&&◌, not, cond, List, ◌≡◌, eqb, length, get_or, Option, Some, None}
use Rattle.base.specs.Bits.{digit}
use Rattle.base.specs.Bytes.{byte_at, same_bytes}
use Rattle.gains.specs.Gain.{is_op, is_among}
use Rattle.gains.specs.File.{file_call, calls_to}

-- one more than the last number below k that passes f, and 0 where none does
unfoldable pub last_where : (ℕ → Bool) → ℕ → ℕ
last_where f zero = 0
last_where f (suc k) = cond (f k) (suc k) (last_where f k)

-- the number that one more than a number stands for, and none for 0
unfoldable pub below : ℕ → Option ℕ
below zero = None
below (suc i) = Some i

-- the hash of a call, from its first n bytes, and from all: a number below the prime 4093
unfoldable pub mix_to : List ℕ → ℕ → ℕ
mix_to c zero = 0
mix_to c (suc n) = (mix_to c n * 257 + byte_at c n) % 4093

unfoldable pub mix_of : List ℕ → ℕ
mix_of c = mix_to c 13

-- step k is a false backing that does not stand before
unfoldable pub is_new : List ℕ → ℕ → Bool
is_new s k = is_op 16 (file_call s k) && not (is_among (file_call s k) (calls_to s k))

-- 1 where it is
unfoldable pub new_digit : List ℕ → ℕ → ℕ
new_digit s k = digit (is_new s k)

-- step k is new, and of hash h
unfoldable pub new_of : List ℕ → ℕ → ℕ → Bool
new_of s h k = is_new s k && eqb (mix_of (file_call s k)) h

-- step k is new, and has the bytes of call c
unfoldable pub new_like : List ℕ → List ℕ → ℕ → Bool
new_like s c k = is_new s k && same_bytes c (file_call s k)

-- the chains of the first k steps: the last new one of each hash, and for each new one the one before it in its chain
pub record Chains (s : List ℕ) (k : ℕ) (heads links : List ℕ) : Type 0 where
  pub room : 13 * k ≤ length s
  pub wide : length heads ≡ 4096
  pub long : k ≤ length links
  pub head : (h : ℕ) → h < 4096 → get_or heads h 0 ≡ last_where (new_of s h) k
  pub link : (i : ℕ) → i < k → is_new s i ≡ true → get_or links i 0 ≡ last_where (new_of s (mix_of (file_call s i))) i

-- step i of a block is new there, and does not stand among the first j steps of s
unfoldable pub is_fresh : List ℕ → ℕ → List ℕ → ℕ → Bool
is_fresh s j block i = is_new block i && not (is_among (file_call block i) (calls_to s j))

-- 1 for each such step among the first k of the block, 0 for the others
pub record Fresh (s : List ℕ) (j : ℕ) (block : List ℕ) (k : ℕ) (fresh : List ℕ) : Type 0 where
  pub long : k ≤ length fresh
  pub each : (i : ℕ) → i < k → byte_at fresh i ≡ digit (is_fresh s j block i)
