-- A file of steps as a list of calls, of 13 bytes each; a short tail is none of them.
use Rattle.std.specs.Prelude.{ℕ, ◌*◌, ◌/◌, ◌<◌, min, List, ◌≡◌, length}
use Rattle.base.specs.Bytes.{byte_at, part}
use Rattle.base.specs.Tab.{tab}
use Rattle.gains.specs.Gain.{count_of, back_of}

unfoldable pub file_call : List ℕ → ℕ → List ℕ
file_call s k = part s (13 * k) 13

-- the first n
unfoldable pub calls_to : List ℕ → ℕ → List (List ℕ)
calls_to s n = tab n (file_call s)

abbrev pub file_calls : List ℕ → List (List ℕ)
file_calls s = calls_to s (length s / 13)

-- the backs among the first n, of each peer byte, at most 8
pub record Turns (s : List ℕ) (n : ℕ) (turns : List ℕ) : Type 0 where
  pub long : length turns ≡ 256
  pub each : (j : ℕ) → j < 256 → byte_at turns j ≡ min 8 (count_of (back_of j) (calls_to s n))
