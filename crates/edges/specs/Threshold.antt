-- The rule of the least threshold beside document 01's constants: above two thirds, exact, headers judged as before.
use Rattle.std.specs.Prelude.{ℕ, ◌-◌, ◌*◌, ◌≤◌, ◌<◌, Bool, false, ◌&&◌, List, [], ◌∷◌, ◌≡◌, ◌↔◌, leb, length, get_or}
use Rattle.base.specs.Bytes.{between}
use Rattle.header.specs.Season.{zero_then}
use Rattle.header.specs.Header.{header_size, peers_of, threshold_of, honest_of, periods_of, items_of}
use Rattle.header.specs.Header.{least_threshold, none_above, header_ok}

-- document 01's sixteen numbers: the least threshold for 1 to 16 peers
abbrev pub least_table : List ℕ
least_table = 1 ∷ 2 ∷ 3 ∷ 3 ∷ 4 ∷ 5 ∷ 5 ∷ 6 ∷ 7 ∷ 7 ∷ 8 ∷ 9 ∷ 9 ∷ 10 ∷ 11 ∷ 11 ∷ []

-- the least threshold for n peers, by the table
abbrev pub least_by_table : ℕ → ℕ
least_by_table n = get_or least_table (n - 1) 0

-- the header judged by the table, as it was before there was a rule: threshold_ok, fields_ok and header_ok

abbrev pub threshold_by_table : ℕ → ℕ → Bool
threshold_by_table n t = between 1 n 16 && between (least_by_table n) t n

abbrev pub fields_by_table : ℕ → ℕ → ℕ → ℕ → ℕ → Bool
fields_by_table n t honest periods items =
    threshold_by_table n t && (none_above n honest && (between 1 periods 8 && leb items 64))

abbrev pub header_by_table : List ℕ → Bool
header_by_table s =
    leb (header_size s) (length s)
    && fields_by_table (peers_of s) (threshold_of s) (honest_of s) (periods_of s) (items_of s)

pub record ThresholdEdges : Type 0 where
  -- whatever all peers weigh, the least threshold is above two thirds of it
  pub above : (w : ℕ) → 2 * w < 3 * least_threshold w
  -- and it is exact: the numbers above two thirds of it are those from it on
  pub exact : (w t : ℕ) → 2 * w < 3 * t ↔ least_threshold w ≤ t
  -- of 1 to 16 peers that weigh 1 it is document 01's number
  pub constants : (n : ℕ) → 1 ≤ n → n ≤ 16 → least_threshold n ≡ least_by_table n
  -- so every header without weights is judged as it was, whatever its bytes
  pub same_header : (s : List ℕ) → zero_then s 3 ≡ false → header_ok s ≡ header_by_table s
