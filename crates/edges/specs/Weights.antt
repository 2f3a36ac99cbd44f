-- Peers of unequal weight, of every table: what the bytes say, when a header with weights is right, and that a table
-- without them, or with none but 1, is judged as it was.
use Rattle.std.specs.Prelude.{ℕ, ◌+◌, ◌-◌, ◌*◌, ◌/◌, ◌%◌, ◌≤◌, ◌<◌, Bool, true, false, ◌&&◌, cond, List, ◌∷◌, ◌++◌, ◌≡◌, leb, ltb, eqb, length, drop}
use Rattle.base.specs.Below.{every}
use Rattle.base.specs.Bytes.{byte_at, between}
use Rattle.base.specs.Tab.{tab}
use Rattle.base.specs.Weight.{weight, all}
use Rattle.header.specs.Season.{zero_then}
use Rattle.header.specs.Header.{header_size, peers_of, threshold_of, weight_in, total_weight, head_of, honest_count}
use Rattle.header.specs.Header.{none_above, header_ok}
use Rattle.header.specs.Quorum.{weight_of, honest_weight}
use Rattle.pairs.specs.Pairs.{offset_of, size_of, first_offset}
use Rattle.ballot.specs.Table.{item_text, refusal}
use Rattle.clash.specs.Clash.{clash_in}

-- the header of a table that starts with 0 and 3, in document 02's words, by the bytes after these two: n, t, the
-- honest set, P and m stand there as in document 01, and the weight of peer k is byte 5 + k

abbrev pub sum : List ℕ → ℕ
sum s = weight (λ k. byte_at s (5 + k)) (byte_at s 0) all

abbrev pub in_words : List ℕ → Bool
in_words s =
    leb 6 (length s)
    && (between 1 (byte_at s 0) 16
    && (leb (6 + byte_at s 0) (length s)
    && (every (byte_at s 0) (λ i. between 1 (byte_at s (6 + i)) 4)
    && ((ltb (2 * sum s) (3 * byte_at s 1) && leb (3 * byte_at s 1) (3 * sum s))
    && (none_above (byte_at s 0) (byte_at s 2 * 256 + byte_at s 3)
    && (between 1 (byte_at s 4) 8
    && leb (byte_at s 5) 64))))))

pub record ThenThree : Type 0 where
  pub judged : (s : List ℕ) → header_ok (0 ∷ 3 ∷ s) ≡ in_words s
  -- the pairs stand behind the weights
  pub pairs-at : (s : List ℕ) → byte_at s 0 ≤ 16 → header_size (0 ∷ 3 ∷ s) ≡ 8 + byte_at s 0

-- what a peer weighs in the struct that the steps are given
pub record WeighsAsRead (s : List ℕ) (k : ℕ) : Type 0 where
  pub byte : weight_of (head_of s) k ≡ byte_at s (7 + k)
  pub least : 1 ≤ byte_at s (7 + k)
  pub most : byte_at s (7 + k) ≤ 4

-- of a table that is taken
pub record Taken (s : List ℕ) : Type 0 where
  -- 2W < 3t ≤ 3W, where W is the weight of all peers
  pub above : 2 * total_weight s < 3 * threshold_of s
  pub within : 3 * threshold_of s ≤ 3 * total_weight s
  -- the weights are those of the bytes
  pub weights : zero_then s 3 ≡ true → (k : ℕ) → 1 ≤ k → k ≤ peers_of s → WeighsAsRead s k
  pub total : weight (weight_of (head_of s)) (peers_of s) all ≡ total_weight s

-- of a table of an older season that is taken: it is the case of all weights 1
pub record Counted (s : List ℕ) : Type 0 where
  pub ones : (k : ℕ) → weight_of (head_of s) k ≡ 1
  pub total : total_weight s ≡ peers_of s
  pub honest : honest_weight (head_of s) ≡ honest_count (head_of s)

-- Of two lists of bytes, m pairs and what follows them stand at `at` in the second and d bytes later in the first: the
-- offsets are d more, where the pairs are not cut short, and the texts are the same.
pub record Shifted (s r : List ℕ) (d at m : ℕ) : Type 0 where
  pub longer : length s ≡ d + length r
  pub pairs : first_offset at m ≤ length r → (k : ℕ) → k < m
      → (offset_of s (d + at) k ≡ d + offset_of r at k) × (size_of s (d + at) k ≡ size_of r at k)
  pub texts : drop (d + first_offset at m) s ≡ drop (first_offset at m) r

-- Of two tables, the one has weights, each of which is 1, the other has none, and all else is the same.
pub record SameButOnes (s r : List ℕ) : Type 0 where
  pub third : zero_then s 3 ≡ true
  pub second : zero_then r 2 ≡ true
  pub fields : (i : ℕ) → i < 6 → byte_at s (2 + i) ≡ byte_at r (2 + i)
  pub ones : (k : ℕ) → 1 ≤ k → k ≤ byte_at s 2 → byte_at s (7 + k) ≡ 1
  pub rest : Shifted s r (byte_at s 2) 8 (byte_at r 7)

-- the one is judged as the other and has the same header; and if they are taken, the same texts and clashes
pub record AsSecond (s r : List ℕ) : Type 0 where
  pub judged : refusal s ≡ refusal r
  pub head : head_of s ≡ head_of r
  pub text : refusal r ≡ 0 → (k : ℕ) → item_text s k ≡ item_text r k
  pub clashing : refusal r ≡ 0 → (i j : ℕ) → clash_in s i j ≡ clash_in r i j

-- The table of the second season with the fields and the items of one of the third: its weights are left out, and its
-- offsets are as many less. n is byte 2, m byte 7.

-- byte i of the pairs, of which each has an offset and a length of two bytes
abbrev pub pair_byte : List ℕ → ℕ → ℕ
pair_byte s i =
    let offset = offset_of s (byte_at s 2 + 8) (i / 4) - byte_at s 2 in
    let size = size_of s (byte_at s 2 + 8) (i / 4) in
    cond (eqb (i % 4) 0) (offset / 256) (cond (eqb (i % 4) 1) (offset % 256)
    (cond (eqb (i % 4) 2) (size / 256) (size % 256)))

-- byte i of the header and the pairs
abbrev pub front_byte : List ℕ → ℕ → ℕ
front_byte s i = cond (ltb i 8) (cond (eqb i 1) 2 (byte_at s i)) (pair_byte s (i - 8))

-- and the whole of it
abbrev pub unweighed : List ℕ → List ℕ
unweighed s = tab (8 + 4 * byte_at s 7) (front_byte s) ++ drop (byte_at s 2 + (8 + 4 * byte_at s 7)) s

pub record WeightEdges : Type 0 where
  pub then_three : ThenThree
  pub taken : (s : List ℕ) → refusal s ≡ 0 → Taken s
  pub older : (s : List ℕ) → refusal s ≡ 0 → zero_then s 3 ≡ false → Counted s
  pub all_ones : (s r : List ℕ) → SameButOnes s r → AsSecond s r
  -- and every table of the third season that is taken and has no weight but 1 has such a table beside it
  pub unweighed_same : (s : List ℕ) → refusal s ≡ 0 → zero_then s 3 ≡ true
      → ((k : ℕ) → 1 ≤ k → k ≤ peers_of s → weight_in s k ≡ 1) → SameButOnes s (unweighed s)
