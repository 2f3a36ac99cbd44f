-- The ballot table's header: its fields, the weights of the peers, the struct of both, and whether each is in range.
use Rattle.std.specs.Prelude.{ℕ, ◌+◌, ◌*◌, ◌/◌, ◌%◌, ◌^◌, min, Bool, ◌&&◌, cond, List, leb, ltb, eqb, length}
use Rattle.base.specs.Bytes.{byte_at, between}
use Rattle.base.specs.Below.{every}
use Rattle.base.specs.Bits.{member, pack}
use Rattle.base.specs.Weight.{weight, ones, all}
use Rattle.header.specs.declared.Head.{Head}
use Rattle.header.specs.declared.weights.Feature.{Feature}
use Rattle.header.specs.declared.weights.Feature.TheVariants.{Even, Heavy}
use Rattle.header.specs.Season.{season_of, fields_at, has_weights}

-- byte i of the fields: every field is read through it
unfoldable pub field_of : List ℕ → ℕ → ℕ
field_of s i = byte_at s (fields_at (season_of s) + i)

-- n, the number of peers
abbrev pub peers_of : List ℕ → ℕ
peers_of s = field_of s 0

-- t, the threshold
abbrev pub threshold_of : List ℕ → ℕ
threshold_of s = field_of s 1

-- the honest set: two bytes, high byte first; bit k - 1 is peer k
abbrev pub honest_of : List ℕ → ℕ
honest_of s = field_of s 2 * 256 + field_of s 3

-- P, the number of periods
abbrev pub periods_of : List ℕ → ℕ
periods_of s = field_of s 4

-- m, the number of items
abbrev pub items_of : List ℕ → ℕ
items_of s = field_of s 5

-- how many weights stand after the fields: one for each peer, none in older tables; more than 16 peers are refused
abbrev pub weight_count : List ℕ → ℕ
weight_count s = cond (has_weights (season_of s)) (min (peers_of s) 16) 0

-- the weight of peer k: the byte that stands for it after the six fields, and 1 where none does
unfoldable pub weight_in : List ℕ → ℕ → ℕ
weight_in s k = cond (between 1 k (weight_count s)) (field_of s (5 + k)) 1

-- W, the weight of all peers
abbrev pub total_weight : List ℕ → ℕ
total_weight s = weight (weight_in s) (peers_of s) all

-- the header's length in bytes: six bytes of fields, after what its season puts before them, and the weights
unfoldable pub header_size : List ℕ → ℕ
header_size s = fields_at (season_of s) + 6 + weight_count s

-- a weight of 1 to 4 is told by two answers: whether it is even, and whether it is heavy, that is above 2
abbrev pub has : Feature → ℕ → Bool
has Even w = eqb (w % 2) 0
has Heavy w = ltb 2 w

-- the peers for whom the answer is yes, bit k - 1 for peer k; in older tables none
unfoldable pub peers_with : Feature → List ℕ → ℕ
peers_with feature s = pack (weight_count s) (λ i. has feature (weight_in s (i + 1)))

-- four sets of peers in one number, sixteen bits each
abbrev pub joined : ℕ → ℕ → ℕ → ℕ → ℕ
joined a b c d = a + 65536 * b + 4294967296 * (c + 65536 * d)

-- the header of a table
abbrev pub head_of : List ℕ → Head
head_of s = record {
  n = peers_of s;
  t = threshold_of s;
  sets = joined (honest_of s) (peers_with Even s) (peers_with Heavy s) 0;
  periods = periods_of s;
  items = items_of s;
}

-- and the three sets of it: the honest peers, the even and the heavy

abbrev pub honest_in : Head → ℕ
honest_in h = h.sets % 65536

abbrev pub even_in : Head → ℕ
even_in h = h.sets / 65536 % 65536

abbrev pub heavy_in : Head → ℕ
heavy_in h = h.sets / 4294967296 % 65536

-- peer k is honest
abbrev pub is_honest : Head → ℕ → Bool
is_honest h k = member (honest_in h) k

-- h, the number of honest peers
abbrev pub honest_count : Head → ℕ
honest_count h = weight ones h.n (is_honest h)

-- the least threshold for a weight, which of peers that weigh 1 is their number: twice it divided by three, rounded
-- down, plus one
unfoldable pub least_threshold : ℕ → ℕ
least_threshold w = 2 * w / 3 + 1

-- no bit of the set stands above peer n
abbrev pub none_above : ℕ → ℕ → Bool
none_above n set = eqb (set / 2 ^ n) 0

-- the weight of peer k is 1 to 4
abbrev pub weight_ok : List ℕ → ℕ → Bool
weight_ok s k = between 1 (weight_in s k) 4

-- and so is every weight that the table has
unfoldable pub weights_ok : List ℕ → Bool
weights_ok s = every (weight_count s) (λ i. weight_ok s (i + 1))

-- t runs from the least threshold for the weight of all peers to that weight
unfoldable pub threshold_ok : ℕ → ℕ → Bool
threshold_ok w t = between (least_threshold w) t w

-- the threshold is in range for the weight w of all peers, and every other field but n
unfoldable pub fields_ok : ℕ → ℕ → ℕ → ℕ → ℕ → ℕ → Bool
fields_ok n w t honest periods items = threshold_ok w t && (none_above n honest && (between 1 periods 8 && leb items 64))

-- the header is whole, there are 1 to 16 peers, and all else is in range
unfoldable pub header_ok : List ℕ → Bool
header_ok s =
    leb (header_size s) (length s)
    && (between 1 (peers_of s) 16
    && (weights_ok s
    && fields_ok (peers_of s) (total_weight s) (threshold_of s) (honest_of s) (periods_of s) (items_of s)))
