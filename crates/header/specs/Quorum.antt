-- Sets of peers as numbers, bit k - 1 for peer k: with one peer more, counted, weighed, and whether they reach the
-- threshold.
use Rattle.std.specs.Prelude.{ℕ, ◌+◌, ◌*◌, ◌-◌, ◌^◌, Bool, cond, leb}
use Rattle.std.specs.Int.Bits.{bit_or}
use Rattle.base.specs.Bytes.{between}
use Rattle.base.specs.Bits.{member, digit}
use Rattle.base.specs.Weight.{weight, ones}
use Rattle.header.specs.declared.Head.{Head}
use Rattle.header.specs.Header.{even_in, heavy_in, is_honest}

-- the peers for which a set has room
abbrev pub room : ℕ
room = 16

-- a set with peer k; no peer is 0 or above 16
unfoldable pub with_peer : ℕ → ℕ → ℕ
with_peer set k = cond (between 1 k room) (bit_or set (2 ^ (k - 1))) set

-- how many peers are in a set
unfoldable pub count_in : ℕ → ℕ
count_in set = weight ones room (member set)

-- the weight of a peer: 1, one more where it is even, and two more where it is heavy
unfoldable pub weight_of : Head → ℕ → ℕ
weight_of h k = 1 + digit (member (even_in h) k) + 2 * digit (member (heavy_in h) k)

-- the weight of the honest peers
abbrev pub honest_weight : Head → ℕ
honest_weight h = weight (weight_of h) h.n (is_honest h)

-- a set that reaches t, by the weights of its members
unfoldable pub reaches : Head → ℕ → Bool
reaches h set = leb h.t (weight (weight_of h) room (member set))
