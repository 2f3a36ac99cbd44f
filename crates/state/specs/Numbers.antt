-- The numbers of a peer: its open period, the next period to back, and 1 for down. A byte for each.
use Rattle.std.specs.Prelude.{ℕ, ◌+◌, ◌-◌, Bool, false, cond, eqb, ltb}
use Rattle.state.specs.declared.Number.{Number}
use Rattle.state.specs.declared.Number.TheVariants.{CurrentOf, ToBackOf, DownOf}
use Rattle.state.specs.Layout.{current_at, to_back_at, down_at}

-- the same number of the same peer
abbrev pub same_number : Number → Number → Bool
same_number (CurrentOf j) (CurrentOf k) = eqb j k
same_number (CurrentOf j) (ToBackOf k) = false
same_number (CurrentOf j) (DownOf k) = false
same_number (ToBackOf j) (CurrentOf k) = false
same_number (ToBackOf j) (ToBackOf k) = eqb j k
same_number (ToBackOf j) (DownOf k) = false
same_number (DownOf j) (CurrentOf k) = false
same_number (DownOf j) (ToBackOf k) = false
same_number (DownOf j) (DownOf k) = eqb j k

-- the peer whose number it is
abbrev pub peer_of : Number → ℕ
peer_of (CurrentOf j) = j
peer_of (ToBackOf j) = j
peer_of (DownOf j) = j

-- the byte at which it stands
abbrev pub slot : Number → ℕ
slot (CurrentOf j) = current_at + (j - 1)
slot (ToBackOf j) = to_back_at + (j - 1)
slot (DownOf j) = down_at + (j - 1)

-- the number that stands at byte b
unfoldable pub number_of : ℕ → Number
number_of b =
    cond (ltb b to_back_at) (CurrentOf (b - current_at + 1))
    (cond (ltb b down_at) (ToBackOf (b - to_back_at + 1))
    (DownOf (b - down_at + 1)))
