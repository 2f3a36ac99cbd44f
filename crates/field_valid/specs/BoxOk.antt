-- Row 14 for the field peer's state, as a test on its bytes.
use Rattle.std.specs.Prelude.{ℕ, ◌+◌, ◌-◌, ◌*◌, ◌^◌, Bool, cond, not, ◌&&◌, List, eqb, leb, ltb, length}
use Rattle.base.specs.Below.{any, every}
use Rattle.base.specs.Bytes.{byte_at, between}
use Rattle.bits.specs.Row.{zeros}
use Rattle.bits.specs.Number.{num}
use Rattle.header.specs.declared.Head.{Head}
use Rattle.state.specs.Layout.{periods, items, entries, peer_bytes, item_bytes}
use Rattle.state.specs.Places.{cell}
use Rattle.field_state.specs.Layout.{held_at, gave_at, known_at, current_at, to_back_at, down_at, hash_start, size}
use Rattle.field_state.specs.Holding.{heard_count}
use Rattle.field_state.specs.Hearing.{same_at}
use Rattle.field_state.specs.Width.{width_at}

-- heard hash e is other than those before it
unfoldable pub new_at : List ℕ → ℕ → Bool
new_at s e = not
    (any e (same_at s (byte_at s (hash_start e)) (byte_at s (hash_start e + 1)) (num item_bytes s (hash_start e + 2))))

module _ (h : Head) where
  -- the table's items in period p, and its peers on item x of it: how many bits a set of such may have
  unfoldable pub row_width : ℕ → ℕ
  row_width p = cond (ltb p h.periods) h.items 0

  unfoldable pub spot_width : ℕ → ℕ → ℕ
  spot_width p x = cond (ltb p h.periods) (width_at h x) 0

  module _ (s : List ℕ) where
    -- the sets of items by period, and of signers by period and item, have only what is of the table
    unfoldable pub cell_ok : ℕ → ℕ → Bool
    cell_ok o p = ltb (num item_bytes s (o + item_bytes * p)) (2 ^ row_width p)

    unfoldable pub spot_ok : ℕ → ℕ → Bool
    spot_ok p x = ltb (num peer_bytes s (known_at + peer_bytes * cell p x)) (2 ^ spot_width p x)

    unfoldable pub spots_in : ℕ → Bool
    spots_in p = every items (spot_ok p)

    -- p is at most P, c at most p, and the flag 0 or 1
    unfoldable pub numbers_ok : Bool
    numbers_ok = leb (byte_at s current_at)
        h.periods && (leb (byte_at s to_back_at) (byte_at s current_at) && leb (byte_at s down_at) 1)

    -- heard hash e is of the table
    unfoldable pub hash_ok : ℕ → Bool
    hash_ok e =
        between 1 (byte_at s (hash_start e)) h.n
        && (ltb (byte_at s (hash_start e + 1)) h.periods && ltb (num item_bytes s (hash_start e + 2)) (2 ^ h.items))

    -- at most 256, each of the table, no two the same, and 0 after the last
    unfoldable pub hashes_ok : Bool
    hashes_ok =
        leb (heard_count s) entries
        && (every (heard_count s) hash_ok
        && (every (heard_count s) (new_at s)
        && zeros (size - hash_start (heard_count s)) s (hash_start (heard_count s))))

    unfoldable pub box_ok : Bool
    box_ok =
        eqb (length s) size
        && (numbers_ok
        && (every periods (cell_ok held_at)
        && (every periods (cell_ok gave_at)
        && (every periods spots_in && hashes_ok))))
