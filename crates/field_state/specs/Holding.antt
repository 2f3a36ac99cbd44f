-- What the bytes of the field peer's state say, and when they are settled by it.
use Rattle.std.specs.Prelude.{ℕ, ◌+◌, ◌-◌, ◌*◌, ◌≤◌, Bool, ◌&&◌, List, ◌≡◌, eqb, length}
use Rattle.base.specs.Bits.{pack}
use Rattle.base.specs.Bytes.{byte_at}
use Rattle.base.specs.Tab.{tab}
use Rattle.bits.specs.Row.{bit_at, Bytes}
use Rattle.bits.specs.Number.{num}
use Rattle.header.specs.declared.Signers.{Signers}
use Rattle.rules.specs.declared.Entry.{Entry}
use Rattle.rules.specs.declared.Entry.TheVariants.{Hash}
use Rattle.state.specs.Layout.{peers, items, entries, count_bytes, item_bytes}
use Rattle.state.specs.Facts.{is_cell, is_spot}
use Rattle.state.specs.Places.{cell}
use Rattle.field_rules.specs.Box.{Box}
use Rattle.field_state.specs.Layout.{held_at, gave_at, known_at, current_at, to_back_at, down_at, count_at, hash_start, size}

-- the bit of a period and an item in the set of such that begins at byte o
unfoldable pub cell_bit : List ℕ → ℕ → ℕ → ℕ → Bool
cell_bit s o p x = is_cell p x && bit_at s (8 * o + cell p x)

-- the bit of a period, an item and a signer in the database
unfoldable pub spot_bit : List ℕ → ℕ → ℕ → ℕ → Bool
spot_bit s p x k = is_spot k p x && bit_at s (8 * known_at + (cell p x * peers + (k - 1)))

-- how many hashes are heard, and heard hash e
abbrev pub heard_count : List ℕ → ℕ
heard_count s = num count_bytes s count_at

unfoldable pub hash_at : List ℕ → ℕ → Entry
hash_at s e = let o = hash_start e in Hash (byte_at s o) (byte_at s (o + 1)) (num item_bytes s (o + 2))

-- the hashes heard, as they came
unfoldable pub heard_in : List ℕ → List Entry
heard_in s = tab (heard_count s) (hash_at s)

-- what the bytes say; of what there is no room for they say that it is not there
abbrev pub box_of : List ℕ → Box
box_of s = record {
  down = eqb (byte_at s down_at) 1;
  held = cell_bit s held_at;
  db = spot_bit s;
  gave = cell_bit s gave_at;
  current = byte_at s current_at;
  to_back = byte_at s to_back_at;
  heard = heard_in s;
}

-- whole sets of it, as numbers: the items of a period, bit x for item x; the signers of an item, bit k - 1 for peer k
unfoldable pub items_in : List ℕ → ℕ → ℕ → ℕ
items_in s o p = pack items (cell_bit s o p)

unfoldable pub signers_in : List ℕ → ℕ → ℕ → Signers
signers_in s p x = record { 0 = pack peers (λ k. spot_bit s p x (k + 1)) }

-- the bytes are settled by what they say: as many as the layout has, a flag that is 0 or 1, and 0 after the last hash
pub record Canon (s : List ℕ) : Type 0 where
  pub long : length s ≡ size
  pub bytes : Bytes s
  pub flag : byte_at s down_at ≤ 1
  pub counted : heard_count s ≤ entries
  pub rest : (i : ℕ) → hash_start (heard_count s) ≤ i → byte_at s i ≡ 0

-- s are the bytes of a box, and they say b
pub record Holds (s : List ℕ) (b : Box) : Type 0 where
  pub canon : Canon s
  pub says : box_of s ≡ b
