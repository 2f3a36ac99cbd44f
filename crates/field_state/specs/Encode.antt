-- The bytes of a given box: the layout, read the other way.
use Rattle.std.specs.Prelude.{ℕ, ◌+◌, ◌-◌, ◌*◌, ◌/◌, ◌%◌, ◌^◌, Bool, cond, List, ltb, length}
use Rattle.base.specs.Bits.{digit, pack}
use Rattle.base.specs.Tab.{tab}
use Rattle.rules.specs.declared.Entry.{Entry}
use Rattle.rules.specs.Bag.{signer_of, period_of, board_of, entry_at as nth}
use Rattle.state.specs.Layout.{peers, items}
use Rattle.field_rules.specs.Box.{Box}
use Rattle.field_state.specs.Layout.{gave_at, known_at, current_at, to_back_at, down_at, count_at, heard_at, hash_size, size}

-- bit a of a set of periods and items, and of a database
abbrev pub cell_at : (ℕ → ℕ → Bool) → ℕ → Bool
cell_at S a = S (a / items) (a % items)

abbrev pub spot_at : (ℕ → ℕ → ℕ → Bool) → ℕ → Bool
spot_at D a = D (a / peers / items) (a / peers % items) (a % peers + 1)

-- byte o of a hash, and of heard hash e, 0 where there is none
unfoldable pub hash_byte : Entry → ℕ → ℕ
hash_byte x o = cond (ltb o 1) (signer_of x) (cond (ltb o 2) (period_of x) (board_of x / 256 ^ (o - 2) % 256))

unfoldable pub heard_byte : List Entry → ℕ → ℕ → ℕ
heard_byte l e o = cond (ltb e (length l)) (hash_byte (nth l e) o) 0

-- byte i of the box
unfoldable pub box_byte : Box → ℕ → ℕ
box_byte b i =
    cond (ltb i gave_at) (pack 8 (λ k. cell_at b.held (8 * i + k)))
    (cond (ltb i known_at) (pack 8 (λ k. cell_at b.gave (8 * (i - gave_at) + k)))
    (cond (ltb i current_at) (pack 8 (λ k. spot_at b.db (8 * (i - known_at) + k)))
    (cond (ltb i to_back_at) b.current
    (cond (ltb i down_at) b.to_back
    (cond (ltb i count_at) (digit b.down)
    (cond (ltb i heard_at) (length b.heard / 256 ^ (i - count_at) % 256)
    (heard_byte b.heard ((i - heard_at) / hash_size) ((i - heard_at) % hash_size))))))))

-- the bytes of a box
unfoldable pub encode : Box → List ℕ
encode b = tab size (box_byte b)
