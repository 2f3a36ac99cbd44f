-- The bytes of given contents: the layout, read the other way.
use Rattle.std.specs.Prelude.{ℕ, ◌+◌, ◌-◌, ◌*◌, ◌/◌, ◌%◌, ◌^◌, cond, List, ltb, length}
use Rattle.base.specs.Bits.{pack}
use Rattle.rules.specs.declared.Entry.{Entry}
use Rattle.base.specs.Tab.{tab}
use Rattle.state.specs.Layout.{current_at, count_at, bag_at, entry_size, size}
use Rattle.state.specs.Places.{fact_at}
use Rattle.state.specs.Numbers.{number_of}
use Rattle.rules.specs.Bag.{entry_at as nth}
use Rattle.state.specs.Entries.{entry_byte}
use Rattle.state.specs.Contents.{Contents}

-- byte o of entry e, and 0 where there is none
unfoldable pub bag_byte : List Entry → ℕ → ℕ → ℕ
bag_byte bag e o = cond (ltb e (length bag)) (entry_byte (nth bag e) o) 0

-- byte b of the state
unfoldable pub state_byte : Contents → ℕ → ℕ
state_byte c b =
    cond (ltb b current_at) (pack 8 (λ k. c.has (fact_at (8 * b + k))))
    (cond (ltb b count_at) (c.number (number_of b))
    (cond (ltb b bag_at) (length c.bag / 256 ^ (b - count_at) % 256)
    (bag_byte c.bag ((b - bag_at) / entry_size) ((b - bag_at) % entry_size))))

-- the bytes of a state that holds c
unfoldable pub encode : Contents → List ℕ
encode c = tab size (state_byte c)
