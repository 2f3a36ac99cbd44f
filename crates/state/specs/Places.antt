-- The bit at which each fact stands, and the fact that stands at each bit.
use Rattle.std.specs.Prelude.{ℕ, ◌+◌, ◌-◌, ◌*◌, ◌/◌, ◌%◌, cond, ltb}
use Rattle.state.specs.declared.Fact.{Fact}
use Rattle.state.specs.declared.Fact.TheVariants.{Posted, Signed, Shared, Receipted, Held, Known, Heard}
use Rattle.state.specs.Layout.{peers, periods, items, entries, posted_at, signed_at, shared_at, receipted_at, held_at, database_at, heard_at}

-- places in the order of period and item, of peer and period, and of peer, period and item

abbrev pub cell : ℕ → ℕ → ℕ
cell p i = p * items + i

abbrev pub row : ℕ → ℕ → ℕ
row j p = (j - 1) * periods + p

abbrev pub spot : ℕ → ℕ → ℕ → ℕ
spot j p i = row j p * items + i

-- the bit at which a fact stands
abbrev pub place : Fact → ℕ
place (Posted i) = 8 * posted_at + i
place (Signed k p i) = 8 * signed_at + (cell p i * peers + (k - 1))
place (Shared k p i) = 8 * shared_at + (cell p i * peers + (k - 1))
place (Receipted p i) = 8 * receipted_at + cell p i
place (Held j p i) = 8 * held_at + spot j p i
place (Known j p i k) = 8 * database_at + (spot j p i * peers + (k - 1))
place (Heard j e) = 8 * heard_at + ((j - 1) * entries + e)

-- the facts of each kind, from the number of its bit among those of the kind

abbrev pub posted_by : ℕ → Fact
posted_by a = Posted a

abbrev pub signed_by : ℕ → Fact
signed_by a = Signed (a % peers + 1) (a / peers / items) (a / peers % items)

abbrev pub shared_by : ℕ → Fact
shared_by a = Shared (a % peers + 1) (a / peers / items) (a / peers % items)

abbrev pub receipted_by : ℕ → Fact
receipted_by a = Receipted (a / items) (a % items)

abbrev pub held_by : ℕ → Fact
held_by a = Held (a / items / periods + 1) (a / items % periods) (a % items)

abbrev pub known_by : ℕ → Fact
known_by a = Known (a / peers / items / periods + 1) (a / peers / items % periods) (a / peers % items) (a % peers + 1)

abbrev pub heard_by : ℕ → Fact
heard_by a = Heard (a / entries + 1) (a % entries)

-- the fact that stands at bit a
unfoldable pub fact_at : ℕ → Fact
fact_at a =
    cond (ltb a (8 * signed_at)) (posted_by (a - 8 * posted_at))
    (cond (ltb a (8 * shared_at)) (signed_by (a - 8 * signed_at))
    (cond (ltb a (8 * receipted_at)) (shared_by (a - 8 * shared_at))
    (cond (ltb a (8 * held_at)) (receipted_by (a - 8 * receipted_at))
    (cond (ltb a (8 * database_at)) (held_by (a - 8 * held_at))
    (cond (ltb a (8 * heard_at)) (known_by (a - 8 * database_at))
    (heard_by (a - 8 * heard_at)))))))
