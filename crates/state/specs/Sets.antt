-- Sets within contents, as numbers: of peers, bit k - 1 for peer k; of items, bit i for item i.
-- And signers added to a database.
use Rattle.std.specs.Prelude.{ℕ, ◌+◌, ◌-◌, Bool, false, ◌&&◌, eqb}
use Rattle.base.specs.Bits.{bit, pack}
use Rattle.header.specs.declared.Signers.{Signers}
use Rattle.header.specs.declared.Sharers.{Sharers}
use Rattle.state.specs.declared.Fact.{Fact}
use Rattle.state.specs.declared.Fact.TheVariants.{Posted, Signed, Shared, Receipted, Held, Known, Heard}
use Rattle.state.specs.Layout.{peers, items}
use Rattle.state.specs.Facts.{is_peer}
use Rattle.state.specs.Contents.{Contents, adding}

-- the signers that peer j's database has on an item in a period
unfoldable pub signers_of : Contents → ℕ → ℕ → ℕ → Signers
signers_of c j p i = record { 0 = pack peers (λ k. c.has (Known j p i (k + 1))) }

-- the peers whose receipt shares on an item in a period are outside
unfoldable pub sharers_of : Contents → ℕ → ℕ → Sharers
sharers_of c p i = record { 0 = pack peers (λ k. c.has (Shared (k + 1) p i)) }

-- the items that peer j holds in a period
unfoldable pub held_of : Contents → ℕ → ℕ → ℕ
held_of c j p = pack items (λ i. c.has (Held j p i))

-- the posted items
unfoldable pub posted_of : Contents → ℕ
posted_of c = pack items (λ i. c.has (Posted i))

-- peer k is in the set of peers x
unfoldable pub in_set : ℕ → ℕ → Bool
in_set x k = is_peer k && bit x (k - 1)

-- the set x of peers as signers on the item i
unfoldable pub on_item : ℕ → ℕ → ℕ → ℕ → Bool
on_item i x y k = eqb y i && in_set x k

-- the facts that peer j's database has these signers on the items of period p
unfoldable pub known_to : ℕ → ℕ → (ℕ → ℕ → Bool) → Fact → Bool
known_to j p signers (Posted i) = false
known_to j p signers (Signed k q i) = false
known_to j p signers (Shared k q i) = false
known_to j p signers (Receipted q i) = false
known_to j p signers (Held k q i) = false
known_to j p signers (Known k q i l) = eqb k j && (eqb q p && signers i l)
known_to j p signers (Heard k e) = false

-- 8 fetch: peer j's database of period p has what it had and what the other's has
unfoldable pub fetched : ℕ → ℕ → ℕ → Contents → Contents
fetched j other p c = adding (known_to j p (λ i k. c.has (Known other p i k))) c
