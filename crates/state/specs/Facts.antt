-- The facts that a state can hold, when two are the same, and for which there is room.
use Rattle.std.specs.Prelude.{ℕ, ◌<◌, ◌≤◌, Bool, true, false, ◌&&◌, List, [], ◌∷◌, eqb, ltb}
use Rattle.base.specs.Bytes.{between}
use Rattle.state.specs.declared.Fact.{Fact}
use Rattle.state.specs.declared.Fact.TheVariants.{Posted, Signed, Shared, Receipted, Held, Known, Heard}
use Rattle.state.specs.Layout.{peers, periods, items, entries}

-- a fact as numbers: that of its kind, and its fields
abbrev pub fields : Fact → List ℕ
fields (Posted i) = 0 ∷ i ∷ []
fields (Signed k p i) = 1 ∷ k ∷ p ∷ i ∷ []
fields (Shared k p i) = 2 ∷ k ∷ p ∷ i ∷ []
fields (Receipted p i) = 3 ∷ p ∷ i ∷ []
fields (Held j p i) = 4 ∷ j ∷ p ∷ i ∷ []
fields (Known j p i k) = 5 ∷ j ∷ p ∷ i ∷ k ∷ []
fields (Heard j e) = 6 ∷ j ∷ e ∷ []

-- the same numbers in the same order
abbrev pub same_fields : List ℕ → List ℕ → Bool
same_fields [] [] = true
same_fields [] (y ∷ ys) = false
same_fields (x ∷ xs) [] = false
same_fields (x ∷ []) (y ∷ []) = eqb x y
same_fields (x ∷ []) (y ∷ b ∷ ys) = false
same_fields (x ∷ a ∷ xs) (y ∷ []) = false
same_fields (x ∷ a ∷ xs) (y ∷ b ∷ ys) = eqb x y && same_fields (a ∷ xs) (b ∷ ys)

-- the same fact
abbrev pub same_fact : Fact → Fact → Bool
same_fact f g = same_fields (fields f) (fields g)

-- k is one of the peers for which there is room
abbrev pub is_peer : ℕ → Bool
is_peer k = between 1 k peers

-- there is room for the period and the item
abbrev pub is_cell : ℕ → ℕ → Bool
is_cell p i = ltb p periods && ltb i items

-- there is room for the peer and the period
abbrev pub is_row : ℕ → ℕ → Bool
is_row j p = is_peer j && ltb p periods

-- there is room for the peer, the period and the item
abbrev pub is_spot : ℕ → ℕ → ℕ → Bool
is_spot k p i = is_peer k && is_cell p i

-- there is room for the fact
abbrev pub in_range : Fact → Bool
in_range (Posted i) = ltb i items
in_range (Signed k p i) = is_spot k p i
in_range (Shared k p i) = is_spot k p i
in_range (Receipted p i) = is_cell p i
in_range (Held j p i) = is_spot j p i
in_range (Known j p i k) = is_peer j && is_spot k p i
in_range (Heard j e) = is_peer j && ltb e entries

-- the same, as facts on the numbers

abbrev pub Peer : ℕ → Type 0
Peer k = (1 ≤ k) × (k ≤ peers)

abbrev pub Cell : ℕ → ℕ → Type 0
Cell p i = (p < periods) × (i < items)

abbrev pub Row : ℕ → ℕ → Type 0
Row j p = Peer j × (p < periods)

abbrev pub Spot : ℕ → ℕ → ℕ → Type 0
Spot k p i = Peer k × Cell p i

abbrev pub Within : Fact → Type 0
Within (Posted i) = i < items
Within (Signed k p i) = Spot k p i
Within (Shared k p i) = Spot k p i
Within (Receipted p i) = Cell p i
Within (Held j p i) = Spot j p i
Within (Known j p i k) = Peer j × Spot k p i
Within (Heard j e) = Peer j × (e < entries)
