-- A valid box, row 14 for the field peer: every set, counter and heard hash is within the table's ranges, c is at most
-- p, at most 256 hashes are heard, and no two are the same.
use Rattle.std.specs.Prelude.{ℕ, ◌≤◌, ◌<◌, true, ◌≡◌}
use Rattle.rules.specs.declared.Entry.{Entry}
use Rattle.rules.specs.Table.{Table}
use Rattle.rules.specs.Bag.{is_in, is_hash}
use Rattle.rules.specs.Valid.{Peer, Cell, BagIn}
use Rattle.field_rules.specs.Box.{Box}
use Rattle.field_rules.specs.Message.{Message, handed, taken, fetched, told, signs, shares, closes, hashes, backs, falls, rises, row_items, row_peers}

pub record BoxIn (T : Table) (b : Box) : Type 0 where
  pub holds : (p x : ℕ) → b.held p x ≡ true → Cell T p x
  pub knows : (p x k : ℕ) → b.db p x k ≡ true → Cell T p x × Peer T k
  pub gives : (p x : ℕ) → b.gave p x ≡ true → Cell T p x
  pub opens : b.current ≤ T.periods
  pub behind : b.to_back ≤ b.current
  pub store : BagIn T b.heard
  pub hashes : (e : Entry) → is_in e b.heard ≡ true → is_hash e ≡ true

-- a message's rows have items and signers only where it has place for them
abbrev pub InPlace : Message → Type 0
InPlace (fetched k p rows) = (x l : ℕ) → rows x l ≡ true → (x < row_items) × ((1 ≤ l) × (l ≤ row_peers))
InPlace (handed x) = Unit {0}
InPlace (taken k p x) = Unit {0}
InPlace (told k p B) = Unit {0}
InPlace (signs x) = Unit {0}
InPlace (shares x) = Unit {0}
InPlace closes = Unit {0}
InPlace (hashes p) = Unit {0}
InPlace backs = Unit {0}
InPlace falls = Unit {0}
InPlace rises = Unit {0}
