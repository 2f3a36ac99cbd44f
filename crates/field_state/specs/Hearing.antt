-- Heard hashes as bytes, and one more of them.
use Rattle.std.specs.Prelude.{ℕ, ◌+◌, Bool, List, set}
use Rattle.bits.specs.Number.{stored}
use Rattle.rules.specs.declared.Entry.TheVariants.{Hash}
use Rattle.rules.specs.Bag.{same_entry, is_in, enter}
use Rattle.state.specs.Layout.{count_bytes, item_bytes}
use Rattle.field_rules.specs.Box.{Box, box_heard}
use Rattle.field_state.specs.Layout.{count_at, hash_start}
use Rattle.field_state.specs.Holding.{heard_count, hash_at, heard_in}

-- heard hash e is this one
unfoldable pub same_at : List ℕ → ℕ → ℕ → ℕ → ℕ → Bool
same_at s k p B e = same_entry (Hash k p B) (hash_at s e)

-- the hash of signer k + 1, period p and board B is heard
unfoldable pub heard_from : List ℕ → ℕ → ℕ → ℕ → Bool
heard_from s p B k = is_in (Hash (k + 1) p B) (heard_in s)

-- a hash hash_written from o on
unfoldable pub hash_written : List ℕ → ℕ → ℕ → ℕ → ℕ → List ℕ
hash_written s o k p B = stored item_bytes (set (set s o k) (o + 1) p) (o + 2) B

-- hash_written after the last, and counted
unfoldable pub appended : List ℕ → ℕ → ℕ → ℕ → List ℕ
appended s k p B = stored count_bytes (hash_written s (hash_start (heard_count s)) k p B) count_at (heard_count s + 1)

-- the box that heard it
unfoldable pub hearing : ℕ → ℕ → ℕ → Box → Box
hearing k p B b = box_heard b (enter (Hash k p B) b.heard)
