-- Row 14 of the bag: at most 256 entries, each within the table's ranges, no two the same, and 0 after the last.
use Rattle.std.specs.Prelude.{ℕ, ◌+◌, ◌-◌, ◌^◌, Bool, ◌&&◌, List, eqb, leb, ltb}
use Rattle.base.specs.Below.{every}
use Rattle.base.specs.Bytes.{byte_at, between}
use Rattle.rules.specs.declared.Entry.{Entry}
use Rattle.rules.specs.declared.Entry.TheVariants.{Hash, Backing, Board}
use Rattle.rules.specs.Bag.{kind_of, signer_of}
use Rattle.rules.specs.Valid.{different}
use Rattle.state.specs.Layout.{entries, entry_start, signer_in, size}
use Rattle.state.specs.Contents.{count, entry_at, contents}
use Rattle.header.specs.declared.Head.{Head}

module _ (h : Head) where
  -- k is a peer of the table
  abbrev pub is_peer : ℕ → Bool
  is_peer k = between 1 k h.n

  -- an entry is of the table
  abbrev pub entry_ok : Entry → Bool
  entry_ok (Hash k p B) = is_peer k && (ltb p h.periods && ltb B (2 ^ h.items))
  entry_ok (Backing k p B) = is_peer k && (ltb p h.periods && ltb B (2 ^ h.items))
  entry_ok (Board p B) = ltb p h.periods && ltb B (2 ^ h.items)

  -- entry e is of the table, and its bytes are those of the entry that they say:
  -- its kind is 1, 2 or 3, and the signer of a board is 0
  unfoldable pub entry_at_ok : List ℕ → ℕ → Bool
  entry_at_ok s e =
      eqb (byte_at s (entry_start e)) (kind_of (entry_at s e))
      && (eqb (byte_at s (entry_start e + signer_in)) (signer_of (entry_at s e)) && entry_ok (entry_at s e))

  -- at most 256 entries, each in order, no two the same, and 0 after the last
  unfoldable pub bag_ok : List ℕ → Bool
  bag_ok s =
      leb (count s) entries
      && (every (count s) (entry_at_ok s)
      && (different (contents s).bag
      && every (size - entry_start (count s)) (λ i. eqb (byte_at s (entry_start (count s) + i)) 0)))
