-- The facts by the regions of the layout: which bits of each region the table and the bag allow.
use Rattle.std.specs.Prelude.{ℕ, ◌*◌, Bool, ◌&&◌, List}
use Rattle.rules.specs.declared.Entry.{Entry}
use Rattle.rules.specs.Bag.{is_hash, entry_at}
use Rattle.state.specs.Layout.{peers, periods, items, peer_bytes, item_bytes, posted_at, signed_at, shared_at, receipted_at, held_at, database_at, heard_at}
use Rattle.state.specs.Contents.{contents}
use Rattle.header.specs.declared.Head.{Head}
use Rattle.valid.specs.Rows.{only_in, first, in_rows}

-- the bytes of the set of entries that a peer heard
abbrev pub entry_bytes : ℕ
entry_bytes = 32

-- entry e is a hash
unfoldable pub hash_in : List Entry → ℕ → Bool
hash_in bag e = is_hash (entry_at bag e)

module _ (h : Head) where
  -- the items of the table, by period
  abbrev pub cells : ℕ → Bool
  cells = in_rows h.periods item_bytes (first h.items)

  -- the peers of the table, by item
  abbrev pub seats : ℕ → Bool
  seats = in_rows h.items peer_bytes (first h.n)

  -- the peers of the table, by period and item
  abbrev pub spots : ℕ → Bool
  spots = in_rows h.periods (items * peer_bytes) seats

  module _ (s : List ℕ) where
    -- posted items, receipts, and the items that each peer holds

    unfoldable pub posted_ok : Bool
    posted_ok = only_in item_bytes s posted_at (first h.items)

    unfoldable pub receipted_ok : Bool
    receipted_ok = only_in (periods * item_bytes) s receipted_at cells

    unfoldable pub held_ok : Bool
    held_ok = only_in (peers * (periods * item_bytes)) s held_at (in_rows h.n (periods * item_bytes) cells)

    -- signatures and receipt shares outside, and each peer's database

    unfoldable pub signed_ok : Bool
    signed_ok = only_in (periods * (items * peer_bytes)) s signed_at spots

    unfoldable pub shared_ok : Bool
    shared_ok = only_in (periods * (items * peer_bytes)) s shared_at spots

    unfoldable pub known_ok : Bool
    known_ok =
        only_in (peers * (periods * (items * peer_bytes))) s database_at
        (in_rows h.n (periods * (items * peer_bytes)) spots)

    -- the entries that each peer heard
    unfoldable pub heard_ok : Bool
    heard_ok = only_in (peers * entry_bytes) s heard_at (in_rows h.n entry_bytes (hash_in (contents s).bag))

    -- the sets of items, and the sets of peers
    abbrev pub item_sets_ok : Bool
    item_sets_ok = posted_ok && (receipted_ok && held_ok)

    abbrev pub peer_sets_ok : Bool
    peer_sets_ok = signed_ok && (shared_ok && known_ok)
