-- The four numbers of an entry, as they stand in the bytes.
use Rattle.std.specs.Prelude.{ℕ, ◌+◌, ◌*◌, ◌%◌, ◌^◌, Bool, cond, ◌&&◌, ◌||◌, not, List, eqb, ltb}
use Rattle.base.specs.Below.{any}
use Rattle.base.specs.Bytes.{byte_at, between}
use Rattle.bits.specs.Number.{num}
use Rattle.marks.specs.New.{marks}
use Rattle.state.specs.Layout.{periods, item_bytes, entry_start, signer_in, period_in, board_in, hash_kind, backing_kind, board_kind}
use Rattle.header.specs.declared.Head.{Head}

-- a board has no signer; a hash and a backing have a peer of the table; there is no other kind
unfoldable pub signer_ok : ℕ → ℕ → ℕ → Bool
signer_ok n kind signer =
    cond (eqb kind board_kind) (eqb signer 0) ((eqb kind hash_kind || eqb kind backing_kind) && between 1 signer n)

-- the four numbers of an entry are those of an entry of the table
unfoldable pub four_ok : Head → ℕ → ℕ → ℕ → ℕ → Bool
four_ok h kind signer period board = signer_ok h.n kind signer && (ltb period h.periods && ltb board (2 ^ h.items))

-- a prime below, a step that spreads the names, and more than there are signers

abbrev pub mark_prime : ℕ
mark_prime = 32749

abbrev pub mark_step : ℕ
mark_step = 41

abbrev pub signers : ℕ
signers = 32

-- the mark of an entry's four numbers: where it differs, the entries differ, and for most that differ it does
unfoldable pub mark_of : ℕ → ℕ → ℕ → ℕ → ℕ
mark_of kind signer period board =
    (board % mark_prime + mark_step * ((kind * signers + signer) * periods + period)) % marks

module _ (s : List ℕ) where
  -- the four numbers of entry e

  abbrev pub kind_at : ℕ → ℕ
  kind_at e = byte_at s (entry_start e)

  abbrev pub signer_at : ℕ → ℕ
  signer_at e = byte_at s (entry_start e + signer_in)

  abbrev pub period_at : ℕ → ℕ
  period_at e = byte_at s (entry_start e + period_in)

  abbrev pub board_at : ℕ → ℕ
  board_at e = num item_bytes s (entry_start e + board_in)

  unfoldable pub mark_at : ℕ → ℕ
  mark_at e = mark_of (kind_at e) (signer_at e) (period_at e) (board_at e)

  -- entries e and d have the same four
  unfoldable pub same_at : ℕ → ℕ → Bool
  same_at e d =
      eqb (board_at e) (board_at d)
      && (eqb (signer_at e) (signer_at d) && (eqb (period_at e) (period_at d) && eqb (kind_at e) (kind_at d)))

  -- no entry before e has the same four
  unfoldable pub new_at : ℕ → Bool
  new_at e = not (any e (same_at e))
