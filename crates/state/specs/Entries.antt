-- An entry of the bag as its bytes have it: kind, signer, period, board. A board has no signer: 0 stands there.
use Rattle.std.specs.Prelude.{ℕ, ◌-◌, ◌/◌, ◌%◌, ◌^◌, ◌<◌, cond, eqb, ltb}
use Rattle.rules.specs.declared.Entry.{Entry}
use Rattle.rules.specs.declared.Entry.TheVariants.{Hash, Backing, Board}
use Rattle.rules.specs.Bag.{kind_of, signer_of, period_of, board_of}
use Rattle.state.specs.Layout.{item_bytes, hash_kind, backing_kind, signer_in, period_in, board_in}

-- the entry of these four
unfoldable pub entry_of : ℕ → ℕ → ℕ → ℕ → Entry
entry_of kind signer period board =
    cond (eqb kind hash_kind) (Hash signer period board)
    (cond (eqb kind backing_kind) (Backing signer period board)
    (Board period board))

-- byte o of the eleven
unfoldable pub entry_byte : Entry → ℕ → ℕ
entry_byte x o =
    cond (ltb o signer_in) (kind_of x)
    (cond (ltb o period_in) (signer_of x)
    (cond (ltb o board_in) (period_of x)
    (board_of x / 256 ^ (o - board_in) % 256)))

-- a signer, a period and a board fit their bytes
pub record FieldsFit (k p b : ℕ) : Type 0 where
  pub signer : k < 256
  pub period : p < 256
  pub board : b < 256 ^ item_bytes

abbrev pub EntryFits : Entry → Type 0
EntryFits x = FieldsFit (signer_of x) (period_of x) (board_of x)
