-- The bytes of an entry: whether they are these, whose they are, and the bag with an entry more.
use Rattle.std.specs.Prelude.{ℕ, ◌+◌, Bool, ◌&&◌, cond, List, Option, Some, None, eqb, set}
use Rattle.base.specs.Bytes.{byte_at}
use Rattle.bits.specs.Number.{num, stored}
use Rattle.rules.specs.declared.Entry.{Entry}
use Rattle.rules.specs.declared.Entry.TheVariants as entry
use Rattle.bag.specs.declared.Kind.{Kind}
use Rattle.bag.specs.declared.Kind.TheVariants.{Hash, Backing, Board}
use Rattle.bag.specs.declared.Four.{Four}
use Rattle.state.specs.Layout.{hash_kind, backing_kind, board_kind, item_bytes, count_bytes, count_at, signer_in, period_in, board_in, entry_start}
use Rattle.rules.specs.Bag.{kind_of, signer_of, period_of, board_of}
use Rattle.state.specs.Contents.{count}

-- the byte of a kind
abbrev pub byte_of : Kind → ℕ
byte_of Hash = hash_kind
byte_of Backing = backing_kind
byte_of Board = board_kind

-- the kind of an entry
abbrev pub kind_in : Entry → Kind
kind_in (entry.Hash k p B) = Hash
kind_in (entry.Backing k p B) = Backing
kind_in (entry.Board p B) = Board

-- its four numbers
abbrev pub four_of : Entry → Four
four_of x = record { kind = kind_in x; signer = signer_of x; period = period_of x; board = board_of x }

-- the signer of an entry of this kind, period and board; 0 for any other entry
unfoldable pub signer_with : ℕ → ℕ → ℕ → Entry → ℕ
signer_with kind period board x =
    cond (eqb (period_of x) period && (eqb (kind_of x) kind && eqb (board_of x) board)) (signer_of x) 0

-- the same where such an entry is told from any other
unfoldable pub signer_found : ℕ → ℕ → ℕ → Entry → Option ℕ
signer_found kind period board x =
    cond (eqb (period_of x) period && (eqb (kind_of x) kind && eqb (board_of x) board)) (Some (signer_of x)) None

-- the same of the bytes from o on
unfoldable pub written_signer : List ℕ → ℕ → ℕ → ℕ → ℕ → Option ℕ
written_signer s o kind period board =
    cond (eqb (byte_at s (o + period_in)) period && (eqb (byte_at s o) kind && eqb (num item_bytes s (o + board_in)) board))
    (Some (byte_at s (o + signer_in)))
    None

-- the bytes from o on are those of an entry with these four
unfoldable pub is_written : List ℕ → ℕ → ℕ → ℕ → ℕ → ℕ → Bool
is_written s o kind signer period board =
    eqb (byte_at s (o + signer_in)) signer
    && (eqb (num item_bytes s (o + board_in)) board
    && (eqb (byte_at s (o + period_in)) period && eqb (byte_at s o) kind))

-- an entry with these four, written from o on
unfoldable pub written : List ℕ → ℕ → ℕ → ℕ → ℕ → ℕ → List ℕ
written s o kind signer period board =
    stored item_bytes (set (set (set s o kind) (o + signer_in) signer) (o + period_in) period) (o + board_in) board

-- the entry x written from o on
unfoldable pub entered : List ℕ → ℕ → Entry → List ℕ
entered s o x = written s o (kind_of x) (signer_of x) (period_of x) (board_of x)

-- the entry x written after the last, and counted
unfoldable pub appended : List ℕ → Entry → List ℕ
appended s x = stored count_bytes (entered s (entry_start (count s)) x) count_at (count s + 1)
